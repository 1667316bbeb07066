-- Document 01, "Listing": "then the decimal number"; a bias is a signed one.
use Rattle.std.specs.Prelude.{ℕ, zero, suc, ◌+◌, ◌-◌, ◌*◌, ◌/◌, ◌%◌, ◌<◌, ◌≤◌, Bool, true, false, cond, List, [], ◌∷◌, ◌++◌, ◌≡◌, ltb, ℤ, pos, negsuc}
use Prim.Native.Char.{code}
use Rattle.listing.specs.Text.{ascii, when}

-- the character of a digit, 0 to 9
abbrev pub digit : ℕ → ℕ
digit d = code "0" + d

-- ---- what decimal notation is

-- every byte is one of the characters 0 to 9
abbrev pub AreDigits : List ℕ → Type 0
AreDigits [] = Unit
AreDigits (b ∷ bs) = (digit 0 ≤ b) × (b ≤ digit 9) × AreDigits bs

-- the number that digits say when they follow others that say n, the most significant first
abbrev pub said_after : ℕ → List ℕ → ℕ
said_after n [] = n
said_after n (b ∷ bs) = said_after (10 * n + (b - digit 0)) bs

-- there is a first digit, and it is 0 only where it stands alone
abbrev pub NoLeadingZero : List ℕ → Type 0
NoLeadingZero [] = ⊥
NoLeadingZero (b ∷ []) = Unit
NoLeadingZero (b ∷ (d ∷ ds)) = digit 0 < b

-- bs is the decimal notation of n
pub record IsDecimal (n : ℕ) (bs : List ℕ) : Type 0 where
  pub digits : AreDigits bs
  pub value : said_after 0 bs ≡ n
  pub leading : NoLeadingZero bs

-- ---- the notation of each number; that it is the one and only is proved in proofs/Notation

-- the last digit after the notation of a tenth; `steps` bounds the number of digits
abbrev pub notation : ℕ → ℕ → List ℕ
notation zero n = []
notation (suc steps) n = cond (ltb n 10) (digit n ∷ []) (notation steps (n / 10) ++ (digit (n % 10) ∷ []))

unfoldable pub decimal : ℕ → List ℕ
decimal n = notation (suc n) n

-- a signed number: a minus sign before the notation of what a negative one lacks of 0
abbrev pub is_negative : ℤ → Bool
is_negative (pos n) = false
is_negative (negsuc n) = true

abbrev pub magnitude : ℤ → ℕ
magnitude (pos n) = n
magnitude (negsuc n) = suc n

unfoldable pub signed_decimal : ℤ → List ℕ
signed_decimal z = when (is_negative z) (ascii "-") ++ decimal (magnitude z)
