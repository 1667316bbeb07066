-- The decimal notation of a number: `decimal` is the one and only, and its digits counted from the largest unit.
-- Assumes nothing.
use Prim.Native.Nat.{ℕ, zero, suc, ◌+◌, ◌-◌, ◌*◌, ◌/◌, ◌%◌, ◌<◌, ◌≤◌}
use mathlib.Core.List.{List, [], ◌∷◌, ◌++◌, append-nil, append_assoc}
use mathlib.Core.Path.{◌≡◌, refl, ◌∙◌, sym, ap}
use native.Mathlib.Decide.{dec_lt, dec_le}
use native.Mathlib.Omega.{arith}
use lib.IntN.{ℤ, pos, negsuc, nat_abs}
use lib.Signed.{lt_z}
use borrow.Author.Tests.{lt-ltb, le-ltb, le-leb, lt-leb}
use Rattle.listing.specs.Decimal.{digit, AreDigits, said_after, NoLeadingZero, IsDecimal, notation, decimal, signed_decimal}
use Rattle.listing.specs.computed.Writers.{digit_at}
use Rattle.listing.specs.Text.{ascii, when}

-- ---- the last digit and the rest

-- any bound on the number of digits serves
enough : (f g n : ℕ) → n < f → n < g → notation f n ≡ notation g n
enough zero g n h k = absurd (omega arith)
enough (suc f) zero n h k = absurd (omega arith)
enough (suc f) (suc g) n h k =
    elim (dec_lt n 10) [
      | yes l ↦ simp (lt-ltb n 10 l)
      | no l ↦ rw (le-ltb n 10 (omega (arith, l)), enough f g (n / 10) (omega (arith, l)) (omega (arith, l)))
    ]

pub one_digit : (n : ℕ) → n < 10 → decimal n ≡ digit n ∷ []
unfolding decimal
one_digit n h = simp (lt-ltb n 10 h)

pub more_digits : (n : ℕ) → 10 ≤ n → decimal n ≡ decimal (n / 10) ++ (digit (n % 10) ∷ [])
unfolding decimal
more_digits n h = rw (le-ltb n 10 h, enough n (suc (n / 10)) (n / 10) (omega arith) (omega arith))

-- ---- it is a decimal notation

digits_snoc : (bs : List ℕ) (d : ℕ) → AreDigits bs → d < 10 → AreDigits (bs ++ (digit d ∷ []))
digits_snoc [] d a h = (omega arith, omega arith, tt)
digits_snoc (b ∷ bs) d a h = (a.0, a.1, digits_snoc bs d a.2 h)

said_snoc : (n : ℕ) (bs : List ℕ) (d : ℕ) → said_after n (bs ++ (digit d ∷ [])) ≡ 10 * said_after n bs + d
said_snoc n [] d = omega arith
said_snoc n (b ∷ bs) d = said_snoc (10 * n + (b - 48)) bs d

leading_snoc : (bs : List ℕ) (d : ℕ) → NoLeadingZero bs → 0 < said_after 0 bs → NoLeadingZero (bs ++ (digit d ∷ []))
leading_snoc [] d l h = absurd l
leading_snoc (b ∷ []) d l h = omega arith
leading_snoc (b ∷ (e ∷ es)) d l h = l

is_notation : (f n : ℕ) → n < f → IsDecimal n (notation f n)
is_notation zero n h = absurd (omega arith)
is_notation (suc f) n h =
    elim (dec_lt n 10) [
      | yes l ↦ rw (lt-ltb n 10 l) (record { digits = (omega arith, omega arith, tt); value = omega arith; leading = tt })
      | no l ↦
          let i = is_notation f (n / 10) (omega (arith, l)) in
          let s = notation f (n / 10) in
          rw (le-ltb n 10 (omega (arith, l)))
          (record {
            digits = digits_snoc s (n % 10) i.digits (omega arith);
            value = said_snoc 0 s (n % 10) ∙ omega (arith, i.value);
            leading = leading_snoc s (n % 10) i.leading (omega (arith, i.value, l));
          })
    ]

pub is_decimal : (n : ℕ) → IsDecimal n (decimal n)
unfolding decimal
is_decimal n = is_notation (suc n) n (omega arith)

-- ---- and no other is

read_back : (bs : List ℕ) (n : ℕ) → 0 < n → AreDigits bs → decimal (said_after n bs) ≡ decimal n ++ bs
read_back [] n h a = sym (append-nil (decimal n))
read_back (b ∷ bs) n h a =
    let m = 10 * n + (b - 48) in
    let tenth : m / 10 ≡ n = omega (arith, a.0, a.1) in
    let last : digit (m % 10) ≡ b = omega (arith, a.0, a.1) in
    read_back bs m (omega arith) a.2
    ∙ ap (λ (l : List ℕ). l ++ bs) (more_digits m (omega arith) ∙ ap (λ (k : ℕ). decimal k ++ (digit (m % 10) ∷ [])) tenth ∙ ap (λ (d : ℕ). decimal n ++ (d ∷ [])) last)
    ∙ append_assoc (decimal n) (b ∷ []) bs

pub unique : (n : ℕ) (bs : List ℕ) → IsDecimal n bs → bs ≡ decimal n
unique n [] i = absurd i.leading
unique n (b ∷ []) i =
    let a = i.digits in
    sym (one_digit n (omega (arith, a.0, a.1, i.value)) ∙ ap (λ (d : ℕ). d ∷ []) (omega (arith, a.0, i.value)))
unique n (b ∷ (d ∷ ds)) i =
    let a = i.digits in
    let m = 10 * 0 + (b - 48) in
    let first : digit m ≡ b = omega (arith, i.leading) in
    sym (ap decimal (sym i.value)
    ∙ read_back (d ∷ ds) m (omega (arith, i.leading)) a.2
    ∙ ap (λ (l : List ℕ). l ++ (d ∷ ds)) (one_digit m (omega (arith, a.1)) ∙ ap (λ (k : ℕ). k ∷ []) first))

-- ---- a signed number

pub signed : (z : ℤ) → signed_decimal z ≡ when (lt_z z (pos 0)) (ascii "-") ++ decimal (nat_abs z)
unfolding signed_decimal
signed (pos n) = simp (le-ltb n 0 (omega arith)) refl
signed (negsuc n) = refl

-- ---- digits by their units

-- none where the number is smaller than the unit
no_digit : (n unit : ℕ) → n < unit → digit_at n unit ≡ []
no_digit n unit h = simp (lt-leb unit n h)

-- a unit of the number is a tenth of it in the number's tenth
shifted : (n u v : ℕ) → (n < v → n / 10 < u) → (v ≤ n → u ≤ n / 10) → n / 10 / u % 10 ≡ n / v % 10 → digit_at (n / 10) u ≡ digit_at n v
shifted n u v below above e =
    elim (dec_le v n) [
      | yes l ↦ simp (le-leb v n l, le-leb u (n / 10) (above l), e)
      | no l ↦ simp (lt-leb v n (omega (arith, l)), lt-leb u (n / 10) (below (omega (arith, l))))
    ]

tens : (n : ℕ) → 10 ≤ n → digit_at n 10 ≡ digit (n / 10 % 10) ∷ []
tens n h = simp (le-leb 10 n h)

last_of : (n : ℕ) → n < 10 → decimal n ≡ digit (n % 10) ∷ []
last_of n h = one_digit n h ∙ ap (λ (d : ℕ). digit d ∷ []) (omega arith)

two : (n : ℕ) → n < 100 → decimal n ≡ digit_at n 10 ++ (digit (n % 10) ∷ [])
two n h =
    elim (dec_lt n 10) [
      | yes l ↦ rw (no_digit n 10 l) (last_of n l)
      | no l ↦ rw (tens n (omega (arith, l)), more_digits n (omega (arith, l)), last_of (n / 10) (omega arith))
    ]

three : (n : ℕ) → n < 1000 → decimal n ≡ digit_at n 100 ++ digit_at n 10 ++ (digit (n % 10) ∷ [])
three n h =
    elim (dec_lt n 10) [
      | yes l ↦ rw (no_digit n 100 (omega arith), no_digit n 10 l) (last_of n l)
      | no l ↦
          rw (
            tens n (omega (arith, l)),
            more_digits n (omega (arith, l)),
            two (n / 10) (omega arith),
            shifted n 10 100 (λ k. omega arith) (λ k. omega arith) (omega arith),
          )
    ]

four : (n : ℕ) → n < 10000 → decimal n ≡ digit_at n 1000 ++ digit_at n 100 ++ digit_at n 10 ++ (digit (n % 10) ∷ [])
four n h =
    elim (dec_lt n 10) [
      | yes l ↦ rw (no_digit n 1000 (omega arith), no_digit n 100 (omega arith), no_digit n 10 l) (last_of n l)
      | no l ↦
          rw (
            tens n (omega (arith, l)),
            more_digits n (omega (arith, l)),
            three (n / 10) (omega arith),
            shifted n 10 100 (λ k. omega arith) (λ k. omega arith) (omega arith),
            shifted n 100 1000 (λ k. omega arith) (λ k. omega arith) (omega arith),
          )
    ]

pub five : (n : ℕ) → n < 65536 → decimal n ≡ digit_at n 10000 ++ digit_at n 1000 ++ digit_at n 100 ++ digit_at n 10 ++ (digit (n % 10) ∷ [])
five n h =
    elim (dec_lt n 10) [
      | yes l ↦ rw (no_digit n 10000 (omega arith), no_digit n 1000 (omega arith), no_digit n 100 (omega arith), no_digit n 10 l) (last_of n l)
      | no l ↦
          rw (
            tens n (omega (arith, l)),
            more_digits n (omega (arith, l)),
            four (n / 10) (omega arith),
            shifted n 10 100 (λ k. omega arith) (λ k. omega arith) (omega arith),
            shifted n 100 1000 (λ k. omega arith) (λ k. omega arith) (omega arith),
            shifted n 1000 10000 (λ k. omega arith) (λ k. omega arith) (omega arith),
          )
    ]
