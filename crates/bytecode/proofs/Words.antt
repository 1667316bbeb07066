-- Fields and their bytes determine each other.
-- Assumes nothing.
use Prim.Native.Nat.{ℕ, zero, suc, ◌+◌, ◌*◌, ◌/◌, ◌%◌, ◌^◌, ◌<◌}
use mathlib.Core.List.{List, [], ◌∷◌, ◌++◌}
use mathlib.Core.Path.{◌≡◌, refl, ◌∙◌, sym, ap}
use native.Mathlib.Nat.{add-zero}
use native.Mathlib.Omega.{arith}
use lib.Dec.{T, ltb, ltb→lt, lit<}
use lib.ListN.{length, get_or}
use lib.Pow.{are_bytes}
use Rattle.layout.specs.Layout.{word_at, word_bytes}
use Rattle.bytecode.specs.Fields.{fields_of, bytes_of}
use Rattle.layout.specs.declared.fields.Fields.{Fields}
use Rattle.laws.proofs.Every.{both_left, both_right}
use Rattle.layout.proofs.Rows.{value_is, splits}

byte : (s : List ℕ) → T (are_bytes s) → (i : ℕ) → get_or s i 0 < 256
byte [] t i = lit< tt
byte (b ∷ s) t zero = ltb→lt b 256 (both_left (ltb b 256) (are_bytes s) t)
byte (b ∷ s) t (suc i) = byte s (both_right (ltb b 256) (are_bytes s) t) i

-- the list of f 0 to f (n - 1)
abbrev list_of : (ℕ → ℕ) → ℕ → List ℕ
list_of f zero = []
list_of f (suc n) = f 0 ∷ list_of (λ i. f (suc i)) n

written_out : (s : List ℕ) → s ≡ list_of (λ i. get_or s i 0) (length s)
written_out [] = refl
written_out (b ∷ s) = ap (λ r. b ∷ r) (written_out s)

abbrev pub four_bytes : ℕ → ℕ → ℕ → ℕ → ℕ
four_bytes a b c d = a + 256 * b + 65536 * c + 16777216 * d

module _ (a b c d : ℕ) (ha : a < 256) (hb : b < 256) (hc : c < 256) (hd : d < 256) where
  -- the bytes of a number whose low four bytes are these
  pub long_bytes : (h : ℕ) → word_bytes (four_bytes a b c d + 2 ^ 32 * h) ≡ a ∷ b ∷ c ∷ d ∷ []
  long_bytes h =
      let w = four_bytes a b c d + 2 ^ 32 * h in
      let low : w % 256 ≡ a = omega arith in
      rw (
        low,
        value_is w a b (c + 256 * d + 65536 * h) 8 8 (omega arith) ha hb,
        value_is w (a + 256 * b) c (d + 256 * h) 16 8 (omega arith) (omega arith) hc,
        value_is w (a + 256 * b + 65536 * c) d h 24 8 (omega arith) (omega arith) hd,
      )

  word_bytes_lem : word_bytes (four_bytes a b c d) ≡ a ∷ b ∷ c ∷ d ∷ []
  word_bytes_lem = ap word_bytes (sym (add-zero (four_bytes a b c d))) ∙ long_bytes 0

  high_half : (h : ℕ) → (four_bytes a b c d + 2 ^ 32 * h) / 2 ^ 32 ≡ h
  high_half h = omega arith

-- a number from its low four bytes and the rest
low_half : (w : ℕ) → four_bytes (w % 256) (w / 256 % 256) (w / 65536 % 256) (w / 16777216 % 256) + 2 ^ 32 * (w / 2 ^ 32) ≡ w
low_half w = omega (arith, splits w 0 8, splits w 8 8, splits w 16 8, splits w 24 8)

four : (w : ℕ) → w < 2 ^ 32 → four_bytes (w % 256) (w / 256 % 256) (w / 65536 % 256) (w / 16777216 % 256) ≡ w
four w h = let z : w / 2 ^ 32 ≡ 0 = omega arith in omega (arith, low_half w)

glue : (a b c d e f a' b' c' d' e' f' : List ℕ) → a ≡ a' → b ≡ b' → c ≡ c' → d ≡ d' → e ≡ e' → f ≡ f'
    → a ++ b ++ c ++ d ++ e ++ f ≡ a' ++ b' ++ c' ++ d' ++ e' ++ f'
glue a b c d e f a' b' c' d' e' f' p q r s t u = cc

-- the bytes of the fields of 24 bytes are these
pub bytes_again : (s : List ℕ) → length s ≡ 24 → T (are_bytes s) → bytes_of (fields_of s) ≡ s
bytes_again s e t =
    let b : ℕ → ℕ = λ i. get_or s i 0 in
    let h = byte s t in
    glue _ _ _ _ _ _ _ _ _ _ _ _
    (word_bytes_lem (b 0) (b 1) (b 2) (b 3) (h 0) (h 1) (h 2) (h 3))
    (word_bytes_lem (b 4) (b 5) (b 6) (b 7) (h 4) (h 5) (h 6) (h 7))
    (long_bytes (b 8) (b 9) (b 10) (b 11) (h 8) (h 9) (h 10) (h 11) (word_at s 12))
    (ap word_bytes (high_half (b 8) (b 9) (b 10) (b 11) (h 8) (h 9) (h 10) (h 11) (word_at s 12)) ∙ word_bytes_lem (b 12) (b 13) (b 14) (b 15) (h 12) (h 13) (h 14) (h 15))
    (long_bytes (b 16) (b 17) (b 18) (b 19) (h 16) (h 17) (h 18) (h 19) (word_at s 20))
    (ap word_bytes (high_half (b 16) (b 17) (b 18) (b 19) (h 16) (h 17) (h 18) (h 19) (word_at s 20)) ∙ word_bytes_lem (b 20) (b 21) (b 22) (b 23) (h 20) (h 21) (h 22) (h 23))
    ∙ sym (written_out s ∙ ap (list_of b) e)

-- the fields of the bytes of fields are these
pub fields_again : (f : Fields) → f.opcode < 2 ^ 32 → f.destination < 2 ^ 32 → f.source1 < 2 ^ 64 → f.source2 < 2 ^ 64 → fields_of (bytes_of f) ≡ f
fields_again f ho hd h1 h2 =
    rw (
      four f.opcode ho,
      four f.destination hd,
      four (f.source1 / 2 ^ 32) (omega arith),
      low_half f.source1,
      four (f.source2 / 2 ^ 32) (omega arith),
      low_half f.source2,
    )
