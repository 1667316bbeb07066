-- The bytes of a field without a stray bit are its values, in the order of the flat form.
-- Assumes nothing.
use Prim.Native.Nat.{ℕ, ◌+◌, ◌*◌, ◌/◌, ◌%◌, ◌^◌, ◌<◌}
use mathlib.Core.Bool.{Bool, true, false, not, cond}
use mathlib.Core.List.{[], ◌∷◌, ◌++◌}
use mathlib.Core.Path.{◌≡◌, refl, ◌∙◌, sym, ap, ap₂}
use native.Mathlib.Omega.{arith}
use lib.Dec.{eqb}
use mir.Val.{bool_byte}
use Rattle.layout.specs.Layout as layout
use Rattle.layout.specs.Layout.{value_of, word_bytes, destination_rows, source_rows, defined_bits, destination_bits, is_stray}
use Rattle.layout.specs.Records.{direct_of, indexed_of, is_indexed, source_of, destination_of}
use Rattle.layout.specs.declared.record.Operand.TheVariants.{Unused as NoOperand, Direct, Indexed}
use Rattle.layout.proofs.Stray.{all_kept}
use Rattle.bytecode.proofs.Words.{long_bytes}
use Rattle.bytecode.proofs.RegisterAgain.{rising as destination-rising}
use Rattle.bytecode.proofs.SourceAgain.{rising as source-rising}
use Rattle.agal_c.specs.Values.{destination_values, operand_values}
use Rattle.agal_c.specs.computed.Delivery.{source_values}
use Rattle.agal_c.specs.Flat.{destination_bytes, operand_bytes}

-- an unused field is 0
unused_zero : (w : ℕ) → is_stray 0 w ≡ false → w ≡ 0
unused_zero w e = sym (all_kept [] tt w e)

-- the first four bytes of a destination or a source: its number and two values of a byte, whatever stands above
low_bytes : (n a b high w : ℕ) → n < 65536 → a < 256 → b < 256 → w ≡ n + 65536 * a + 16777216 * b + 2 ^ 32 * high
    → word_bytes w ≡ n % 256 ∷ n / 256 ∷ a ∷ b ∷ []
low_bytes n a b high w hn ha hb e =
    ap word_bytes (omega arith) ∙ long_bytes (n % 256) (n / 256) a b (omega arith) (omega arith) ha hb high

-- the next four of a source, without D: three values of a byte, and 0
high_bytes : (low a b c d w : ℕ) → low < 2 ^ 32 → a < 256 → b < 256 → c < 256 → w ≡ low + 2 ^ 32 * (a + 256 * b + 65536 * c) + 2 ^ 63 * d
    → word_bytes (w % 2 ^ 63 / 2 ^ 32) ≡ a ∷ b ∷ c ∷ 0 ∷ []
high_bytes low a b c d w hl ha hb hc e = ap word_bytes (omega arith) ∙ long_bytes a b c 0 ha hb hc (omega arith) 0

-- ---- a destination: its form, which is 1 or 0, and its field

pub destination_bytes_lem : (used : Bool) (w : ℕ) → is_stray (destination_bits used) w ≡ false
    → bool_byte used ∷ word_bytes w ≡ destination_bytes (destination_values (destination_of used w))
destination_bytes_lem true w e =
    let kept = all_kept destination_rows destination-rising w e in
    ap (λ l. 1 ∷ l)
    (low_bytes (value_of layout.number w) (value_of layout.mask w) (value_of layout.masked_kind w) 0 w (omega arith) (omega arith) (omega arith) (omega (arith, kept)))
destination_bytes_lem false w e = rw (unused_zero w e) refl

-- ---- a source: a form, its field without D, and 0

pub source_bytes : (form w : ℕ) → is_stray (defined_bits source_rows) w ≡ false
    → form ∷ word_bytes w ++ word_bytes (w % 2 ^ 63 / 2 ^ 32) ++ 0 ∷ [] ≡ operand_bytes (source_values form w)
source_bytes form w e =
    let kept = all_kept source_rows source-rising w e in
    let t = value_of layout.kind w in
    let i = value_of layout.index_kind w in
    let q = value_of layout.component w in
    let d = value_of layout.indirect w in
    ap₂ (λ low high. form ∷ low ++ high ++ 0 ∷ [])
    (low_bytes (value_of layout.number w) (value_of layout.offset w) (value_of layout.swizzle w) (t + 256 * i + 65536 * q + 2 ^ 31 * d) w (omega arith) (omega arith) (omega arith) (omega (arith, kept)))
    (high_bytes (w % 2 ^ 32) t i q d w (omega arith) (omega arith) (omega arith) (omega arith) (omega (arith, kept)))

-- a direct and an indexed source differ in their form alone
pub by_form : (w : ℕ) → source_values (cond (is_indexed w) 2 1) w ≡ operand_values (source_of w)
by_form w = go (eqb (value_of layout.indirect w) 0)
  where
    go : (direct : Bool) → source_values (cond (not direct) 2 1) w ≡ operand_values (cond direct (Direct (direct_of w)) (Indexed (indexed_of w)))
    go true = refl
    go false = refl

-- an unused field is a source's field too, and has no value but 0
pub unused_clean : (w : ℕ) → is_stray 0 w ≡ false → is_stray (defined_bits source_rows) w ≡ false
unused_clean w e = rw (unused_zero w e) refl

pub unused_values : (w : ℕ) → is_stray 0 w ≡ false → source_values 0 w ≡ operand_values NoOperand
unused_values w e = rw (unused_zero w e) refl
