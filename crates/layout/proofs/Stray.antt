-- A field has no stray bit exactly where it is its rows' values, packed.
-- Assumes nothing.
use Prim.Native.Nat.{ℕ, ◌/◌, ◌%◌, ◌^◌, ◌≤◌}
use mathlib.Core.Bool.{false, not}
use mathlib.Core.List.{List}
use mathlib.Core.Path.{◌≡◌, ◌∙◌, sym, ap, subst⁻¹}
use lib.Bits.{bit_and, and_le_r, and_shr, and_mod}
use lib.Dec.{eqb}
use borrow.Author.Tests.{eq-eqb, eqb-true, not-false}
use Rattle.layout.specs.Layout.{Bits, value_of, defined_bits, is_stray}
use Rattle.std.proofs.lemmas.Nat.{and_assoc}
use Rattle.layout.proofs.Rows.{Rising, Fit, pack, values, and_rows, values_again}

pub not_stray : (d w : ℕ) → is_stray d w ≡ false → bit_and w d ≡ w
not_stray d w e = eqb-true (bit_and w d) w (not-false (eqb (bit_and w d) w) e)

-- a field with no stray bit is its values, packed
pub all_kept : (rows : List Bits) → Rising 0 rows → (w : ℕ) → is_stray (defined_bits rows) w ≡ false → pack rows (values rows w) ≡ w
all_kept rows r w e = sym (and_rows 0 rows r w) ∙ not_stray (defined_bits rows) w e

-- packed values that fit leave no stray bit
pub none_stray : (rows : List Bits) (vs : List ℕ) → Rising 0 rows → Fit rows vs → is_stray (defined_bits rows) (pack rows vs) ≡ false
none_stray rows vs r f =
    ap not (eq-eqb (bit_and (pack rows vs) (defined_bits rows)) (pack rows vs) (and_rows 0 rows r (pack rows vs) ∙ ap (pack rows) (values_again rows vs r f)))

-- ---- a mask that leaves out some of the defined bits

-- a field that keeps within a narrower mask keeps within a wider one
pub wider : (narrow wide w : ℕ) → bit_and narrow wide ≡ narrow → is_stray narrow w ≡ false → is_stray wide w ≡ false
wider narrow wide w n e =
    let k = not_stray narrow w e in
    let q : bit_and w wide ≡ w = ap (λ x. bit_and x wide) (sym k) ∙ and_assoc wide w narrow ∙ ap (bit_and w) n ∙ k in
    ap not (eq-eqb (bit_and w wide) w q)

-- a value is no larger than the mask's own
pub value_within : (b : Bits) (d w : ℕ) → is_stray d w ≡ false → value_of b w ≤ value_of b d
value_within b d w e =
    let q : value_of b w ≡ bit_and (value_of b w) (value_of b d) =
    ap (value_of b) (sym (not_stray d w e))
    ∙ ap (λ n. n % 2 ^ b.width) (and_shr w d b.first)
    ∙ and_mod (w / 2 ^ b.first) (d / 2 ^ b.first) b.width
    in
    subst⁻¹ (λ n. n ≤ value_of b d) q (and_le_r (value_of b w) (value_of b d))
