-- A sampler's field and its record determine each other.
-- Assumes nothing.
use Prim.Native.Nat.{ℕ, ◌-◌, ◌^◌, ◌<◌}
use mathlib.Core.Bool.{true, false, ◌&&◌}
use mathlib.Core.List.{List, [], ◌∷◌}
use mathlib.Core.Path.{◌≡◌, ◌∙◌, ap}
use native.Mathlib.Omega.{arith}
use lib.Dec.{eqb, ltb, eqb→eq, lit≤}
use lib.IntN.{ℤ, pos, negsuc}
use lib.ListN.{get_or}
use borrow.Author.Tests.{lt-ltb, le-ltb, ltb-true}
use Rattle.layout.specs.Layout as layout
use Rattle.layout.specs.Layout.{value_of, defined_bits, sampler_rows, is_stray}
use Rattle.layout.specs.Records.{signed, sampler_of}
use Rattle.bytecode.specs.Encode.{unsigned, is_signed_byte, sampler_fits, sampler_field}
use Rattle.bytecode.specs.computed.Placed.{SamplerPlaced}
use Rattle.layout.specs.declared.record.Sampler.{Sampler}
use Rattle.laws.proofs.Every.{below, both_left, both_right, is_true, left, right}
use Rattle.layout.proofs.Rows.{Rising, Fit, pack, values_again}
use Rattle.layout.proofs.Stray.{all_kept, none_stray}

-- ---- a signed byte

-- every byte says a signed byte that says it
byte_again : (b : ℕ) → b < 256 → (unsigned (signed b) ≡ b) × (is_signed_byte (signed b) ≡ true)
unfolding signed
byte_again b h =
    let t = below (λ b. eqb (unsigned (signed b)) b && is_signed_byte (signed b)) 256 tt b h in
    (eqb→eq (unsigned (signed b)) b (both_left (eqb (unsigned (signed b)) b) (is_signed_byte (signed b)) t), is_true (is_signed_byte (signed b)) (both_right (eqb (unsigned (signed b)) b) (is_signed_byte (signed b)) t))

signed_again : (z : ℤ) → is_signed_byte z ≡ true → (signed (unsigned z) ≡ z) × (unsigned z < 256)
unfolding signed
signed_again (pos n) e = (rw e, omega (arith, ltb-true n 128 e))
signed_again (negsuc n) e =
    let h = ltb-true n 128 e in
    let k : 255 - (255 - n) ≡ n = omega arith in
    (rw (le-ltb (255 - n) 128 (omega arith), k), omega arith)

-- ---- from a field

rising : Rising 0 sampler_rows
rising = (lit≤ tt, (lit≤ tt, (lit≤ tt, (lit≤ tt, (lit≤ tt, (lit≤ tt, (lit≤ tt, (lit≤ tt, tt))))))))

pub sampler_fits_lem : (w : ℕ) → sampler_fits (sampler_of w) ≡ true
unfolding sampler_fits
sampler_fits_lem w =
    simp (
      lt-ltb (value_of layout.kind w) 16 (omega arith),
      lt-ltb (value_of layout.dimension w) 16 (omega arith),
      lt-ltb (value_of layout.special w) 16 (omega arith),
      lt-ltb (value_of layout.wrap w) 16 (omega arith),
      lt-ltb (value_of layout.mipmap w) 16 (omega arith),
      lt-ltb (value_of layout.filter w) 16 (omega arith),
      lt-ltb (value_of layout.number w) 65536 (omega arith),
      (byte_again (value_of layout.bias w) (omega arith)).1,
    )

-- ---- from a record

values_of : Sampler → List ℕ
values_of s = s.number ∷ unsigned s.bias ∷ s.kind ∷ s.dimension ∷ s.special ∷ s.wrap ∷ s.mipmap ∷ s.filter ∷ []

packed : (s : Sampler) → sampler_field s ≡ pack sampler_rows (values_of s)
unfolding sampler_field values_of
packed s = omega arith

pub sampler_again : (w : ℕ) → is_stray (defined_bits sampler_rows) w ≡ false → sampler_field (sampler_of w) ≡ w
unfolding values_of
sampler_again w e =
    packed (sampler_of w)
    ∙ ap (λ b. pack sampler_rows (value_of layout.number w ∷ b ∷ value_of layout.kind w ∷ value_of layout.dimension w ∷ value_of layout.special w ∷ value_of layout.wrap w ∷ value_of layout.mipmap w ∷ value_of layout.filter w ∷ [])) (byte_again (value_of layout.bias w) (omega arith)).0
    ∙ all_kept sampler_rows rising w e

from_values : List ℕ → Sampler
from_values vs =
    record {
      number = get_or vs 0 0;
      bias = signed (get_or vs 1 0);
      kind = get_or vs 2 0;
      dimension = get_or vs 3 0;
      special = get_or vs 4 0;
      wrap = get_or vs 5 0;
      mipmap = get_or vs 6 0;
      filter = get_or vs 7 0;
    }

module _ (s : Sampler) (e : sampler_fits s ≡ true) where
  bias_fits : is_signed_byte s.bias ≡ true
  unfolding sampler_fits
  bias_fits = right (ltb s.kind 16 && ltb s.dimension 16 && ltb s.special 16 && ltb s.wrap 16 && ltb s.mipmap 16 && ltb s.filter 16 && ltb s.number 65536) _ e

  fit : Fit sampler_rows (values_of s)
  unfolding sampler_fits values_of
  fit =
      let t = ltb s.kind 16 in
      let d = ltb s.dimension 16 in
      let p = ltb s.special 16 in
      let w = ltb s.wrap 16 in
      let m = ltb s.mipmap 16 in
      let f = ltb s.filter 16 in
      let p7 = left (t && d && p && w && m && f && ltb s.number 65536) _ e in
      let p6 = left (t && d && p && w && m && f) _ p7 in
      let p5 = left (t && d && p && w && m) _ p6 in
      let p4 = left (t && d && p && w) _ p5 in
      let p3 = left (t && d && p) _ p4 in
      let p2 = left (t && d) _ p3 in
      let hn = ltb-true s.number 65536 (right (t && d && p && w && m && f) _ p7) in
      let hb = (signed_again s.bias bias_fits).1 in
      let ht = ltb-true s.kind 16 (left t _ p2) in
      let hd = ltb-true s.dimension 16 (right t _ p2) in
      let hp = ltb-true s.special 16 (right (t && d) _ p3) in
      let hw = ltb-true s.wrap 16 (right (t && d && p) _ p4) in
      let hm = ltb-true s.mipmap 16 (right (t && d && p && w) _ p5) in
      let hf = ltb-true s.filter 16 (right (t && d && p && w && m) _ p6) in
      (hn, (hb, (ht, (hd, (hp, (hw, (hm, (hf, tt))))))))

  pub sampler_of_lem : sampler_of (sampler_field s) ≡ s
  unfolding from_values values_of
  sampler_of_lem =
      ap sampler_of (packed s)
      ∙ ap from_values (values_again sampler_rows (values_of s) rising fit)
      ∙ rw (signed_again s.bias bias_fits).0

  pub sampler_clean : is_stray (defined_bits sampler_rows) (sampler_field s) ≡ false
  unfolding values_of
  sampler_clean = rw (packed s) (none_stray sampler_rows (values_of s) rising fit)

  pub sampler_placed : SamplerPlaced s
  unfolding values_of
  sampler_placed =
      let high = fit.1.1.1 in
      record { kind = fit.1.1.0; dimension = high.0; special = high.1.0; wrap = high.1.1.0; mipmap = high.1.1.1.0; filter = high.1.1.1.1.0 }

  pub sampler_small : sampler_field s < 2 ^ 64
  unfolding sampler_field values_of
  sampler_small = omega (arith, fit.0, fit.1.0, fit.1.1.0, fit.1.1.1.0, fit.1.1.1.1.0, fit.1.1.1.1.1.0, fit.1.1.1.1.1.1.0, fit.1.1.1.1.1.1.1.0)
