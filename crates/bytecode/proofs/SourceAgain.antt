-- A source's field and its record determine each other.
-- Assumes nothing.
use Prim.Native.Nat.{ℕ, ◌^◌, ◌<◌}
use mathlib.Core.Bool.{Bool, true, false, ◌&&◌}
use mathlib.Core.List.{List, [], ◌∷◌}
use mathlib.Core.Path.{◌≡◌, refl, ◌∙◌, ap, sym}
use native.Mathlib.Omega.{arith}
use lib.Dec.{eqb, ltb, lit≤, lit<}
use lib.ListN.{get_or}
use borrow.Author.Tests.{lt-ltb, ltb-true, eq-eqb, ne_eqb, eqb-true, eqb-false}
use Rattle.layout.specs.Layout as layout
use Rattle.layout.specs.Layout.{value_of, defined_bits, source_rows, is_stray}
use Rattle.layout.specs.Records.{direct_of, indexed_of, source_of}
use Rattle.bytecode.specs.Encode.{source_fits, source_field, operand_fits, operand_field}
use Rattle.bytecode.specs.computed.Placed.{SourcePlaced}
use Rattle.layout.specs.declared.opcodes.OperandShape.TheVariants.{Source as SourceField}
use Rattle.layout.specs.declared.record.DirectSource.{DirectSource}
use Rattle.layout.specs.declared.record.IndexedSource.{IndexedSource}
use Rattle.layout.specs.declared.record.Operand.TheVariants.{Direct, Indexed}
use Rattle.layout.proofs.Rows.{Rising, Fit, pack, values, values_again}
use Rattle.layout.proofs.Stray.{all_kept, none_stray}
use Rattle.laws.proofs.Every.{left, right}

pub rising : Rising 0 source_rows
rising = (lit≤ tt, (lit≤ tt, (lit≤ tt, (lit≤ tt, (lit≤ tt, (lit≤ tt, (lit≤ tt, tt)))))))

packed : (n o s t i q d : ℕ) → source_field n o s t i q d ≡ pack source_rows (n ∷ o ∷ s ∷ t ∷ i ∷ q ∷ d ∷ [])
unfolding source_field
packed n o s t i q d = omega arith

-- ---- from a field

module _ (w : ℕ) where
  value_fits : source_fits (value_of layout.number w) (value_of layout.offset w) (value_of layout.swizzle w) (value_of layout.kind w) (value_of layout.index_kind w) (value_of layout.component w) ≡ true
  unfolding source_fits
  value_fits =
      simp (
        lt-ltb (value_of layout.kind w) 16 (omega arith),
        lt-ltb (value_of layout.index_kind w) 16 (omega arith),
        lt-ltb (value_of layout.component w) 4 (omega arith),
        lt-ltb (value_of layout.number w) 65536 (omega arith),
        lt-ltb (value_of layout.offset w) 256 (omega arith),
        lt-ltb (value_of layout.swizzle w) 256 (omega arith),
      )

  pub source_fits_lem : operand_fits SourceField (source_of w) ≡ true
  source_fits_lem = go (eqb (value_of layout.indirect w) 0) refl
    where
      go : (b : Bool) → eqb (value_of layout.indirect w) 0 ≡ b → operand_fits SourceField (source_of w) ≡ true
      go true e = rw e value_fits
      go false e = rw e value_fits

  pub source_again : is_stray (defined_bits source_rows) w ≡ false → operand_field (source_of w) ≡ w
  source_again h = go (eqb (value_of layout.indirect w) 0) refl
    where
      whole : (d : ℕ) → value_of layout.indirect w ≡ d → source_field (value_of layout.number w) (value_of layout.offset w) (value_of layout.swizzle w) (value_of layout.kind w) (value_of layout.index_kind w) (value_of layout.component w) d ≡ w
      whole d e =
          packed _ _ _ _ _ _ d
          ∙ ap (λ x. pack source_rows (value_of layout.number w ∷ value_of layout.offset w ∷ value_of layout.swizzle w ∷ value_of layout.kind w ∷ value_of layout.index_kind w ∷ value_of layout.component w ∷ x ∷ [])) (sym e)
          ∙ all_kept source_rows rising w h

      go : (b : Bool) → eqb (value_of layout.indirect w) 0 ≡ b → operand_field (source_of w) ≡ w
      go true e = rw e (whole 0 (eqb-true (value_of layout.indirect w) 0 e))
      go false e =
          let n = eqb-false (value_of layout.indirect w) 0 e in
          rw e (whole 1 (one (value_of layout.indirect w) n (omega arith)))
        where
          one : (d : ℕ) → (d ≡ 0 → ⊥) → d < 2 → d ≡ 1
          one d n l = omega (arith, n)

-- ---- from a record

module _ (n o s t i q d : ℕ) (e : source_fits n o s t i q ≡ true) (hd : d < 2) where
  fit : Fit source_rows (n ∷ o ∷ s ∷ t ∷ i ∷ q ∷ d ∷ [])
  unfolding source_fits
  fit =
      let p5 = left (ltb t 16 && ltb i 16 && ltb q 4 && ltb n 65536 && ltb o 256) _ e in
      let p4 = left (ltb t 16 && ltb i 16 && ltb q 4 && ltb n 65536) _ p5 in
      let p3 = left (ltb t 16 && ltb i 16 && ltb q 4) _ p4 in
      let p2 = left (ltb t 16 && ltb i 16) _ p3 in
      let hn = ltb-true n 65536 (right (ltb t 16 && ltb i 16 && ltb q 4) _ p4) in
      let ho = ltb-true o 256 (right (ltb t 16 && ltb i 16 && ltb q 4 && ltb n 65536) _ p5) in
      let hs = ltb-true s 256 (right (ltb t 16 && ltb i 16 && ltb q 4 && ltb n 65536 && ltb o 256) _ e) in
      let ht = ltb-true t 16 (left (ltb t 16) _ p2) in
      let hi = ltb-true i 16 (right (ltb t 16) _ p2) in
      let hq = ltb-true q 4 (right (ltb t 16 && ltb i 16) _ p3) in
      (hn, (ho, (hs, (ht, (hi, (hq, (hd, tt)))))))

  again : values source_rows (source_field n o s t i q d) ≡ n ∷ o ∷ s ∷ t ∷ i ∷ q ∷ d ∷ []
  again = ap (values source_rows) (packed n o s t i q d) ∙ values_again source_rows _ rising fit

  pub source_clean : is_stray (defined_bits source_rows) (source_field n o s t i q d) ≡ false
  source_clean = rw (packed n o s t i q d) (none_stray source_rows (n ∷ o ∷ s ∷ t ∷ i ∷ q ∷ d ∷ []) rising fit)

  pub source_placed : SourcePlaced t i q
  source_placed = record { kind = fit.1.1.1.0; index_kind = fit.1.1.1.1.0; component = fit.1.1.1.1.1.0 }

  pub source_small : source_field n o s t i q d < 2 ^ 64
  unfolding source_field
  source_small = omega (arith, fit.0, fit.1.0, fit.1.1.0, fit.1.1.1.0, fit.1.1.1.1.0, fit.1.1.1.1.1.0)

direct_from : List ℕ → DirectSource
direct_from vs = record { number = get_or vs 0 0; offset = get_or vs 1 0; swizzle = get_or vs 2 0; kind = get_or vs 3 0; index_kind = get_or vs 4 0; component = get_or vs 5 0 }

indexed_from : List ℕ → IndexedSource
indexed_from vs = record { number = get_or vs 0 0; offset = get_or vs 1 0; swizzle = get_or vs 2 0; kind = get_or vs 3 0; index_kind = get_or vs 4 0; component = get_or vs 5 0 }

pub direct_of_lem : (s : DirectSource) → operand_fits SourceField (Direct s) ≡ true → source_of (operand_field (Direct s)) ≡ Direct s
unfolding direct_from
direct_of_lem s e =
    let a = again s.number s.offset s.swizzle s.kind s.index_kind s.component 0 e (lit< tt) in
    let d : value_of layout.indirect (operand_field (Direct s)) ≡ 0 = ap (λ l. get_or l 6 0) a in
    let r : direct_of (operand_field (Direct s)) ≡ s = ap direct_from a in
    rw (eq-eqb (value_of layout.indirect (operand_field (Direct s))) 0 d) (ap Direct r)

pub indexed_of_lem : (s : IndexedSource) → operand_fits SourceField (Indexed s) ≡ true → source_of (operand_field (Indexed s)) ≡ Indexed s
unfolding indexed_from
indexed_of_lem s e =
    let a = again s.number s.offset s.swizzle s.kind s.index_kind s.component 1 e (lit< tt) in
    let d : value_of layout.indirect (operand_field (Indexed s)) ≡ 1 = ap (λ l. get_or l 6 0) a in
    let r : indexed_of (operand_field (Indexed s)) ≡ s = ap indexed_from a in
    rw (ne_eqb (value_of layout.indirect (operand_field (Indexed s))) 0 (λ z. omega (arith, d, z))) (ap Indexed r)
