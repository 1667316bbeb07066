-- A destination's field and its record determine each other.
-- Assumes nothing.
use Prim.Native.Nat.{ℕ, ◌^◌, ◌<◌}
use mathlib.Core.Bool.{true, false, ◌&&◌}
use mathlib.Core.List.{List, [], ◌∷◌}
use mathlib.Core.Path.{◌≡◌, ◌∙◌, ap}
use native.Mathlib.Omega.{arith}
use lib.Dec.{ltb, lit≤}
use lib.ListN.{get_or}
use borrow.Author.Tests.{lt-ltb, ltb-true}
use Rattle.layout.specs.Layout as layout
use Rattle.layout.specs.Layout.{value_of, defined_bits, destination_rows, is_stray}
use Rattle.layout.specs.Records.{register_of}
use Rattle.bytecode.specs.Encode.{register_fits, register_field}
use Rattle.bytecode.specs.computed.Placed.{RegisterPlaced}
use Rattle.layout.specs.declared.record.MaskedRegister.{MaskedRegister}
use Rattle.layout.proofs.Rows.{Rising, Fit, pack, values_again}
use Rattle.layout.proofs.Stray.{all_kept, none_stray}
use Rattle.laws.proofs.Every.{left, right}

pub rising : Rising 0 destination_rows
rising = (lit≤ tt, (lit≤ tt, (lit≤ tt, tt)))

values_of : MaskedRegister → List ℕ
values_of r = r.number ∷ r.mask ∷ r.kind ∷ []

from_values : List ℕ → MaskedRegister
from_values vs = record { number = get_or vs 0 0; mask = get_or vs 1 0; kind = get_or vs 2 0 }

packed : (r : MaskedRegister) → register_field r ≡ pack destination_rows (values_of r)
unfolding register_field values_of
packed r = omega arith

pub register_fits_lem : (w : ℕ) → register_fits (register_of w) ≡ true
unfolding register_fits
register_fits_lem w =
    simp (
      lt-ltb (value_of layout.mask w) 16 (omega arith),
      lt-ltb (value_of layout.masked_kind w) 16 (omega arith),
      lt-ltb (value_of layout.number w) 65536 (omega arith),
    )

pub register_again : (w : ℕ) → is_stray (defined_bits destination_rows) w ≡ false → register_field (register_of w) ≡ w
unfolding values_of
register_again w e = packed (register_of w) ∙ all_kept destination_rows rising w e

module _ (r : MaskedRegister) (e : register_fits r ≡ true) where
  fit : Fit destination_rows (values_of r)
  unfolding register_fits values_of
  fit =
      let p = left (ltb r.mask 16 && ltb r.kind 16) _ e in
      (ltb-true r.number 65536 (right (ltb r.mask 16 && ltb r.kind 16) _ e), (ltb-true r.mask 16 (left (ltb r.mask 16) _ p), (ltb-true r.kind 16 (right (ltb r.mask 16) _ p), tt)))

  pub register_of_lem : register_of (register_field r) ≡ r
  unfolding from_values values_of
  register_of_lem = ap register_of (packed r) ∙ ap from_values (values_again destination_rows (values_of r) rising fit)

  pub register_clean : is_stray (defined_bits destination_rows) (register_field r) ≡ false
  register_clean = rw (packed r) (none_stray destination_rows (values_of r) rising fit)

  pub register_placed : RegisterPlaced r
  unfolding values_of
  register_placed = record { mask = fit.1.0; kind = fit.1.1.0 }

  pub register_small : register_field r < 2 ^ 32
  unfolding register_field values_of
  register_small = omega (arith, fit.0, fit.1.0, fit.1.1.0)
