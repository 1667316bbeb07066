-- The operand that a source's field makes, by the test that the code makes of it.
-- Assumes nothing.
use Prim.Native.Nat.{ℕ}
use mathlib.Core.Bool.{Bool, true, false, not, cond}
use mathlib.Core.Path.{◌≡◌, refl, ◌∙◌, ap}
use lib.Dec.{eqb}
use Rattle.layout.specs.Layout as layout
use Rattle.layout.specs.Layout.{value_of}
use Rattle.layout.specs.Records.{is_indexed, direct_of, indexed_of, source_of}
use Rattle.layout.specs.declared.record.Operand.TheVariants.{Direct, Indexed}

by_indexed : (f : ℕ) → source_of f ≡ cond (is_indexed f) (Indexed (indexed_of f)) (Direct (direct_of f))
by_indexed f = go (eqb (value_of layout.indirect f) 0)
  where
    go : (b : Bool) → cond b (Direct (direct_of f)) (Indexed (indexed_of f)) ≡ cond (not b) (Indexed (indexed_of f)) (Direct (direct_of f))
    go true = refl
    go false = refl

pub indexed_source : (f : ℕ) → is_indexed f ≡ true → source_of f ≡ Indexed (indexed_of f)
indexed_source f e = by_indexed f ∙ ap (λ b. cond b (Indexed (indexed_of f)) (Direct (direct_of f))) e

pub direct_source : (f : ℕ) → is_indexed f ≡ false → source_of f ≡ Direct (direct_of f)
direct_source f e = by_indexed f ∙ ap (λ b. cond b (Indexed (indexed_of f)) (Direct (direct_of f))) e
