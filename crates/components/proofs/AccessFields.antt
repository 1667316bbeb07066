-- The dimension of an operand, from the field that makes it.
-- Assumes nothing.
use Prim.Native.Nat.{ℕ}
use mathlib.Core.Bool.{Bool, true, false, cond}
use mathlib.Core.Path.{◌≡◌, refl}
use lib.Dec.{eqb}
use Rattle.layout.specs.Layout as layout
use Rattle.layout.specs.Layout.{value_of}
use Rattle.layout.specs.Records.{direct_of, indexed_of, source_of}
use Rattle.layout.specs.declared.record.Operand.TheVariants.{Direct, Indexed}
use Rattle.components.specs.Reads.{dimension_of}

-- a source has no dimension
pub source_dimension : (field : ℕ) → dimension_of (source_of field) ≡ 0
source_dimension field = go (eqb (value_of layout.indirect field) 0)
  where
    go : (b : Bool) → dimension_of (cond b (Direct (direct_of field)) (Indexed (indexed_of field))) ≡ 0
    go true = refl
    go false = refl
