-- The goals of `shape_of` that the check leaves.
use Rattle.layout.specs.Opcodes.{row_of, shape_of_row}
use Rattle.layout.proofs.OpcodeSets.{shape_by_sets}
use Rattle.layout.proofs.opcodes.shape_of.Goals as goal

pub returns : goal.returns
unfolding row_of shape_of_row
returns c =
    rw (
      c.second_source-source2.ensures,
      c.among-2.ensures,
      c.source-source1.ensures,
      c.among.ensures,
      c.among-destination.ensures,
      c.among-listed.ensures,
    )
    (shape_by_sets _ _ _ _ _ tt)
