-- The goals of `is_added` that the check leaves.
use Rattle.layout.specs.Opcodes.{added_opcodes}
use Rattle.layout.proofs.OpcodeSets.{told}
use Rattle.layout.proofs.opcodes.is_added.Goals as goal

pub returns : goal.returns
returns c = told _ _ c.among.ensures added_opcodes tt tt
