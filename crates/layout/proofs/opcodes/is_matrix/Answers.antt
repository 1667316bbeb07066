-- The goals of `is_matrix` that the check leaves.
use Rattle.layout.specs.Opcodes.{matrix_opcodes}
use Rattle.layout.proofs.OpcodeSets.{told}
use Rattle.layout.proofs.opcodes.is_matrix.Goals as goal

pub returns : goal.returns
returns c = told _ _ c.among.ensures matrix_opcodes tt tt
