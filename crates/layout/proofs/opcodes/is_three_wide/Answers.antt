-- The goals of `is_three_wide` that the check leaves.
use Rattle.layout.specs.Opcodes.{three_wide_opcodes}
use Rattle.layout.proofs.OpcodeSets.{told}
use Rattle.layout.proofs.opcodes.is_three_wide.Goals as goal

pub returns : goal.returns
returns c = told _ _ c.among.ensures three_wide_opcodes tt tt
