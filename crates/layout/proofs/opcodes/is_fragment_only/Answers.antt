-- The goals of `is_fragment_only` that the check leaves.
use Rattle.layout.specs.Opcodes.{fragment_opcodes}
use Rattle.layout.proofs.OpcodeSets.{told}
use Rattle.layout.proofs.opcodes.is_fragment_only.Goals as goal

pub returns : goal.returns
returns c = told _ _ c.among.ensures fragment_opcodes tt tt
