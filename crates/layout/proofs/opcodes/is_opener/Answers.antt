-- The goals of `is_opener` that the check leaves.
use Rattle.layout.specs.Opcodes.{openers}
use Rattle.layout.proofs.OpcodeSets.{told}
use Rattle.layout.proofs.opcodes.is_opener.Goals as goal

pub returns : goal.returns
returns c = told _ _ c.among.ensures openers tt tt
