-- The goals of `ordinary` that the check leaves.
use mathlib.Core.Bool.{true, false}
use borrow.Author.Tests.{eq-eqb, ne_eqb}
use Rattle.layout.proofs.OpcodeSets.{of_edition}
use Rattle.layout.proofs.opcodes.ordinary.Goals as goal

-- `ordinary` meets its contract.
-- Assumes nothing.
pub returns-then-edition-eq1 : goal.returns-then-edition-eq1
returns-then-edition-eq1 c = of_edition _ true _ (eq-eqb _ _ c.if-edition-eq1.true) tt

pub returns-else-edition-eq1 : goal.returns-else-edition-eq1
returns-else-edition-eq1 c = of_edition _ false _ (ne_eqb _ _ c.if-edition-eq1.false) tt
