-- The goals of `selectors1` that the check leaves.
use mathlib.Core.Path.{sym, ap}
use mathlib.Core.Bool.{not}
use native.Mathlib.Omega.{arith}
use borrow.Author.Tests.{ne_eqb}
use Rattle.layout.specs.Opcodes.{kil, tex}
use Rattle.layout.specs.computed.Sets.{selector_set1}
use Rattle.layout.specs.Selections.{by_three1, by_four1}
use Rattle.layout.proofs.OpcodeSets.{listed_as, by_mask}
use Rattle.layout.proofs.selection.selectors1.Goals as goal

pub returns-then-not-among : goal.returns-then-not-among
returns-then-not-among c = sym (by_mask _ _ _ _ c.among.ensures (ap not c.if-not-among.true) tt)

pub returns-then-among : goal.returns-then-among
unfolding selector_set1
returns-then-among c = rw (listed_as _ _ c.among-2.ensures c.if-among.true by_three1 tt tt)

pub returns-then-among-2 : goal.returns-then-among-2
unfolding selector_set1
returns-then-among-2 c =
    simp (listed_as _ _ c.among-2.ensures c.if-among.false by_three1 tt tt, listed_as _ _ c.among-3.ensures c.if-among-2.true by_four1 tt tt)

pub returns-in-39 : goal.returns-in-39
unfolding selector_set1
returns-in-39 c = rw c.in-39.is

pub returns-in-40 : goal.returns-in-40
unfolding selector_set1
returns-in-40 c = rw (c.in-40.is, c.coordinates.ensures)

pub returns-in_default : goal.returns-in_default
unfolding selector_set1
returns-in_default c =
    simp (
      listed_as _ _ c.among-2.ensures c.if-among.false by_three1 tt tt,
      listed_as _ _ c.among-3.ensures c.if-among-2.false by_four1 tt tt,
      ne_eqb c.args.opcode kil (λ e. omega arith),
      ne_eqb c.args.opcode tex (λ e. omega arith),
    )
