-- The goals of `lacks` that the check leaves.
use mathlib.Core.Path.{sym, ◌∙◌}
use native.Mathlib.Omega.{arith}
use Rattle.components.proofs.Lacking.{lacks_first, lacks_none}
use Rattle.components.proofs.written.Written.lacks.Goals as goal

pub returns-then-lacks_row : goal.returns-then-lacks_row
returns-then-lacks_row c =
    rw (← c.loop-row.invariant, lacks_first _ _ _ _ c.loop-row-test.true, ← c.lacks_row.ensures, c.if-lacks_row.true)

pub loop-row-preserved : goal.loop-row-preserved
loop-row-preserved c =
    rw (← c.loop-row.invariant, lacks_first _ _ _ _ c.loop-row-test.true, ← c.lacks_row.ensures, c.if-lacks_row.false)

pub returns : goal.returns
returns c = sym (lacks_none _ _ _ _ (omega arith)) ∙ c.loop-row.invariant
