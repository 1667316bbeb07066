-- The goals of `mask_has` that the check leaves.
use native.Mathlib.Omega.{arith}
use borrow.Author.Rules.{rules}
use borrow.Author.Tests.{le-ltb}
use Rattle.layout.proofs.Shifts.{shifted_out}
use Rattle.layout.proofs.swizzles.mask_has.Goals as goal

pub returns-else-component-lt8 : goal.returns-else-component-lt8
returns-else-component-lt8 c =
    let a = c.args in
    let past = c.if-component-lt8.false in
    rw (shifted_out 2 a.mask 8 a.component (omega arith) (search rules) past, le-ltb a.component 8 past)
