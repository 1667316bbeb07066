-- The goals of `selector` that the check leaves.
use native.Mathlib.Omega.{arith}
use borrow.Author.Rules.{rules}
use Rattle.layout.proofs.Shifts.{shifted_out, by_twos}
use Rattle.layout.proofs.swizzles.selector.Goals as goal

-- `selector` meets its contract.
-- Assumes nothing.
pub returns-then-place-ge4 : goal.returns-then-place-ge4
returns-then-place-ge4 c =
    let a = c.args in
    rw (shifted_out 4 a.swizzle 4 a.place (omega arith) (search rules) c.if-place-ge4.true)

pub returns : goal.returns
returns c = rw (by_twos c.args.place)
