-- The goals of `first_line` that the check leaves.
use native.Mathlib.Omega.{arith}
use Rattle.listing.proofs.FirstMost.{first_most_lem}
use Rattle.listing.proofs.PrintLaws.{printed}
use Rattle.listing.proofs.first.first_line.Goals as goal

pub returns-then-out-ge49 : goal.returns-then-out-ge49
returns-then-out-ge49 c =
    let p = c.put_first_line in
    printed p.ensures (omega (arith, first_most_lem c.args.first, c.if-out-ge49.true)) p.auto.out
