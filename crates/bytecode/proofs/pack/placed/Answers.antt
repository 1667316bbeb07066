-- The goals of `placed` that the check leaves.
use native.Mathlib.Omega.{arith}
use lib.Pow.{shl_exact}
use borrow.Author.Rules.{rules}
use Rattle.bytecode.proofs.pack.placed.Goals as goal

pub returns : goal.returns
returns c =
    let at = c.args.at in
    shl_exact at.width at.first 64 (search rules) (omega arith)
