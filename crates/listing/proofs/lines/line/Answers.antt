-- The goals of `line` that the check leaves.
use borrow.Author.Rules.{rules}
use mathlib.Core.Path.{sym}
use Rattle.listing.proofs.LineLaws.{not_nameable, listed}
use Rattle.listing.proofs.OperandLaws.{nameable, stage_bound}
use Rattle.listing.proofs.PrintLaws.{printed, by_way_of}
use Rattle.listing.proofs.lines.line.Goals as goal

pub returns-then-not-nameable : goal.returns-then-not-nameable
returns-then-not-nameable c = rw c.refusal.ensures (not_nameable _ _ _ _ (sym c.if-not-nameable.ensures))

pub put_line-requires-clause-stage : goal.put_line-requires-clause-stage
put_line-requires-clause-stage c = stage_bound _ _ _ (sym c.if-not-nameable.ensures)

pub put_line-requires-clause-nameable : goal.put_line-requires-clause-nameable
put_line-requires-clause-nameable c = nameable _ _ _ (sym c.if-not-nameable.ensures)

pub returns-then-out-ge128 : goal.returns-then-out-ge128
returns-then-out-ge128 c =
    let p = c.put_line in
    listed _ _ _ (sym c.if-not-nameable.ensures) (printed p.ensures c.if-out-ge128.true p.auto.out)

pub put_line-n-requires-clause-stage : goal.put_line-n-requires-clause-stage
put_line-n-requires-clause-stage c = stage_bound _ _ _ (sym c.if-not-nameable.ensures)

pub put_line-n-requires-clause-nameable : goal.put_line-n-requires-clause-nameable
put_line-n-requires-clause-nameable c = nameable _ _ _ (sym c.if-not-nameable.ensures)

pub returns : goal.returns
returns c = listed _ _ _ (sym c.if-not-nameable.ensures) (by_way_of c.put_line-n.ensures (search rules) c.print.ensures)
