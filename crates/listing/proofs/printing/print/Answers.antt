-- The goals of `print` that the check leaves.
use borrow.Author.Rules.{rules}
use Rattle.listing.proofs.PrintLaws.{too_short, printed}
use Rattle.listing.proofs.Writing.{from_start}
use Rattle.listing.proofs.printing.print.Goals as goal

pub returns-then-out-text : goal.returns-then-out-text
returns-then-out-text c = rw c.refusal.ensures (too_short _ _ c.if-out-text.true)

pub returns : goal.returns
returns c =
    let w = c.new-w.ensures in
    (printed (from_start c.copied.ensures w.holds w.start (search rules) c.length.ensures) c.if-out-text.false (search rules)).0
