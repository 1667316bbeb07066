-- The goals of `put_first_line` that the check leaves.
use borrow.Author.Rules.{rules}
use Rattle.listing.proofs.Writing.{from_start}
use Rattle.listing.proofs.first.put_first_line.Goals as goal

pub returns : goal.returns
returns c =
    let w = c.new-w.ensures in
    from_start c.first_line.ensures w.holds w.start (search rules) c.length.ensures
