-- The goals of `decimal` that the check leaves.
use borrow.Author.Rules.{rules}
use Rattle.listing.proofs.Notation.{five}
use Rattle.listing.proofs.Writing.{◌and◌}
use Rattle.listing.proofs.text.Writer.decimal.Goals as goal

pub returns : goal.returns
returns c =
    rw (five c.args.n (search rules)) (c.digit.ensures and c.digit-2.ensures and c.digit-3.ensures and c.digit-4.ensures and c.byte.ensures)
