-- The goals of `numbered` that the check leaves.
use Rattle.listing.proofs.Writing.{◌and◌}
use Rattle.listing.proofs.text.Writer.numbered.Goals as goal

pub returns : goal.returns
returns c = c.bytes.ensures and c.decimal.ensures
