-- The goals of `masked` that the check leaves.
use Rattle.listing.specs.Items.{masked_text}
use Rattle.listing.proofs.Writing.{◌and◌}
use Rattle.listing.proofs.text.Writer.masked.Goals as goal

pub returns : goal.returns
unfolding masked_text
returns c =
    c.byte.ensures and c.register.ensures and c.mask.ensures
