-- The goals of `register` that the check leaves.
use Rattle.listing.specs.Items.{register_text}
use Rattle.listing.proofs.Writing.{◌and◌}
use Rattle.listing.proofs.text.Writer.register.Goals as goal

pub returns : goal.returns
unfolding register_text
returns c =
    c.register_name.ensures and c.decimal.ensures
