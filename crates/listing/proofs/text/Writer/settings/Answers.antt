-- The goals of `settings` that the check leaves.
use Rattle.listing.specs.Items.{settings_text}
use Rattle.listing.proofs.Writing.{◌and◌}
use Rattle.listing.proofs.text.Writer.settings.Goals as goal

pub returns : goal.returns
unfolding settings_text
returns c =
    c.byte.ensures and c.texture.ensures and c.sampling.ensures and c.bias.ensures and c.byte-2.ensures
