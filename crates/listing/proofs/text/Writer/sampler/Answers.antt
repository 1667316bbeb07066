-- The goals of `sampler` that the check leaves.
use Rattle.listing.specs.Items.{sampler_text}
use Rattle.listing.proofs.Writing.{◌and◌}
use Rattle.listing.proofs.text.Writer.sampler.Goals as goal

pub returns : goal.returns
unfolding sampler_text
returns c =
    c.byte.ensures and c.register.ensures and c.settings.ensures
