-- The goals of `direct` that the check leaves.
use Rattle.listing.specs.Items.{direct_text}
use Rattle.listing.proofs.Writing.{◌and◌}
use Rattle.listing.proofs.text.Writer.direct.Goals as goal

pub returns : goal.returns
unfolding direct_text
returns c =
    c.byte.ensures and c.register.ensures and c.swizzle.ensures
