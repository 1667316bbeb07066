-- The goals of `indexed` that the check leaves.
use Rattle.listing.specs.Items.{indexed_text}
use Rattle.listing.proofs.Writing.{◌and◌}
use Rattle.listing.proofs.text.Writer.indexed.Goals as goal

pub returns : goal.returns
unfolding indexed_text
returns c =
    c.byte.ensures and c.register_name.ensures and c.index.ensures and c.swizzle.ensures
