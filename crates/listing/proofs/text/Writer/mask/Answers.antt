-- The goals of `mask` that the check leaves.
use Rattle.listing.specs.Items.{mask_text}
use Rattle.listing.proofs.Writing.{◌and◌}
use Rattle.listing.proofs.text.Writer.mask.Goals as goal

pub returns : goal.returns
unfolding mask_text
returns c =
    rw (← c.mask_has.ensures, ← c.mask_has-2.ensures, ← c.mask_has-3.ensures, ← c.mask_has-4.ensures)
    (c.byte.ensures and c.when.ensures and c.when-2.ensures and c.when-3.ensures and c.when-4.ensures)
