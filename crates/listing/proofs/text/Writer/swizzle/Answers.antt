-- The goals of `swizzle` that the check leaves.
use Rattle.listing.specs.Items.{swizzle_text}
use Rattle.listing.proofs.Writing.{◌and◌}
use Rattle.listing.proofs.text.Writer.swizzle.Goals as goal

pub returns : goal.returns
unfolding swizzle_text
returns c =
    rw (← c.selector.ensures, ← c.selector-2.ensures, ← c.selector-3.ensures, ← c.selector-4.ensures)
    (c.byte.ensures and c.component.ensures and c.component-2.ensures and c.component-3.ensures and c.component-4.ensures)
