-- The goals of `index` that the check leaves.
use Rattle.listing.specs.Items.{index_text}
use Rattle.listing.proofs.Writing.{◌and◌}
use Rattle.listing.proofs.text.Writer.index.Goals as goal

pub returns : goal.returns
unfolding index_text
returns c =
    rw (← c.from.ensures) (c.byte.ensures and c.register.ensures and c.byte-2.ensures and c.component.ensures and c.byte-3.ensures and c.decimal.ensures and c.byte-4.ensures)
