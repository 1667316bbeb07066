-- The goals of `sampling` that the check leaves.
use Rattle.listing.specs.Items.{sampling_text}
use Rattle.listing.proofs.Writing.{◌and◌, at_most}
use Rattle.listing.proofs.text.Writer.sampling.Goals as goal

pub returns : goal.returns
unfolding sampling_text
returns c =
    let w = c.wrap_name.ensures in
    let f = c.filter_name.ensures in
    rw (← w.name, ← f.name) (c.byte.ensures and at_most 6 w.short c.bytes.ensures and c.byte-2.ensures and at_most 7 f.short c.bytes-2.ensures)
