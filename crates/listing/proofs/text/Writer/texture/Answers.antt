-- The goals of `texture` that the check leaves.
use Rattle.listing.specs.Items.{texture_text}
use Rattle.listing.proofs.Writing.{◌and◌, at_most}
use Rattle.listing.proofs.text.Writer.texture.Goals as goal

pub returns : goal.returns
unfolding texture_text
returns c =
    let d = c.dimension_name.ensures in
    let m = c.mipmap_name.ensures in
    rw (← d.name, ← m.name) (at_most 4 d.short c.bytes.ensures and c.byte.ensures and at_most 10 m.short c.bytes-2.ensures)
