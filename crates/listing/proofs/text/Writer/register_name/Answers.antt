-- The goals of `register_name` that the check leaves.
use Rattle.listing.proofs.Writing.{at_most}
use Rattle.listing.proofs.text.Writer.register_name.Goals as goal

pub returns : goal.returns
returns c =
    let n = c.register_name.ensures in
    rw (← n.name) (at_most 2 n.short c.bytes.ensures)
