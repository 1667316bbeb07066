-- The goals of `refusal` that the check leaves.
use lib.Dec.{lit≤}
use Rattle.listing.specs.First.{refusal_line}
use Rattle.listing.proofs.Writing.{◌and◌, at_most}
use Rattle.listing.proofs.text.Writer.refusal.Goals as goal

pub returns : goal.returns
unfolding refusal_line
returns c =
    rw (← c.from.ensures, ← c.from-2.ensures)
    (at_most 49 (lit≤ tt) (c.numbered.ensures and (c.bytes.ensures and c.long.ensures) and c.numbered-2.ensures and c.byte.ensures))
