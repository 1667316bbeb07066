-- The goals of `heading` that the check leaves.
use lib.Dec.{lit≤}
use Rattle.listing.specs.First.{heading_line}
use Rattle.listing.proofs.NameLaws.{stage_name_lem}
use Rattle.listing.proofs.Writing.{◌and◌, at_most}
use Rattle.listing.proofs.text.Writer.heading.Goals as goal

pub returns : goal.returns
unfolding heading_line
returns c =
    let n = c.name.ensures in
    rw (← stage_name_lem c.args.heading.stage c.of.ensures, ← n.name)
    (at_most 34 (lit≤ tt) (c.numbered.ensures and c.byte.ensures and at_most 8 n.short c.bytes.ensures and c.numbered-2.ensures and c.byte-2.ensures))
