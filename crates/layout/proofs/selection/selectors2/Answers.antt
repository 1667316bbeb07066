-- The goals of `selectors2` that the check leaves.
use Rattle.layout.specs.computed.Sets.{selector_set2}
use Rattle.layout.specs.Selections.{by_three2, by_four2}
use Rattle.layout.proofs.OpcodeSets.{listed_as}
use Rattle.layout.proofs.selection.selectors2.Goals as goal

pub returns-then-among : goal.returns-then-among
unfolding selector_set2
returns-then-among c = rw (listed_as _ _ c.among.ensures c.if-among.true by_three2 tt tt)

pub returns-then-among-2 : goal.returns-then-among-2
unfolding selector_set2
returns-then-among-2 c =
    rw (listed_as _ _ c.among.ensures c.if-among.false by_three2 tt tt, listed_as _ _ c.among-else-among.ensures c.if-among-2.true by_four2 tt tt)

pub returns-else-among-2 : goal.returns-else-among-2
unfolding selector_set2
returns-else-among-2 c =
    rw (listed_as _ _ c.among.ensures c.if-among.false by_three2 tt tt, listed_as _ _ c.among-else-among.ensures c.if-among-2.false by_four2 tt tt)
