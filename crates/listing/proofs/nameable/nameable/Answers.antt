-- The goals of `nameable` that the check leaves.
use Rattle.listing.specs.Line.{is_nameable}
use Rattle.listing.proofs.nameable.nameable.Goals as goal

pub returns : goal.returns
unfolding is_nameable
returns c = simp (c.encodable.ensures, c.destination_has_names.ensures, c.operand_has_names.ensures, c.operand_has_names-2.ensures)
