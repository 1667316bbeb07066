-- The goals of `pack_token` that the check leaves.
use Rattle.bytecode.proofs.PackLaws.{destination_packed, source1_packed, source2_packed}
use Rattle.bytecode.proofs.pack.pack_token.Goals as goal

pub pack_operand-requires : goal.pack_operand-requires
pack_operand-requires c = (source1_packed c.args.token c.requires).placed

pub pack_operand-requires-2 : goal.pack_operand-requires-2
pack_operand-requires-2 c = (source2_packed c.args.token c.requires).placed

pub map_or-requires : goal.map_or-requires
map_or-requires c = λ register e. rw e at (destination_packed c.args.token c.requires).placed
