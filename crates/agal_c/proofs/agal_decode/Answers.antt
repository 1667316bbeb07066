-- The goals of `agal_decode` that the check leaves.
use Rattle.reader.proofs.ReadingLaws.{stands_first}
use Rattle.agal_c.proofs.CallLaws.{by_code}
use Rattle.agal_c.proofs.agal_decode.Goals as goal

pub returns-clause-value : goal.returns-clause-value
returns-clause-value c =
    rw (stands_first c.args.token.now) at ((by_code c.args.token.now c.args.flat.now 0 29 _ _ _ (c.deliver.ensures.value, c.deliver.ensures.flat_after) c.delivered.ensures).0)
