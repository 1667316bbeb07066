use Rattle.std.proofs.Common.{◌-◌}
use Rattle.verifier.proofs.TurnLaw.{Reached}
use Rattle.verifier.proofs.checking.last_state.Given as goal

abbrev pub invariant-loop-token : goal.invariant-loop-token
invariant-loop-token l = Reached l.usable l.bytes l.count l.state l.token

abbrev pub decreases-loop-token : goal.decreases-loop-token
decreases-loop-token l = l.count - l.token
