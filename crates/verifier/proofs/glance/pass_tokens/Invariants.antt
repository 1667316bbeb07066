use Rattle.std.proofs.Common.{◌-◌, ◌≡◌}
use Rattle.verifier.specs.computed.Glance.{Whenever}
use Rattle.verifier.specs.computed.State.{with_current}
use Rattle.verifier.specs.computed.Steps.{steps_over}
use Rattle.verifier.proofs.glance.pass_tokens.Given as goal

abbrev pub invariant-loop-token : goal.invariant-loop-token
invariant-loop-token l =
    Whenever l.usable l.initial.current
    (λ p st. steps_over p l.bytes st l.first (l.token - l.first) ≡ with_current st l.current)
