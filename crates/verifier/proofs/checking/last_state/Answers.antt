-- The goals of `last_state` that the check leaves.
use mathlib.Core.Path.{◌≡◌, ◌∙◌, sym}
use Rattle.std.specs.Prelude.{◌+◌, None}
use Rattle.layout.specs.declared.opcodes.Flow.{Flow}
use Rattle.layout.specs.declared.opcodes.Flow.TheVariants.{Opener, Els, Eif}
use Rattle.verifier.specs.computed.Glance.{branch_step, KnownBranch}
use Rattle.verifier.specs.computed.State.{with_current}
use Rattle.verifier.specs.computed.Step.{step_of}
use Rattle.verifier.specs.declared.state.State.{State}
use Rattle.verifier.proofs.TurnLaw.{none_met, Reached, known_step, after_run, after_step, refused_at}
use Rattle.verifier.proofs.checking.last_state.Goals as goal
use Rattle.verifier.proofs.checking.last_state.Goals.{After-fields_at-f}

-- the state after the run of a turn, at the token that ends the run
abbrev st : After-fields_at-f → State
st x = with_current x.loop-token.state x.by_halves-state.result

at : (x : After-fields_at-f) → Reached x.args.usable x.args.bytes.now x.args.count (st x) x.pass_tokens-run.result.token
at x = after_run _ _ _ x.requires _ _ x.loop-token.invariant _ x.pass_tokens-run.ensures _ x.by_halves-state.ensures

-- the state after that token, where it has no fault
goes : (x : After-fields_at-f) (next : State) → next ≡ step_of (st x) x.args.usable.profile x.pass_tokens-run.result.token x.fields_at-f.result → next.fault ≡ None
    → Reached x.args.usable x.args.bytes.now x.args.count next (x.pass_tokens-run.result.token + 1)
goes x = after_step _ _ _ _ _ (at x) x.if-count-token.false _ x.fields_at-f.ensures

-- where its flow is known
met : (x : After-fields_at-f) (flow : Flow) → KnownBranch x.args.usable (st x) x.fields_at-f.result flow
    → branch_step flow (st x) x.pass_tokens-run.result.token (step_of (st x) x.args.usable.profile x.pass_tokens-run.result.token x.fields_at-f.result)
met x flow = known_step _ _ _ x.requires _ _ (at x) _ flow

pub loop-token-preserved-in-Opener : goal.loop-token-preserved-in-Opener
loop-token-preserved-in-Opener c =
    let x = (goal.at.loop-token-preserved-in-Opener c).After-fields_at-f in
    rw (c.entered-state.ensures, c.slot.ensures.0) (goes x _ (sym (met x Opener c.in-Opener.ensures)) (at x).sound)

pub loop-token-preserved-in-Els : goal.loop-token-preserved-in-Els
loop-token-preserved-in-Els c =
    let x = (goal.at.loop-token-preserved-in-Els c).After-fields_at-f in
    rw c.exchanged-state.ensures (goes x _ (sym (met x Els c.in-Els.ensures)) (at x).sound)

pub loop-token-preserved-in-Eif : goal.loop-token-preserved-in-Eif
loop-token-preserved-in-Eif c =
    let x = (goal.at.loop-token-preserved-in-Eif c).After-fields_at-f in
    rw (c.closed-state.ensures, c.slot_around.ensures.0) (goes x _ (sym (met x Eif c.in-Eif.ensures)) (at x).sound)

pub loop-token-preserved : goal.loop-token-preserved
loop-token-preserved c =
    let x = (goal.at.loop-token-preserved c).After-fields_at-f in
    goes x _ c.step-next.ensures (none_met _ (sym c.is_some.ensures ∙ c.if-is_some.false))

pub returns-then-is_some : goal.returns-then-is_some
returns-then-is_some c =
    let x = (goal.at.returns-then-is_some c).After-fields_at-f in
    refused_at _ _ _ _ _ (at x) x.if-count-token.false _ x.fields_at-f.ensures _ c.step-next.ensures (sym c.is_some.ensures ∙ c.if-is_some.true)
