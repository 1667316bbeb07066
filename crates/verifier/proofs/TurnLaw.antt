-- The turns of the check's loop: each goes on with a state from which the same last state is reached.
-- Assumes nothing.
use Prim.Native.Nat.{ℕ, ◌+◌, ◌-◌, ◌≤◌}
use mathlib.Core.Bool.{true, false, true≢false}
use mathlib.Core.List.{List}
use mathlib.Core.Path.{◌≡◌, refl, ◌∙◌, sym, ap, subst}
use native.Mathlib.Omega.{arith}
use Rattle.std.specs.Prelude.{Option, Some, None, is_some}
use Rattle.bytecode.specs.declared.answers.Refusal.{Refusal}
use Rattle.bytecode.specs.Fields.{fields_of}
use Rattle.layout.specs.Programs.{token_at}
use Rattle.layout.specs.declared.fields.Fields.{Fields}
use Rattle.layout.specs.declared.opcodes.Flow.{Flow}
use Rattle.components.specs.declared.written.Written.{Written}
use Rattle.faults.specs.computed.LawfulTests.{usable_of}
use Rattle.faults.specs.computed.Profile.{profile_of}
use Rattle.faults.specs.declared.lawful.Usable.{Usable}
use Rattle.faults.specs.declared.profile.Profile.{Profile}
use Rattle.verifier.specs.computed.Glance.{Whenever, RunsOver, branch_step, KnownBranch, CanJudge}
use Rattle.verifier.specs.computed.State.{start_state, with_current}
use Rattle.verifier.specs.computed.Step.{step_of}
use Rattle.verifier.specs.computed.Steps.{steps_over}
use Rattle.verifier.specs.declared.glance.Run.{Run}
use Rattle.verifier.specs.declared.state.State.{State}
use Rattle.verifier.proofs.StepsLaw.{Leads, leads_on, leads_by_step, stays}

pub none_met : (o : Option Refusal) → is_some o ≡ false → o ≡ None
none_met None e = refl
none_met (Some r) e = absurd (true≢false e)

module _ (usable : Usable) (bytes : List ℕ) (count : ℕ) where
  abbrev profile : Profile
  profile = usable.profile

  -- the state after all tokens
  abbrev last : State
  last = steps_over profile bytes start_state 0 count

  -- a state without a fault, at token n, from which the last one is reached
  pub record Reached (st : State) (n : ℕ) : Type 0 where
    pub within : n ≤ count
    pub sound : st.fault ≡ None
    pub leads : Leads profile bytes count last st n

  pub reached_first : Reached start_state 0
  reached_first = let all : count - 0 ≡ count = omega arith in record { within = omega arith; sound = refl; leads = ap (steps_over profile bytes start_state 0) all }

  pub reached_last : (st : State) (n : ℕ) → Reached st n → count ≤ n → st ≡ last
  unfolding steps_over
  reached_last st n at h = let none : count - n ≡ 0 = omega arith in ap (steps_over profile bytes st n) (sym none) ∙ at.leads

  module _ (can : CanJudge usable bytes count) where
    made : usable ≡ usable_of (profile_of profile.edition profile.stage)
    made = can.used ∙ ap usable_of can.made

    -- what is known at a glance holds of the state that is reached
    pub known : (st : State) (n : ℕ) → Reached st n → (Holds : Profile → State → Type 0) → Whenever usable st.current Holds → Holds profile st
    known st n at Holds told = subst (λ p. Holds p st) (sym can.made) (told profile.edition profile.stage made st at.sound refl)

    -- so of the step at the token of a branch
    pub known_step : (st : State) (n : ℕ) → Reached st n → (f : Fields) (flow : Flow) → KnownBranch usable st f flow
        → branch_step flow st n (step_of st profile n f)
    known_step st n at f flow told =
        subst (λ p. branch_step flow st n (step_of st p n f)) (sym can.made) (told profile.edition profile.stage made at.sound n)

    -- after a run of tokens that are passed at a glance
    pub after_run : (before : State) (first : ℕ) → Reached before first → (r : Run) → RunsOver usable before.current bytes first count r
        → (current : Written) → current ≡ r.current → Reached (with_current before current) r.token
    after_run before first at r over current same =
        record {
          within = over.to;
          sound = at.sound;
          leads = leads_on profile bytes count last before first r.token over.from over.to at.leads (with_current before current) (known before first at (λ p st. steps_over p bytes st first (r.token - first) ≡ with_current st r.current) over.steps ∙ ap (with_current before) (sym same));
        }

  -- and then one token more, by its fields as the code reads them
  module _ (st : State) (n : ℕ) (at : Reached st n) (inside : n + 1 ≤ count) (f : Fields) (read : f ≡ fields_of (token_at bytes n))
      (next : State) (stepped : next ≡ step_of st profile n f) where
    reaches : Leads profile bytes count last next (n + 1)
    reaches = leads_by_step profile bytes count last st n (omega (arith, inside)) at.leads next (ap (step_of st profile n) (sym read) ∙ sym stepped)

    pub after_step : next.fault ≡ None → Reached next (n + 1)
    after_step sound = record { within = inside; sound = sound; leads = reaches }

    pub refused_at : is_some next.fault ≡ true → next ≡ last
    refused_at e = sym (stays profile bytes next e (n + 1) (count - (n + 1))) ∙ reaches
