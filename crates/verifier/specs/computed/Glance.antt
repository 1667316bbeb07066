-- What is known of a token that is passed at a glance: what its step makes of the state.
use Rattle.std.specs.Prelude.{ℕ, ◌+◌, ◌*◌, ◌-◌, ◌≤◌, ◌<◌, Bool, true, false, List, ◌≡◌, length, Option, Some, None}
use Rattle.layout.specs.Records.{register_of}
use Rattle.layout.specs.declared.fields.Fields.{Fields}
use Rattle.layout.specs.declared.opcodes.Flow.{Flow}
use Rattle.layout.specs.declared.opcodes.Flow.TheVariants.{Plain, Opener, Els, Eif}
use Rattle.components.specs.computed.QuickTests.{opener_may_read_unwritten}
use Rattle.components.specs.declared.written.Written.{Written}
use Rattle.faults.specs.computed.LawfulTests.{usable_of}
use Rattle.faults.specs.computed.Profile.{profile_of}
use Rattle.faults.specs.declared.lawful.Usable.{Usable}
use Rattle.faults.specs.declared.profile.Profile.{Profile}
use Rattle.verifier.specs.computed.State.{with_current, exchanged_state, joined_state, opened_state, written_by}
use Rattle.verifier.specs.computed.Step.{step_of}
use Rattle.verifier.specs.computed.Steps.{steps_over}
use Rattle.verifier.specs.declared.glance.Run.{Run}
use Rattle.verifier.specs.declared.state.State.{State}

-- the set after a token without a fault of its own, unless it may read what is not written
abbrev pub passed_unless : Bool → Written → Fields → Option Written
passed_unless true current f = None
passed_unless false current f = Some (written_by current (register_of f.destination))

-- what holds of every state without a fault whose set at hand is this, under the profile that this is usable in
abbrev pub Whenever : Usable → Written → (Profile → State → Type 0) → Type 0
Whenever usable current Holds =
    (edition stage : ℕ) → usable ≡ usable_of (profile_of edition stage)
    → (st : State) → st.fault ≡ None → st.current ≡ current → Holds (profile_of edition stage) st

-- the step of the token, wherever it stands and whatever branches are open, leaves this set and changes nothing else
abbrev pub Passes : Usable → Written → Fields → Written → Type 0
Passes usable current f next = Whenever usable current (λ p st. (token : ℕ) → step_of st p token f ≡ with_current st next)

-- so do the steps of all tokens of a run
pub record RunsOver (usable : Usable) (current : Written) (bytes : List ℕ) (first count : ℕ) (r : Run) : Type 0 where
  pub from : first ≤ r.token
  pub to : r.token ≤ count
  pub steps : Whenever usable current (λ p st. steps_over p bytes st first (r.token - first) ≡ with_current st r.current)

-- the token of a branch reads what is not written; els and eif read nothing
abbrev pub opens_unwritten : Flow → Written → Fields → Bool
opens_unwritten Plain current f = false
opens_unwritten Opener current f = opener_may_read_unwritten current f
opens_unwritten Els current f = false
opens_unwritten Eif current f = false

-- what the token of a branch makes of a state
abbrev pub branch_step : Flow → State → ℕ → State → Type 0
branch_step Plain st token next = Unit {0}
branch_step Opener st token next = next ≡ opened_state st token
branch_step Els st token next = next ≡ exchanged_state st
branch_step Eif st token next = next ≡ joined_state st

-- the step of a token of a branch from this state, wherever it stands, where the state has no fault
abbrev pub KnownBranch : Usable → State → Fields → Flow → Type 0
KnownBranch usable st f flow =
    (edition stage : ℕ) → usable ≡ usable_of (profile_of edition stage)
    → st.fault ≡ None → (token : ℕ) → branch_step flow st token (step_of st (profile_of edition stage) token f)

-- what the tokens are judged with: what is usable in an edition and a stage, and so many tokens as there are at least and as can be counted
pub record CanJudge (usable : Usable) (bytes : List ℕ) (count : ℕ) : Type 0 where
  pub made : usable.profile ≡ profile_of usable.profile.edition usable.profile.stage
  pub used : usable ≡ usable_of usable.profile
  pub there : 7 + count * 24 ≤ length bytes
  pub few : count < 65536
