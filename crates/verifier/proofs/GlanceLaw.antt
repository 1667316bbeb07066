-- What is known at a glance of a token is what its step does.
-- Assumes nothing.
use Prim.Native.Nat.{ℕ, ◌+◌, ◌-◌, ◌≤◌}
use mathlib.Core.Bool.{Bool, true, false, not}
use mathlib.Core.List.{List}
use mathlib.Core.Path.{◌≡◌, refl, ◌∙◌, sym, ap, ap₂}
use native.Mathlib.Omega.{arith}
use Rattle.std.specs.Prelude.{None, IfSome}
use Rattle.std.specs.Bool.{then_some}
use Rattle.bytecode.specs.Decode.{no_refusal}
use Rattle.bytecode.specs.computed.CleanFields.{is_clean}
use Rattle.bytecode.specs.Fields.{fields_of}
use Rattle.layout.specs.Opcodes.{shape_of, flow_of}
use Rattle.layout.specs.Records.{register_of, destination_of, token_of}
use Rattle.layout.specs.declared.fields.Fields.{Fields}
use Rattle.layout.specs.declared.opcodes.Flow.{Flow}
use Rattle.layout.specs.declared.opcodes.Flow.TheVariants.{Plain, Opener, Els, Eif}
use Rattle.layout.specs.declared.record.Token.{Token}
use Rattle.layout.specs.Programs.{token_at}
use Rattle.layout.proofs.OpcodeLists.{plain_flow}
use Rattle.components.specs.computed.Access.{lacks_access, access1_of, access2_of}
use Rattle.components.specs.computed.QuickTests.{kil_may_read_unwritten, opener_may_read_unwritten}
use Rattle.components.specs.computed.ReadsWritten.{ReadsWritten}
use Rattle.components.specs.declared.written.Written.{Written}
use Rattle.components.proofs.AccessLaws.{lacks_reads1, lacks_reads2}
use Rattle.faults.specs.computed.Faults.{own_fault}
use Rattle.faults.specs.computed.LawfulTests.{usable_of, is_lawful_kil, is_lawful_branch}
use Rattle.faults.specs.computed.Profile.{profile_of}
use Rattle.faults.specs.declared.lawful.Usable.{Usable}
use Rattle.faults.proofs.LawfulBranch.{LawfulBranch, lawful_branch}
use Rattle.faults.proofs.LawfulKil.{lawful_kil}
use Rattle.faults.proofs.LawfulToken.{ToldLawful, LawfulToken}
use Rattle.verifier.specs.computed.Glance.{passed_unless, Whenever, Passes, opens_unwritten, branch_step, KnownBranch}
use Rattle.verifier.specs.computed.State.{is_misplaced, met_state, parted_state, with_current, written_by, wrote_state}
use Rattle.verifier.specs.computed.Step.{fault_of_fields, follow_of, step_of}
use Rattle.verifier.specs.computed.Steps.{steps_over}
use Rattle.verifier.specs.declared.state.State.{State}
use Rattle.verifier.proofs.StepLaw.{by_tests, follow_tests}
use Rattle.verifier.proofs.StepsLaw.{one_more}

-- what a token reads that reads nothing unwritten, as the code asks for it
right1 : (w : Written) (f : Fields) → ReadsWritten w f → lacks_access w (access1_of (token_of (shape_of f.opcode) f)) ≡ false
right1 w f reads = sym (lacks_reads1 w (token_of (shape_of f.opcode) f)) ∙ reads.0

right2 : (w : Written) (f : Fields) → ReadsWritten w f → lacks_access w (access2_of (token_of (shape_of f.opcode) f)) ≡ false
right2 w f reads = sym (lacks_reads2 w (token_of (shape_of f.opcode) f)) ∙ reads.1

module _ (st : State) (sound : st.fault ≡ None) (token : ℕ) where
  -- a token that decode takes and that has none of faults 10 to 19
  taken : (edition stage : ℕ) (f : Fields) → is_clean (shape_of f.opcode) f ≡ true → own_fault (profile_of edition stage) token (token_of (shape_of f.opcode) f) ≡ no_refusal
      → step_of st (profile_of edition stage) token f ≡ follow_of st token (token_of (shape_of f.opcode) f)
  unfolding fault_of_fields step_of
  taken edition stage f e q = rw (sound, e, q)

  -- a token that is in its place and reads nothing unwritten
  follow_right : (t : Token) (flow : Flow) → flow_of t.opcode ≡ flow → is_misplaced st flow ≡ false
      → lacks_access (met_state st flow).current (access1_of t) ≡ false → lacks_access (met_state st flow).current (access2_of t) ≡ false
      → follow_of st token t ≡ parted_state (wrote_state (met_state st flow) t.destination) flow token
  follow_right t flow e m a b =
      follow_tests st token t
      ∙ ap (λ f. by_tests st token t (is_misplaced st f) (lacks_access (met_state st f).current (access1_of t)) (lacks_access (met_state st f).current (access2_of t))) e
      ∙ rw (m, a, b) (ap (λ f. parted_state (wrote_state (met_state st f) t.destination) f token) e)

  -- a lawful token that is no branch and reads nothing unwritten
  passes : (edition stage : ℕ) (used : Bool) (Enough : Written → Type 0) (f : Fields) → ToldLawful edition stage false used Enough f → Enough st.current
      → step_of st (profile_of edition stage) token f ≡ wrote_state st (destination_of used f.destination)
  unfolding token_of
  passes edition stage used Enough f p enough =
      taken edition stage f p.clean (p.right token)
      ∙ follow_right (token_of (shape_of f.opcode) f) Plain (plain_flow f.opcode p.flow) refl (right1 st.current f (p.reads st.current enough)) (right2 st.current f (p.reads st.current enough))
      ∙ ap (λ d. wrote_state st d) p.destination

  -- the token of a branch that is in its place
  goes_by : (edition stage : ℕ) (f : Fields) → LawfulBranch edition stage f → (flow : Flow) → flow_of f.opcode ≡ flow
      → is_misplaced st flow ≡ false → opens_unwritten flow st.current f ≡ false
      → step_of st (profile_of edition stage) token f ≡ parted_state (met_state st flow) flow token
  unfolding token_of
  goes_by edition stage f p flow e m l =
      taken edition stage f p.clean (p.right token)
      ∙ follow_right (token_of (shape_of f.opcode) f) flow e m (reads flow e l).0 (reads flow e l).1
      ∙ ap (λ d. parted_state (wrote_state (met_state st flow) d) flow token) p.destination
    where
      written : (w : Written) → (flow_of f.opcode ≡ Opener → opener_may_read_unwritten w f ≡ false) → (lacks_access w (access1_of (token_of (shape_of f.opcode) f)) ≡ false) × (lacks_access w (access2_of (token_of (shape_of f.opcode) f)) ≡ false)
      written w unless = (right1 w f (p.reads w unless), right2 w f (p.reads w unless))

      reads : (flow : Flow) → flow_of f.opcode ≡ flow → opens_unwritten flow st.current f ≡ false
          → (lacks_access (met_state st flow).current (access1_of (token_of (shape_of f.opcode) f)) ≡ false) × (lacks_access (met_state st flow).current (access2_of (token_of (shape_of f.opcode) f)) ≡ false)
      reads Plain e l = written st.current (λ o. cc)
      reads Opener e l = written st.current (λ o. l)
      reads Els e l = written (met_state st Els).current (λ o. cc)
      reads Eif e l = written (met_state st Eif).current (λ o. cc)

-- By a test that tells lawful tokens, with the test that goes with it of what they read: `told` and `asked` are what the code was answered.
module _ (f : Fields) (test : Usable → Bool) (unwritten : Written → Fields → Bool)
    (law : (edition stage : ℕ) → test (usable_of (profile_of edition stage)) ≡ true → LawfulToken edition stage unwritten f) where
  pub passes_by : (usable : Usable) (told : Bool) → told ≡ test usable → told ≡ true
      → (current : Written) (asked : Bool) → asked ≡ unwritten current f → IfSome (passed_unless asked current f) (Passes usable current f)
  passes_by usable told tells holds current true asks = tt
  passes_by usable told tells holds current false asks =
      λ edition stage used st sound at token.
      let lawful = law edition stage (ap test (sym used) ∙ sym tells ∙ holds) in
      passes st sound token edition stage true (λ w. unwritten w f ≡ false) f lawful (ap (λ w. unwritten w f) at ∙ sym asks)
      ∙ ap (λ w. with_current st (written_by w (register_of f.destination))) at

-- kil writes nothing, and leaves the set at hand
pub passes_kil : (usable : Usable) (f : Fields) (told : Bool) → told ≡ is_lawful_kil usable f → told ≡ true
    → (current : Written) (asked : Bool) → asked ≡ kil_may_read_unwritten current f → IfSome (then_some (not asked) current) (Passes usable current f)
passes_kil usable f told tells holds current true asks = tt
passes_kil usable f told tells holds current false asks =
    λ edition stage used st sound at token.
    passes st sound token edition stage false (λ w. kil_may_read_unwritten w f ≡ false) f
    (lawful_kil edition stage f (ap (λ u. is_lawful_kil u f) (sym used) ∙ sym tells ∙ holds))
    (ap (λ w. kil_may_read_unwritten w f) at ∙ sym asks)
    ∙ ap (with_current st) at

-- a branch that is lawful, in its place and reads nothing unwritten
pub branch_known : (usable : Usable) (st : State) (f : Fields) (flow : Flow)
    → is_lawful_branch usable f ≡ true → flow ≡ flow_of f.opcode → is_misplaced st flow ≡ false → opens_unwritten flow st.current f ≡ false
    → KnownBranch usable st f flow
branch_known usable st f flow lawful is m l edition stage used sound token =
    let p = lawful_branch edition stage f (ap (λ u. is_lawful_branch u f) (sym used) ∙ lawful) in
    by_flow flow (goes_by st sound token edition stage f p flow (sym is) m l)
  where
    by_flow : (flow : Flow) {next : State} → next ≡ parted_state (met_state st flow) flow token → branch_step flow st token next
    by_flow Plain e = tt
    by_flow Opener e = e
    by_flow Els e = e
    by_flow Eif e = e

-- ---- a run of tokens

module _ (usable : Usable) (bytes : List ℕ) (first : ℕ) (from : Written) where
  -- the steps from the first token of a run up to token n leave this set
  abbrev Reaches : ℕ → Written → Type 0
  Reaches n current = Whenever usable from (λ p st. steps_over p bytes st first (n - first) ≡ with_current st current)

  pub run_none : Reaches first from
  unfolding steps_over
  run_none edition stage used st sound at =
      let none : first - first ≡ 0 = omega arith in
      ap (steps_over (profile_of edition stage) bytes st first) none ∙ ap (with_current st) at

  pub run_more : (n : ℕ) → first ≤ n → (current : Written) → Reaches n current
      → (f : Fields) → f ≡ fields_of (token_at bytes n) → (next : Written) → Passes usable current f next → Reaches (n + 1) next
  run_more n h current reached f read next passing edition stage used st sound at =
      let p = profile_of edition stage in
      one_more p bytes st first n h
      ∙ ap₂ (λ s g. step_of s p n g) (reached edition stage used st sound at) (sym read)
      ∙ passing edition stage used (with_current st current) sound refl n
