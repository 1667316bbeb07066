-- One step of the code is one token of the check over paths.
-- Assumes nothing.
use Prim.Native.Nat.{ℕ, suc, ◌≤◌}
use mathlib.Core.Bool.{Bool, true, false, not, cond}
use mathlib.Core.List.{List, ◌∷◌}
use mathlib.Core.Option.{none}
use mathlib.Core.Path.{◌≡◌, refl, ◌∙◌, sym, ap, subst}
use native.Mathlib.Decide.{dec_lt}
use native.Mathlib.Omega.{arith}
use lib.Dec.{leb, leb→le}
use borrow.Author.Tests.{leb-false}
use Rattle.std.specs.Prelude.{Option, Some, None, Result, Ok, Err, ⊤}
use Rattle.bytecode.specs.Decode.{refusal}
use Rattle.bytecode.specs.declared.answers.Refusal.{Refusal}
use Rattle.layout.specs.Opcodes.{flow_of}
use Rattle.layout.specs.declared.opcodes.Flow.{Flow}
use Rattle.layout.specs.declared.opcodes.Flow.TheVariants.{Plain, Opener, Els, Eif}
use Rattle.layout.specs.declared.record.MaskedRegister.{MaskedRegister}
use Rattle.layout.specs.declared.record.Token.{Token}
use Rattle.registers.specs.Counts.{count_of}
use Rattle.registers.specs.Uses.{is_writable}
use Rattle.registers.proofs.Outside.{outside_stage, outside_edition}
use Rattle.laws.specs.computed.Tests.{every}
use Rattle.laws.proofs.Every.{below, neither}
use Rattle.paths.specs.Paths.{PathToken}
use Rattle.paths.specs.Nesting.{misplaced}
use Rattle.paths.specs.Faults.{Answer, refused}
use Rattle.components.specs.Reads.{reads1, reads2, writes_into, temporaries}
use Rattle.components.specs.Tokens.{path_flow, path_token_of}
use Rattle.components.specs.computed.Access.{lacks_access, access1_of, access2_of}
use Rattle.paths.specs.computed.Sets.{adds}
use Rattle.components.specs.computed.Written.{component_set}
use Rattle.paths.specs.computed.Check.{judge, lacks, set_before, next_state, check_from}
use Rattle.components.proofs.AccessLaws.{lacks_reads1, lacks_reads2}
use Rattle.faults.specs.Rules.{destination_wrong}
use Rattle.verifier.specs.computed.State.{is_misplaced, set_met, met_state, wrote_state, parted_state, with_fault}
use Rattle.verifier.specs.computed.Step.{next_of, fault_of_paths, unless_found, follow_of}
use Rattle.verifier.specs.declared.state.State.{State}
use Rattle.verifier.proofs.Abstract.{abstract_of, branches_in, misplaced_is, Valid}
use Rattle.verifier.proofs.NextState.{Kept, wrote_is, next_abstract, follows}

-- what a state means for the answer: its fault, or what the tokens that are left, which are numbered from n, make of it
abbrev pub told_by : Option Refusal → Answer → Answer
told_by (Some r) later = refused r.number r.token r.part
told_by None later = later

abbrev pub tells : State → ℕ → List PathToken → Answer
tells st n rest = told_by st.fault (check_from (abstract_of st) n rest)

-- ---- a written temporary is kept

temporary_count : (edition stage : ℕ) → count_of 2 edition stage ≤ 26
unfolding count_of
temporary_count edition stage =
    elim (dec_lt edition 4) [
      | yes e ↦ elim (dec_lt stage 2) [
        | yes s ↦ leb→le (count_of 2 edition stage) 26 (below (λ s. leb (count_of 2 edition s) 26) 2 (below (λ e. every (λ s. leb (count_of 2 e s) 26) 2) 4 tt edition e) stage s)
        | no s ↦ rw (outside_stage 2 edition stage (omega (arith, s))) (omega arith)
      ]
      | no e ↦ rw (outside_edition 2 edition stage (omega (arith, e))) (omega arith)
    ]

pub kept : (edition stage : ℕ) (d : Option MaskedRegister) → destination_wrong (λ k. count_of k edition stage) stage d ≡ false → Kept d
kept edition stage None e = tt
kept edition stage (Some r) e =
    λ k.
    let h = leb-false (count_of r.kind edition stage) r.number (neither (not (is_writable r.kind stage)) (leb (count_of r.kind edition stage) r.number) e).1 in
    let q = ap (λ x. count_of x edition stage) k in
    omega (arith, temporary_count edition stage)

-- ---- what follows a token without a fault

-- the fault stays as a token is met, written and passed
fault_stays : (st : State) (f : Flow) (d : Option MaskedRegister) (n : ℕ) → (parted_state (wrote_state (met_state st f) d) f n).fault ≡ st.fault
fault_stays st Plain None n = refl
fault_stays st Plain (Some r) n = refl
fault_stays st Opener None n = refl
fault_stays st Opener (Some r) n = refl
fault_stays st Els None n = refl
fault_stays st Els (Some r) n = refl
fault_stays st Eif None n = refl
fault_stays st Eif (Some r) n = refl

-- the set at hand of the state that a token meets
met_current : (st : State) (f : Flow) → set_met f st.current st.innermost.kept ≡ (met_state st f).current
met_current st Plain = refl
met_current st Opener = refl
met_current st Els = refl
met_current st Eif = refl

-- 20 and 21 by the values of their tests
abbrev found_by : ℕ → Bool → Bool → Bool → Result ⊤ Refusal
found_by n m a b = cond m (Err (refusal 20 n 0)) (cond a (Err (refusal 21 n 2)) (cond b (Err (refusal 21 n 3)) (Ok tt)))

-- so a step
abbrev pub by_tests : State → ℕ → Token → Bool → Bool → Bool → State
by_tests st n t m a b = unless_found (found_by n m a b) st (next_of st n t)

pub follow_tests : (st : State) (n : ℕ) (t : Token)
    → let f = flow_of t.opcode in
    follow_of st n t ≡ by_tests st n t (is_misplaced st f) (lacks_access (met_state st f).current (access1_of t)) (lacks_access (met_state st f).current (access2_of t))
unfolding follow_of fault_of_paths
follow_tests st n t =
    ap (λ w. by_tests st n t (is_misplaced st (flow_of t.opcode)) (lacks_access w (access1_of t)) (lacks_access w (access2_of t))) (met_current st (flow_of t.opcode))

pub valid_fault : (st : State) → Valid st → (r : Refusal) → Valid (with_fault st r)
valid_fault st v r = record { depth = v.depth; around = v.around }

-- ---- 20, 21 and the next state, of a record with no fault of its own

module _ (st : State) (v : Valid st) (sound : st.fault ≡ None) (n : ℕ) (t : Token) (rest : List PathToken) where
  abbrev pub pt : PathToken
  pt = path_token_of none t

  abbrev f : Flow
  f = flow_of t.opcode

  module _ (m : is_misplaced st f ≡ false) where
    before_is : set_before pt (abstract_of st) ≡ component_set (met_state st f).current
    before_is = sym (follows st n v f m).before

    lacks1 : lacks (set_before pt (abstract_of st)) (temporaries (reads1 t)) ≡ lacks_access (met_state st f).current (access1_of t)
    lacks1 = ap (λ w. lacks w (temporaries (reads1 t))) before_is ∙ lacks_reads1 (met_state st f).current t

    lacks2 : lacks (set_before pt (abstract_of st)) (temporaries (reads2 t)) ≡ lacks_access (met_state st f).current (access2_of t)
    lacks2 = ap (λ w. lacks w (temporaries (reads2 t))) before_is ∙ lacks_reads2 (met_state st f).current t

  next_is : is_misplaced st f ≡ false → Kept t.destination → (next_state (abstract_of st) n pt ≡ abstract_of (next_of st n t)) × Valid (next_of st n t)
  next_is m k =
      let (w, e, c) = wrote_is (met_state st f) t.destination k in
      let g = follows st n v f m in
      let set : adds (set_before pt (abstract_of st)) (temporaries (writes_into t.destination)) ≡ component_set w = ap (λ b. adds b (temporaries (writes_into t.destination))) (before_is m) ∙ sym c in (
        ap (next_abstract (abstract_of st) (path_flow f) n) set ∙ sym (g.after w) ∙ ap (λ x. abstract_of (parted_state x f n)) (sym e),
        subst (λ x. Valid (parted_state x f n)) (sym e) (g.valid w),
      )

  -- a step makes no fault but those that it names
  next_sound : (next_of st n t).fault ≡ None
  next_sound = fault_stays st f t.destination n ∙ sound

  -- the tests by their values
  decided : (m a b : Bool) (later : Answer) → (m ≡ false → later ≡ check_from (abstract_of (next_of st n t)) (suc n) rest)
      → judge none m a b n later ≡ tells (by_tests st n t m a b) (suc n) rest
  decided true a b later k = refl
  decided false true b later k = refl
  decided false false true later k = refl
  decided false false false later k = k refl ∙ rw next_sound

  pub followed : Kept t.destination → check_from (abstract_of st) n (pt ∷ rest) ≡ tells (follow_of st n t) (suc n) rest
  unfolding check_from
  followed k = go (is_misplaced st f) refl ∙ ap (λ s. tells s (suc n) rest) (sym (follow_tests st n t))
    where
      go : (m : Bool) → is_misplaced st f ≡ m
          → judge none (misplaced (path_flow f) (branches_in st)) (lacks (set_before pt (abstract_of st)) (temporaries (reads1 t))) (lacks (set_before pt (abstract_of st)) (temporaries (reads2 t))) n (check_from (next_state (abstract_of st) n pt) (suc n) rest)
          ≡ tells (by_tests st n t (is_misplaced st f) (lacks_access (met_state st f).current (access1_of t)) (lacks_access (met_state st f).current (access2_of t))) (suc n) rest
      go true e = rw (sym (misplaced_is st f) ∙ e, e)
      go false e =
          let b = lacks (set_before pt (abstract_of st)) (temporaries (reads2 t)) in
          let later = check_from (next_state (abstract_of st) n pt) (suc n) rest in
          ap (λ m. judge none m (lacks (set_before pt (abstract_of st)) (temporaries (reads1 t))) b n later) (sym (misplaced_is st f))
          ∙ ap (λ l. judge none (is_misplaced st f) l b n later) (lacks1 e)
          ∙ ap (λ l. judge none (is_misplaced st f) (lacks_access (met_state st f).current (access1_of t)) l n later) (lacks2 e)
          ∙ decided (is_misplaced st f) (lacks_access (met_state st f).current (access1_of t)) (lacks_access (met_state st f).current (access2_of t)) later (λ m. ap (λ x. check_from x (suc n) rest) (next_is m k).0)

  -- a step leaves a valid state
  decided_valid : (m a b : Bool) → (m ≡ false → Valid (next_of st n t)) → Valid (by_tests st n t m a b)
  decided_valid true a b k = valid_fault st v (refusal 20 n 0)
  decided_valid false true b k = valid_fault st v (refusal 21 n 2)
  decided_valid false false true k = valid_fault st v (refusal 21 n 3)
  decided_valid false false false k = k refl

  pub follow_valid : Kept t.destination → Valid (follow_of st n t)
  follow_valid k = subst Valid (sym (follow_tests st n t)) (decided_valid (is_misplaced st f) (lacks_access (met_state st f).current (access1_of t)) (lacks_access (met_state st f).current (access2_of t)) (λ m. (next_is m k).1))
