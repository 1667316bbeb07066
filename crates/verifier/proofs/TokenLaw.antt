-- One step of the code on the bytes of a token is one token of the check over paths.
-- Assumes nothing.
use Prim.Native.Nat.{ℕ, suc}
use mathlib.Core.Bool.{Bool, true, false, cond}
use mathlib.Core.List.{List, ◌∷◌}
use mathlib.Core.Option as maybe
use mathlib.Core.Option.{none, some}
use mathlib.Core.Path.{◌≡◌, refl, ◌∙◌, sym, ap, subst}
use native.Mathlib.Omega.{arith}
use lib.Dec.{ltb}
use lib.ListN.{length}
use borrow.Author.Tests.{eq-eqb, ne_eqb}
use Rattle.std.specs.Prelude.{Option, Some, None, Result, Ok, Err, ⊤}
use Rattle.bytecode.specs.Decode.{refusal, outcome, token_fault, decode_of}
use Rattle.bytecode.specs.computed.CleanFields.{is_clean}
use Rattle.bytecode.specs.Fields.{fields_of, record_of}
use Rattle.bytecode.specs.declared.answers.Refusal.{Refusal}
use Rattle.layout.specs.Opcodes.{shape_of}
use Rattle.layout.specs.declared.record.Token.{Token}
use Rattle.bytecode.proofs.DecodeLaws.{was_refused, no_faults, with_fault_lem, clean_none, clean_by, not_clean}
use Rattle.registers.specs.Counts.{count_of}
use Rattle.paths.specs.Paths.{TokenFault, PathToken}
use Rattle.components.specs.Tokens.{path_token_of}
use Rattle.paths.specs.computed.Check.{check_from}
use Rattle.faults.specs.Rules.{opcode_too_new, opcode_not_for_stage, destination_wrong}
use Rattle.faults.specs.computed.Profile.{profile_of}
use Rattle.faults.specs.Order.{first_fault, token_rules, path_token_at}
use Rattle.faults.specs.computed.Faults.{refusal_at, own_fault, undecoded_fault}
use Rattle.verifier.specs.computed.State.{with_fault}
use Rattle.verifier.specs.computed.Step.{raw_of, unless_found, unless_refused, fault_of_fields, follow_of, step_of}
use Rattle.faults.specs.declared.profile.Profile.{Profile}
use Rattle.verifier.specs.declared.state.State.{State}
use Rattle.verifier.proofs.Abstract.{abstract_of, Valid}
use Rattle.faults.proofs.FaultLaws.{none_broken}
use Rattle.verifier.proofs.NextState.{Kept}
use Rattle.faults.proofs.OwnFault.{token_numbered, refused_fault, taken_fault}
use Rattle.verifier.proofs.StepLaw.{told_by, tells, kept, valid_fault, followed, follow_valid}

-- the destination of a token with none of faults 9 to 19
destination_right : (count : ℕ → ℕ) (edition stage : ℕ) (s : List ℕ) → first_fault (token_rules count edition stage s) ≡ none
    → destination_wrong count stage (record_of s).destination ≡ false
destination_right count edition stage s e = (none_broken (token_rules count edition stage s) e).1.1.1.1.1.0

-- ---- a refused token has a fault

undecoded_fault_lem : (profile : Profile) (n : ℕ) (r : Refusal) (o : ℕ) → (r.number ≡ 0 → ⊥) → (undecoded_fault profile n r o).number ≡ 0 → ⊥
unfolding undecoded_fault
undecoded_fault_lem profile n r o z = go (ltb r.number 12) (opcode_too_new profile.edition o) (opcode_not_for_stage profile.stage o)
  where
    go : (a b c : Bool) → (cond a (refusal r.number n r.part) (cond b (refusal 10 n 0) (cond c (refusal 11 n 0) (refusal r.number n r.part)))).number ≡ 0 → ⊥
    go true b c e = z e
    go false true c e = omega (arith, e)
    go false false true e = omega (arith, e)
    go false false false e = z e

-- what follows a fault of fields, or none
abbrev after_fault : State → ℕ → Result ⊤ Refusal → Token → State
after_fault st n r t = unless_found r st (follow_of st n t)

module _ (edition stage n : ℕ) (s : List ℕ) (h : length s ≡ 24) (st : State) (v : Valid st) (sound : st.fault ≡ None) (rest : List PathToken) where
  -- the token's own fault
  abbrev own : maybe.Option TokenFault
  own = first_fault (token_rules (λ k. count_of k edition stage) edition stage s)

  abbrev profile : Profile
  profile = profile_of edition stage

  -- a fault of the token is the answer
  at_fault : (f : TokenFault) → own ≡ some f → (u : Refusal) → refusal_at n own ≡ u
      → (check_from (abstract_of st) n (path_token_of own (record_of s) ∷ rest) ≡ tells (with_fault st u) (suc n) rest) × (u.number ≡ 0 → ⊥)
  unfolding check_from
  at_fault f e u q =
      let k = token_numbered (λ k. count_of k edition stage) edition stage s f e in
      let p : u ≡ refusal f.number n f.part = sym q ∙ ap (refusal_at n) e in
      (rw (p, e), λ z. omega (arith, sym (ap (λ x. x.number) p) ∙ z))

  -- what is shown of a step
  Steps : State → Type 0
  Steps next = (check_from (abstract_of st) n (path_token_of own (record_of s) ∷ rest) ≡ tells next (suc n) rest) × Valid next

  when_refused : (r : Refusal) → decode_of s ≡ Err r → Steps (with_fault st (undecoded_fault profile n r (fields_of s).opcode))
  unfolding Steps
  when_refused r e = go own refl
    where
      q : refusal_at n own ≡ undecoded_fault profile n r (fields_of s).opcode
      q = refused_fault edition stage n s h r e

      go : (o : maybe.Option TokenFault) → own ≡ o → (check_from (abstract_of st) n (path_token_of own (record_of s) ∷ rest) ≡ tells (with_fault st (undecoded_fault profile n r (fields_of s).opcode)) (suc n) rest) × Valid (with_fault st (undecoded_fault profile n r (fields_of s).opcode))
      go none k = absurd (undecoded_fault_lem profile n r (fields_of s).opcode (was_refused s r h e).1 (sym (ap (λ x. x.number) (sym (ap (refusal_at n) k) ∙ q))))
      go (some f) k = ((at_fault f k _ q).0, valid_fault st v _)

  when_taken : (t : Token) → decode_of s ≡ Ok t → Steps (after_fault st n (outcome (own_fault profile n t)) t)
  unfolding Steps
  when_taken t e = go own refl
    where
      p : t ≡ record_of s
      p = (taken_fault edition stage n s h t e).0

      q : refusal_at n own ≡ own_fault profile n t
      q = (taken_fault edition stage n s h t e).1

      go : (o : maybe.Option TokenFault) → own ≡ o
          → (check_from (abstract_of st) n (path_token_of own (record_of s) ∷ rest) ≡ tells (after_fault st n (outcome (own_fault profile n t)) t) (suc n) rest) × Valid (after_fault st n (outcome (own_fault profile n t)) t)
      go none k =
          let z : (own_fault profile n t).number ≡ 0 = ap (λ x. x.number) (sym q ∙ ap (refusal_at n) k) in
          let d = subst (λ x. Kept x.destination) (sym p) (kept edition stage (record_of s).destination (destination_right (λ k. count_of k edition stage) edition stage s k)) in
          rw (eq-eqb (own_fault profile n t).number 0 z) (
            ap (λ o. check_from (abstract_of st) n (path_token_of o (record_of s) ∷ rest)) k
                ∙ ap (λ x. check_from (abstract_of st) n (path_token_of none x ∷ rest)) (sym p)
                ∙ followed st v sound n t rest d,
            follow_valid st v sound n t rest d,
          )
      go (some f) k =
          let (a, z) = at_fault f k _ q in
          rw (ne_eqb (own_fault profile n t).number 0 z) (a, valid_fault st v _)

  sound_steps : Steps (after_fault st n (fault_of_fields profile n (raw_of (fields_of s))) (record_of s))
  unfolding Steps fault_of_fields
  sound_steps = go (is_clean (shape_of (fields_of s).opcode) (fields_of s)) refl
    where
      refused : Refusal
      refused = token_fault (shape_of (fields_of s).opcode) (fields_of s)

      go : (b : Bool) → is_clean (shape_of (fields_of s).opcode) (fields_of s) ≡ b
          → Steps (after_fault st n (cond b (outcome (own_fault profile n (record_of s))) (Err (undecoded_fault profile n refused (fields_of s).opcode))) (record_of s))
      go true e = when_taken (record_of s) (sym (no_faults s h (ap (λ r. r.number) (clean_none _ _ (clean_by _ _ e)))).answer)
      go false e = when_refused refused (sym (with_fault_lem s h (not_clean _ _ e)).answer)

-- A step of the code is a token of the check over paths, from every valid state.
module _ (edition stage n : ℕ) (s : List ℕ) (h : length s ≡ 24) (st : State) (v : Valid st) (rest : List PathToken) where
  abbrev token : PathToken
  token = path_token_at (λ k. count_of k edition stage) edition stage s

  abbrev next : State
  next = step_of st (profile_of edition stage) n (fields_of s)

  pub steps : (tells st n (token ∷ rest) ≡ tells next (suc n) rest) × Valid next
  unfolding step_of Steps
  steps = go st.fault refl
    where
      judged : State
      judged = after_fault st n (fault_of_fields (profile_of edition stage) n (raw_of (fields_of s))) (record_of s)

      go : (o : Option Refusal) → st.fault ≡ o
          → (told_by o (check_from (abstract_of st) n (token ∷ rest)) ≡ tells (unless_refused o st judged) (suc n) rest) × Valid (unless_refused o st judged)
      go None e = sound_steps edition stage n s h st v e rest
      go (Some r) e = (rw e, v)
