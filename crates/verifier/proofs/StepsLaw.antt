-- The steps over all tokens give the answer of the check over paths; and what a loop needs of them.
-- Assumes nothing.
use Prim.Native.Nat.{ℕ, zero, suc, ◌+◌, ◌-◌, ◌*◌, ◌/◌, ◌%◌, ◌^◌, ◌≤◌, ◌<◌}
use mathlib.Core.Bool.{Bool, true, false, not, cond, false≢true}
use mathlib.Core.List.{List, []}
use mathlib.Core.Path.{◌≡◌, refl, ◌∙◌, sym, ap, ap₂, fun_ext}
use native.Mathlib.Nat.{zero-div}
use native.Mathlib.Numerals.{add-one}
use native.Mathlib.Omega.{arith}
use lib.Dec.{eqb, ltb, leb}
use lib.ListN.{length, take, drop, length-take, length-drop}
use borrow.Author.Tests.{eq-eqb, ne_eqb, le-ltb, leb-true, not-true}
use Rattle.laws.proofs.Every.{left as both_left, right as both_right}
use Rattle.paths.specs.computed.Sets.{nothing}
use Rattle.components.specs.computed.Written.{component_set, half_of}
use Rattle.paths.specs.computed.Check.{start, check_from, verdict_of}
use Rattle.std.specs.Prelude.{Option, Some, None, Ok, Err, is_some}
use Rattle.bytecode.specs.Decode.{refusal, token_fault}
use Rattle.bytecode.specs.declared.answers.Refusal.{Refusal}
use Rattle.bytecode.specs.computed.CleanFields.{is_clean, fields_in}
use Rattle.bytecode.specs.Fields.{fields_of}
use Rattle.layout.specs.Opcodes.{shape_of}
use Rattle.layout.specs.Programs.{token_at, stage_of, token_count}
use Rattle.faults.specs.computed.Faults.{undecoded_fault}
use Rattle.faults.specs.Order.{tokens_from, tokens_of}
use Rattle.faults.specs.computed.Profile.{profile_of}
use Rattle.faults.specs.declared.profile.Profile.{Profile}
use Rattle.verifier.specs.computed.State.{none_written, start_state, with_fault}
use Rattle.verifier.specs.computed.Step.{unless_refused, fault_of_fields, step_of}
use Rattle.verifier.specs.computed.Steps.{steps_over, unless_met, finish_of, judged_by, opens_unlisted}
use Rattle.verifier.specs.Verdict.{program, answer_of}
use Rattle.verifier.specs.declared.state.State.{State}
use Rattle.verifier.proofs.Abstract.{abstract_of, Valid, valid_start}
use Rattle.verifier.proofs.StepLaw.{told_by, tells}
use Rattle.verifier.proofs.TokenLaw.{steps}

-- the fields that the code reads of a token that stands within the bytes
pub fields_read : (bytes : List ℕ) (n : ℕ) → 7 + n * 24 + 24 ≤ length bytes
    → fields_in (take (7 + n * 24 + 24 - (7 + n * 24)) (drop (7 + n * 24) bytes)) ≡ fields_of (token_at bytes n)
unfolding fields_in
fields_read bytes n h =
    let width : 7 + n * 24 + 24 - (7 + n * 24) ≡ 24 = omega arith in
    let enough : 24 ≤ length (token_at bytes n) = simp (length-take, length-drop) (omega arith) in
    ap (λ k. fields_in (take k (drop (7 + n * 24) bytes))) width ∙ rw (le-ltb (length (token_at bytes n)) 24 enough)

-- ---- the state before the first token

none_set : (r : ℕ) → half_of none_written r ≡ 0
none_set r = go (ltb r 16) (ltb r 32) 0
  where
    go : (a b : Bool) (z : ℕ) → cond a z (cond b z z) ≡ z
    go true b z = refl
    go false true z = refl
    go false false z = refl

none_written_lem : component_set none_written ≡ nothing
none_written_lem = fun_ext (λ n. rw (none_set (n / 4), zero-div (2 ^ (n % 64))))

start_is : abstract_of start_state ≡ start
start_is = ap (λ w. record { open_branches = []; current = w; kept = [] }) none_written_lem

-- ---- steps one after another

held : (o : Option Refusal) (st next : State) → is_some o ≡ true → unless_refused o st next ≡ st
held None st next e = absurd (false≢true e)
held (Some r) st next e = refl

module _ (profile : Profile) (bytes : List ℕ) where
  abbrev step : State → ℕ → State
  step st n = step_of st profile n (fields_of (token_at bytes n))

  pub steps_apart : (k j : ℕ) (st : State) (n : ℕ) → steps_over profile bytes st n (k + j) ≡ steps_over profile bytes (steps_over profile bytes st n k) (n + k) j
  unfolding steps_over
  steps_apart zero j st n =
      let none : 0 + j ≡ j = omega arith in
      let here : n ≡ n + 0 = omega arith in
      ap (steps_over profile bytes st n) none ∙ ap (λ m. steps_over profile bytes st m j) here
  steps_apart (suc k) j st n =
      let one : suc k + j ≡ suc (k + j) = omega arith in
      let here : n + 1 + k ≡ n + suc k = omega arith in
      ap (steps_over profile bytes st n) one
      ∙ steps_apart k j (step st n) (n + 1)
      ∙ ap (λ m. steps_over profile bytes (steps_over profile bytes (step st n) (n + 1) k) m j) here

  -- one more
  pub one_more : (st : State) (first n : ℕ) → first ≤ n → steps_over profile bytes st first (n + 1 - first) ≡ step (steps_over profile bytes st first (n - first)) n
  unfolding steps_over
  one_more st first n h =
      let count : n + 1 - first ≡ n - first + 1 = omega arith in
      let at : first + (n - first) ≡ n = omega arith in
      ap (steps_over profile bytes st first) count
      ∙ steps_apart (n - first) 1 st first
      ∙ ap (step (steps_over profile bytes st first (n - first))) at

  -- the steps that are left after some
  module _ (count : ℕ) (whole : State) where
    -- the last state is reached from this one, at token n
    abbrev pub Leads : State → ℕ → Type 0
    Leads st n = steps_over profile bytes st n (count - n) ≡ whole

    pub leads_on : (st : State) (n m : ℕ) → n ≤ m → m ≤ count → Leads st n → (next : State) → steps_over profile bytes st n (m - n) ≡ next → Leads next m
    leads_on st n m a b e next made =
        let apart : count - n ≡ m - n + (count - m) = omega arith in
        let at : n + (m - n) ≡ m = omega arith in
        ap₂ (λ s i. steps_over profile bytes s i (count - m)) (sym made) (sym at)
        ∙ sym (steps_apart (m - n) (count - m) st n)
        ∙ ap (steps_over profile bytes st n) (sym apart)
        ∙ e

    pub leads_by_step : (st : State) (n : ℕ) → n < count → Leads st n → (next : State) → step_of st profile n (fields_of (token_at bytes n)) ≡ next → Leads next (n + 1)
    unfolding steps_over
    leads_by_step st n h e next made =
        let apart : count - n ≡ suc (count - (n + 1)) = omega arith in
        ap (λ s. steps_over profile bytes s (n + 1) (count - (n + 1))) (sym made) ∙ ap (steps_over profile bytes st n) (sym apart) ∙ e

  -- a state that has a fault stays as it is
  pub stays : (st : State) → is_some st.fault ≡ true → (n left : ℕ) → steps_over profile bytes st n left ≡ st
  unfolding steps_over step_of
  stays st e n zero = refl
  stays st e n (suc left) = ap (λ s. steps_over profile bytes s (n + 1) left) (held st.fault st _ e) ∙ stays st e (n + 1) left

-- ---- what the last state answers

module _ (edition : ℕ) (bytes : List ℕ) (header : 7 ≤ length bytes) where
  abbrev profile : Profile
  profile = profile_of edition (stage_of bytes)

  token_length : (n : ℕ) → n < token_count bytes → length (token_at bytes n) ≡ 24
  token_length n l = simp (length-take, length-drop) (omega arith)

  told : (left n : ℕ) → n + left ≤ token_count bytes → (st : State) → Valid st
      → tells st n (tokens_from edition bytes n left) ≡ tells (steps_over profile bytes st n left) (n + left) []
  unfolding steps_over
  told zero n h st v = let here : n ≡ n + 0 = omega arith in ap (λ m. tells st m []) here
  told (suc left) n h st v =
      let l : n < token_count bytes = omega arith in
      let at : n + 1 + left ≡ n + suc left = omega arith in
      let one = steps edition (stage_of bytes) n (token_at bytes n) (token_length n l) st v (tokens_from edition bytes (n + 1) left) in
      let next = step_of st profile n (fields_of (token_at bytes n)) in
      one.0
      ∙ ap (λ m. tells next m (tokens_from edition bytes (n + 1) left)) (sym (add-one n))
      ∙ told left (n + 1) (omega arith) next one.1
      ∙ ap (λ m. tells (steps_over profile bytes next (n + 1) left) m []) at

  ends : (st : State) (n : ℕ) → answer_of bytes (tells st n []) ≡ finish_of st (stage_of bytes) (token_count bytes)
  unfolding check_from finish_of
  ends st n = go st.fault st.depth refl
    where
      go : (o : Option Refusal) (d : ℕ) → st.depth ≡ d
          → answer_of bytes (told_by o (check_from (abstract_of st) n []))
          ≡ unless_met o (cond (eqb st.depth 0) (Ok (program (stage_of bytes) (token_count bytes))) (Err (refusal 22 st.innermost.opener 0)))
      go None zero e = rw (eq-eqb st.depth 0 e, e)
      go None (suc d) e = rw (ne_eqb st.depth 0 (λ z. omega (arith, e, z)), e)
      go (Some r) d e = refl

  pub judged : judged_by edition bytes ≡ answer_of bytes (verdict_of (tokens_of edition bytes))
  unfolding judged_by
  judged =
      sym (ends (steps_over profile bytes start_state 0 (token_count bytes)) (0 + token_count bytes))
      ∙ ap (answer_of bytes) (sym (told (token_count bytes) 0 (omega arith) start_state valid_start) ∙ ap (λ a. check_from a 0 (tokens_of edition bytes)) start_is)

  -- a first token whose opcode is not listed
  pub unlisted_refused : opens_unlisted bytes ≡ true → Err (refusal 9 0 0) ≡ judged_by edition bytes
  unfolding opens_unlisted fault_of_fields step_of steps_over is_clean token_fault undecoded_fault judged_by finish_of
  unlisted_refused e =
      let long = leb 31 (length bytes) in
      let f = fields_of (token_at bytes 0) in
      let enough = leb-true 31 (length bytes) (both_left long (not (shape_of f.opcode).listed) e) in
      let unlisted = not-true (shape_of f.opcode).listed (both_right long (not (shape_of f.opcode).listed) e) in
      let refuses : step_of start_state profile 0 f ≡ with_fault start_state (refusal 9 0 0) = rw unlisted in
      let some : token_count bytes ≡ suc (token_count bytes - 1) = omega (arith, enough) in
      let last : steps_over profile bytes start_state 0 (token_count bytes) ≡ with_fault start_state (refusal 9 0 0) =
      ap (steps_over profile bytes start_state 0) some
      ∙ ap (λ s. steps_over profile bytes s 1 (token_count bytes - 1)) refuses
      ∙ stays profile bytes (with_fault start_state (refusal 9 0 0)) refl 1 (token_count bytes - 1) in
      rw last
