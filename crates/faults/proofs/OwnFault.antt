-- The fault that the code finds in a token by itself is the first of 9 to 19.
-- Assumes nothing.
use Rattle.std.specs.Prelude.{Err, Ok}
use Prim.Native.Nat.{ℕ, ◌≤◌}
use mathlib.Core.Bool.{Bool, true, false, not, cond, ◌&&◌}
use mathlib.Core.List.{List, [], ◌∷◌}
use mathlib.Core.Option.{Option, some, none-ne-some}
use mathlib.Core.Path.{◌≡◌, refl, ◌∙◌, sym, ap, subst}
use lib.Dec.{eqb, ltb, leb}
use borrow.Author.Tests.{leb-true}
use Rattle.std.specs.List.{list_all}
use Rattle.std.proofs.lemmas.List.Folds.{list_all-append}
use Rattle.laws.proofs.Every.{both}
use lib.ListN.{length}
use Rattle.layout.specs.Opcodes.{shape_of}
use Rattle.bytecode.specs.Fields.{fields_of, record_of}
use Rattle.layout.specs.Records.{token_of}
use Rattle.bytecode.specs.Decode.{refusal, no_refusal, decode_of, token_fault, unused_part, undefined_part}
use Rattle.bytecode.specs.declared.answers.Refusal.{Refusal}
use Rattle.layout.specs.declared.record.Operand.{Operand}
use Rattle.layout.specs.declared.record.Operand.TheVariants.{Unused as NoOperand, Direct, Indexed, Sampler as Sampled}
use Rattle.layout.specs.declared.record.Token.{Token}
use Rattle.bytecode.proofs.DecodeLaws.{accepted, none_broken, was_refused}
use Rattle.registers.specs.Counts.{count_of}
use Rattle.paths.specs.Paths.{TokenFault}
use Rattle.faults.specs.Rules.{opcode_too_new, opcode_not_for_stage}
use Rattle.faults.specs.computed.Profile.{profile_of}
use Rattle.faults.specs.Order.{Rule, first_fault, source_rules, record_rules, token_rules}
use Rattle.faults.specs.computed.Faults.{refusal_at, record_fault, own_fault, undecoded_fault}
use Rattle.faults.proofs.Counts.{counts_are}

-- ---- numbers 9 to 19

abbrev in_range : ℕ → Bool
in_range n = leb 9 n && leb n 19

abbrev Bounded : ℕ → Type 0
Bounded n = (9 ≤ n) × (n ≤ 19)

bounded : (n : ℕ) → in_range n ≡ true → Bounded n
bounded n h = let (low, high) = both (leb 9 n) (leb n 19) h in (leb-true 9 n low, leb-true n 19 high)

abbrev is_numbered : Rule → Bool
is_numbered r = in_range r.number

source_numbered : (count : ℕ → ℕ) (stage rows : ℕ) (swizzled : ℕ → Bool) (part : ℕ) (o : Operand) → list_all is_numbered (source_rules count stage rows swizzled part o) ≡ true
source_numbered count stage rows swizzled part NoOperand = refl
source_numbered count stage rows swizzled part (Direct s) = refl
source_numbered count stage rows swizzled part (Indexed s) = refl
source_numbered count stage rows swizzled part (Sampled s) = refl

numbered : (rs : List Rule) → list_all is_numbered rs ≡ true → (f : TokenFault) → first_fault rs ≡ some f → Bounded f.number
numbered [] h f e = absurd (none-ne-some f e)
numbered (r ∷ rs) h f e = go (λ k. numbered rs (both (is_numbered r) (list_all is_numbered rs) h).1 f k) r.broken e
  where
    go : (first_fault rs ≡ some f → Bounded f.number) → (b : Bool) → cond b (some (record { number = r.number; part = r.part })) (first_fault rs) ≡ some f → Bounded f.number
    go ih true k = let q : r.number ≡ f.number = cc in subst Bounded q (bounded r.number (both (is_numbered r) (list_all is_numbered rs) h).0)
    go ih false k = ih k

module _ (count : ℕ → ℕ) (edition stage : ℕ) (s : List ℕ) where
  pub token_numbered : (f : TokenFault) → first_fault (token_rules count edition stage s) ≡ some f → (9 ≤ f.number) × (f.number ≤ 19)
  token_numbered = numbered (token_rules count edition stage s) (simp (list_all-append, source_numbered))

-- ---- a token that decode refuses

module _ (edition stage n : ℕ) (s : List ℕ) (h : length s ≡ 24) where
  -- 10 and 11 come first
  chosen : (a b : Bool) (later : Option TokenFault)
      → refusal_at n (cond a (some (record { number = 10; part = 0 })) (cond b (some (record { number = 11; part = 0 })) later)) ≡ cond a (refusal 10 n 0) (cond b (refusal 11 n 0) (refusal_at n later))
  chosen true b later = refl
  chosen false true later = refl
  chosen false false later = refl

  -- the tests in their order, and what is made of them
  refused_chain : (l a b u v : Bool) (x y : ℕ) (later : Option TokenFault) (r : Refusal)
      → r ≡ cond l (refusal 9 0 0) (cond u (refusal 12 0 x) (cond v (refusal 13 0 y) no_refusal)) → (r.number ≡ 0 → ⊥)
      → refusal_at n (cond l (some (record { number = 9; part = 0 })) (cond a (some (record { number = 10; part = 0 })) (cond b (some (record { number = 11; part = 0 })) (cond u (some (record { number = 12; part = x })) (cond v (some (record { number = 13; part = y })) later)))))
      ≡ cond (ltb r.number 12) (refusal r.number n r.part) (cond a (refusal 10 n 0) (cond b (refusal 11 n 0) (refusal r.number n r.part)))
  refused_chain true a b u v x y later r e z = rw e
  refused_chain false a b true v x y later r e z = rw e (chosen a b _)
  refused_chain false a b false true x y later r e z = rw e (chosen a b _)
  refused_chain false a b false false x y later r e z = absurd (z (ap (λ r. r.number) e))

  pub refused_fault : (r : Refusal) → decode_of s ≡ Err r
      → refusal_at n (first_fault (token_rules (λ k. count_of k edition stage) edition stage s)) ≡ undecoded_fault (profile_of edition stage) n r (fields_of s).opcode
  unfolding undecoded_fault token_fault
  refused_fault r e =
      let (q, z) = was_refused s r h e in
      refused_chain (not (shape_of (fields_of s).opcode).listed) (opcode_too_new edition (fields_of s).opcode) (opcode_not_for_stage stage (fields_of s).opcode) (not (eqb (unused_part (shape_of (fields_of s).opcode) (fields_of s)) 0)) (not (eqb (undefined_part (shape_of (fields_of s).opcode) (fields_of s)) 0)) _ _ _ r q z

  -- ---- a token that decode takes

  pub opcode_of : (record_of s).opcode ≡ (fields_of s).opcode
  unfolding token_of
  opcode_of = refl

  own_is : own_fault (profile_of edition stage) n (record_of s) ≡ cond (opcode_too_new edition (fields_of s).opcode) (refusal 10 n 0) (cond (opcode_not_for_stage stage (fields_of s).opcode) (refusal 11 n 0) (refusal_at n (first_fault (record_rules (λ k. count_of k edition stage) stage (record_of s)))))
  unfolding own_fault record_fault
  own_is = simp (opcode_of, counts_are edition stage)

  pub taken_fault : (t : Token) → decode_of s ≡ Ok t
      → (t ≡ record_of s) × (refusal_at n (first_fault (token_rules (λ k. count_of k edition stage) edition stage s)) ≡ own_fault (profile_of edition stage) n t)
  taken_fault t e =
      let (l, f, q) = accepted s t e in
      let (p9, p12, p13) = none_broken (shape_of (fields_of s).opcode) (fields_of s) f in
      let c = chosen (opcode_too_new edition (fields_of s).opcode) (opcode_not_for_stage stage (fields_of s).opcode) (first_fault (record_rules (λ k. count_of k edition stage) stage (record_of s))) in
      (q, rw (p9, p12, p13) c ∙ sym own_is ∙ ap (own_fault (profile_of edition stage) n) (sym q))
