-- What decode's answer is, from its fault.
-- Assumes nothing.
use Rattle.std.specs.Prelude.{Err, Ok}
use Prim.Native.Nat.{ℕ}
use mathlib.Core.Bool.{Bool, true, false, not, cond, ◌&&◌, ◌||◌, false≢true}
use mathlib.Core.List.{List}
use mathlib.Core.Path.{◌≡◌, refl, ◌∙◌, sym, ap}
use native.Mathlib.Omega.{arith}
use lib.Dec.{eqb}
use Rattle.std.specs.Prelude.{Option, Some, None, ⊤}
use lib.ListN.{length}
use borrow.Author.Tests.{eq-eqb, ne_eqb, eqb-true, eqb-false, not-false}
use Rattle.layout.specs.Opcodes.{shape_of}
use Rattle.bytecode.specs.Fields.{fields_of}
use Rattle.layout.specs.Layout.{destination_bits, operand_bits, is_stray}
use Rattle.layout.specs.Records.{token_of}
use Rattle.bytecode.specs.Decode.{refusal, no_refusal, outcome, unused_not_zero, undefined_bit_set, lowest_part, unused_part, undefined_part, token_fault, decode_fault, decode_of, Decodes}
use Rattle.bytecode.specs.computed.CleanFields.{is_clean, part_of, LowestPart}
use Rattle.layout.specs.declared.opcodes.Shape.{Shape}
use Rattle.layout.specs.declared.fields.Fields.{Fields}
use Rattle.layout.specs.declared.record.Token.{Token}
use Rattle.bytecode.specs.declared.answers.Refusal.{Refusal}

chain : Bool → Bool → Bool → ℕ → ℕ → Refusal
chain a b c p q = cond a (refusal 9 0 0) (cond b (refusal 12 0 p) (cond c (refusal 13 0 q) no_refusal))

no_chain : (a b c : Bool) (p q : ℕ) → (chain a b c p q).number ≡ 0 → chain a b c p q ≡ no_refusal
unfolding chain
no_chain true b c p q e = absurd (omega (arith, e))
no_chain false true c p q e = absurd (omega (arith, e))
no_chain false false true p q e = absurd (omega (arith, e))
no_chain false false false p q e = refl

-- a fault with number 0 is none
no_fault : (s : Shape) (f : Fields) → (token_fault s f).number ≡ 0 → token_fault s f ≡ no_refusal
unfolding token_fault chain
no_fault s f e =
    no_chain (not s.listed) (not (eqb (unused_part s f) 0)) (not (eqb (undefined_part s f) 0)) (unused_part s f) (undefined_part s f) e

-- the part that is named is the number, which is not 0
pub some_part : (n p : ℕ) → part_of n ≡ Some p → (n ≡ p) × (eqb p 0 ≡ false)
some_part n p e = go (eqb n 0) refl e
  where
    go : (b : Bool) → eqb n 0 ≡ b → cond b None (Some n) ≡ Some p → (n ≡ p) × (eqb p 0 ≡ false)
    go true h k = absurd (false≢true cc)
    go false h k = let e : n ≡ p = cc in (e, rw e at h)

pub is_unused_part : (s : Shape) (f : Fields) (part : Option ℕ) → LowestPart (λ d x r. r ≡ unused_not_zero d x) s f part → part ≡ part_of (unused_part s f)
unfolding unused_part
is_unused_part s f part l = l.lowest ∙ rw (l.of_destination, l.of_source1, l.of_source2)

pub is_undefined_part : (s : Shape) (f : Fields) (part : Option ℕ) → LowestPart (λ d x r. r ≡ undefined_bit_set d x) s f part → part ≡ part_of (undefined_part s f)
unfolding undefined_part
is_undefined_part s f part l = l.lowest ∙ rw (l.of_destination, l.of_source1, l.of_source2)

-- where none is named, the number is 0
pub no_part : (n : ℕ) → ((p : ℕ) → part_of n ≡ Some p → ⊥) → eqb n 0 ≡ true
no_part n none = go (eqb n 0) refl
  where
    go : (b : Bool) → eqb n 0 ≡ b → eqb n 0 ≡ true
    go true h = h
    go false h = absurd (none n (rw h))

-- a fault that is told has a number
pub told : (fault r : Refusal) → outcome fault ≡ Err r → (fault ≡ r) × (r.number ≡ 0 → ⊥)
told fault r e = go (eqb fault.number 0) refl e
  where
    go : (b : Bool) → eqb fault.number 0 ≡ b → cond b (Ok (tt {0})) (Err fault) ≡ Err r → (fault ≡ r) × (r.number ≡ 0 → ⊥)
    go true h k = absurd (false≢true cc)
    go false h k = let q : fault ≡ r = cc in (q, λ z. eqb-false _ 0 h (ap (λ x. x.number) q ∙ z))

-- where none is told, the number is 0
pub not_told : (fault : Refusal) (u : ⊤) → outcome fault ≡ Ok u → fault.number ≡ 0
not_told fault u e = go (eqb fault.number 0) refl e
  where
    go : (b : Bool) → eqb fault.number 0 ≡ b → cond b (Ok tt) (Err fault) ≡ Ok u → fault.number ≡ 0
    go true h k = eqb-true _ 0 h
    go false h k = let z : ◌≡◌ {A = ℕ} 0 1 = cc in absurd (omega arith)

module _ (s : List ℕ) where
  by_fields : length s ≡ 24 → decode_fault s ≡ token_fault (shape_of (fields_of s).opcode) (fields_of s)
  unfolding decode_fault
  by_fields h = rw (eq-eqb _ _ h)

  -- a fault that decode has is its answer
  refused_by_lem : (r : Refusal) → decode_fault s ≡ r → (r.number ≡ 0 → ⊥) → Decodes s (Err r)
  unfolding decode_of
  refused_by_lem r q n = let e = ne_eqb r.number 0 n in record { answer = sym (rw (q, e)); numbers = sym (rw (q, e)) }

  pub wrong_length : (length s ≡ 24 → ⊥) → Decodes s (Err (refusal 24 0 0))
  unfolding decode_fault
  wrong_length n = refused_by_lem (refusal 24 0 0) (rw (ne_eqb _ _ n)) (λ e. omega (arith, e))

  pub with_fault_lem : length s ≡ 24 → ((token_fault (shape_of (fields_of s).opcode) (fields_of s)).number ≡ 0 → ⊥) → Decodes s (Err (token_fault (shape_of (fields_of s).opcode) (fields_of s)))
  with_fault_lem h n = refused_by_lem (token_fault (shape_of (fields_of s).opcode) (fields_of s)) (by_fields h) n

  pub with_told : length s ≡ 24 → (r : Refusal) → outcome (token_fault (shape_of (fields_of s).opcode) (fields_of s)) ≡ Err r → Decodes s (Err r)
  with_told h r e = let (q, n) = told _ r e in refused_by_lem r (by_fields h ∙ q) n

  pub no_faults : length s ≡ 24 → (token_fault (shape_of (fields_of s).opcode) (fields_of s)).number ≡ 0 → Decodes s (Ok (token_of (shape_of (fields_of s).opcode) (fields_of s)))
  unfolding decode_of
  no_faults h e =
      let z = by_fields h ∙ no_fault (shape_of (fields_of s).opcode) (fields_of s) e in
      record { answer = sym (rw z); numbers = sym (rw z) }

-- ---- what a token without a fault is

lowest_none : (a b c : Bool) → lowest_part a b c ≡ 0 → (a ≡ false) × (b ≡ false) × (c ≡ false)
lowest_none true b c e = absurd (omega (arith, e))
lowest_none false true c e = absurd (omega (arith, e))
lowest_none false false true e = absurd (omega (arith, e))
lowest_none false false false e = (refl, refl, refl)

-- a field is neither unused and not 0 nor used and with an undefined bit
one_clean : (b s : Bool) → (b && s) ≡ false → (not b && s) ≡ false → s ≡ false
one_clean true s e f = e
one_clean false s e f = f

both_clean : (b s : Bool) → s ≡ false → ((b && s) ≡ false) × ((not b && s) ≡ false)
both_clean true s e = (e, refl)
both_clean false s e = (refl, e)

-- the opcode is listed and no field has a stray bit
pub record Clean (s : Shape) (f : Fields) : Type 0 where
  pub listed : s.listed ≡ true
  pub destination : is_stray (destination_bits s.destination) f.destination ≡ false
  pub source1 : is_stray (operand_bits s.source1) f.source1 ≡ false
  pub source2 : is_stray (operand_bits s.source2) f.source2 ≡ false

chain_none : (a b c : Bool) (p q : ℕ) → chain a b c p q ≡ no_refusal → (a ≡ false) × (b ≡ false) × (c ≡ false)
unfolding chain
chain_none true b c p q e = absurd (omega (arith, ap (λ r. r.number) e))
chain_none false true c p q e = absurd (omega (arith, ap (λ r. r.number) e))
chain_none false false true p q e = absurd (omega (arith, ap (λ r. r.number) e))
chain_none false false false p q e = (refl, refl, refl)

module _ (s : Shape) (f : Fields) where
  -- each of the three tests of a token without a fault
  pub none_broken : token_fault s f ≡ no_refusal
      → (not s.listed ≡ false) × (not (eqb (unused_part s f) 0) ≡ false) × (not (eqb (undefined_part s f) 0) ≡ false)
  unfolding token_fault chain
  none_broken e = chain_none (not s.listed) (not (eqb (unused_part s f) 0)) (not (eqb (undefined_part s f) 0)) (unused_part s f) (undefined_part s f) e

  pub clean : token_fault s f ≡ no_refusal → Clean s f
  unfolding unused_part undefined_part
  clean e =
      let (l, u, v) = none_broken e in
      let (ud, u1, u2) = lowest_none _ _ _ (eqb-true (unused_part s f) 0 (not-false _ u)) in
      let (vd, v1, v2) = lowest_none _ _ _ (eqb-true (undefined_part s f) 0 (not-false _ v)) in
      record {
        listed = not-false s.listed l;
        destination = one_clean (eqb (destination_bits s.destination) 0) _ ud vd;
        source1 = one_clean (eqb (operand_bits s.source1) 0) _ u1 v1;
        source2 = one_clean (eqb (operand_bits s.source2) 0) _ u2 v2;
      }

  pub clean_none : Clean s f → token_fault s f ≡ no_refusal
  unfolding token_fault unused_part undefined_part
  clean_none c =
      let (ud, vd) = both_clean (eqb (destination_bits s.destination) 0) _ c.destination in
      let (u1, v1) = both_clean (eqb (operand_bits s.source1) 0) _ c.source1 in
      let (u2, v2) = both_clean (eqb (operand_bits s.source2) 0) _ c.source2 in
      rw (c.listed, ud, u1, u2, vd, v1, v2)

  -- the test that the code makes of all fields at once
  pub clean_by : is_clean s f ≡ true → Clean s f
  unfolding is_clean
  clean_by e = go s.listed (is_stray (destination_bits s.destination) f.destination) (is_stray (operand_bits s.source1) f.source1) (is_stray (operand_bits s.source2) f.source2) refl refl refl refl e
    where
      go : (l d a b : Bool) → s.listed ≡ l → is_stray (destination_bits s.destination) f.destination ≡ d → is_stray (operand_bits s.source1) f.source1 ≡ a → is_stray (operand_bits s.source2) f.source2 ≡ b
          → (l && not (d || a || b)) ≡ true → Clean s f
      go true false false false l d a b k = record { listed = l; destination = d; source1 = a; source2 = b }
      go true false false true l d a b k = absurd (false≢true k)
      go true false true x l d a b k = absurd (false≢true k)
      go true true x y l d a b k = absurd (false≢true k)
      go false x y z l d a b k = absurd (false≢true k)

  pub is_clean_lem : Clean s f → is_clean s f ≡ true
  unfolding is_clean
  is_clean_lem c = rw (c.listed, c.destination, c.source1, c.source2)

  -- what is not clean has a fault
  pub not_clean : is_clean s f ≡ false → (token_fault s f).number ≡ 0 → ⊥
  not_clean e n = false≢true (sym e ∙ is_clean_lem (clean (no_fault s f n)))

-- an accepted answer has no fault
pub accepted : (s : List ℕ) (t : Token) → decode_of s ≡ Ok t
    → (length s ≡ 24) × (token_fault (shape_of (fields_of s).opcode) (fields_of s) ≡ no_refusal) × (t ≡ token_of (shape_of (fields_of s).opcode) (fields_of s))
unfolding decode_of decode_fault
accepted s t e = go (eqb (length s) 24) refl e
  where
    go : (b : Bool) → eqb (length s) 24 ≡ b
        → cond (eqb (cond b (token_fault (shape_of (fields_of s).opcode) (fields_of s)) (refusal 24 0 0)).number 0) (Ok (token_of (shape_of (fields_of s).opcode) (fields_of s))) (Err (cond b (token_fault (shape_of (fields_of s).opcode) (fields_of s)) (refusal 24 0 0))) ≡ Ok t
        → (length s ≡ 24) × (token_fault (shape_of (fields_of s).opcode) (fields_of s) ≡ no_refusal) × (t ≡ token_of (shape_of (fields_of s).opcode) (fields_of s))
    go false l h = let z : ◌≡◌ {A = ℕ} 0 1 = cc in absurd (omega arith)
    go true l h = within (eqb (token_fault (shape_of (fields_of s).opcode) (fields_of s)).number 0) refl h
      where
        within : (b : Bool) → eqb (token_fault (shape_of (fields_of s).opcode) (fields_of s)).number 0 ≡ b
            → cond b (Ok (token_of (shape_of (fields_of s).opcode) (fields_of s))) (Err (token_fault (shape_of (fields_of s).opcode) (fields_of s))) ≡ Ok t
            → (length s ≡ 24) × (token_fault (shape_of (fields_of s).opcode) (fields_of s) ≡ no_refusal) × (t ≡ token_of (shape_of (fields_of s).opcode) (fields_of s))
        within false n k = let z : ◌≡◌ {A = ℕ} 0 1 = cc in absurd (omega arith)
        within true n k =
            (eqb-true (length s) 24 l, no_fault (shape_of (fields_of s).opcode) (fields_of s) (eqb-true _ 0 n), cc)

-- a refused token of 24 bytes has a fault, which is the answer
pub was_refused : (s : List ℕ) (r : Refusal) → length s ≡ 24 → decode_of s ≡ Err r
    → (r ≡ token_fault (shape_of (fields_of s).opcode) (fields_of s)) × (r.number ≡ 0 → ⊥)
unfolding decode_of decode_fault
was_refused s r h e = go (eqb (token_fault (shape_of (fields_of s).opcode) (fields_of s)).number 0) refl (rw (eq-eqb (length s) 24 h) at e)
  where
    go : (b : Bool) → eqb (token_fault (shape_of (fields_of s).opcode) (fields_of s)).number 0 ≡ b
        → cond b (Ok (token_of (shape_of (fields_of s).opcode) (fields_of s))) (Err (token_fault (shape_of (fields_of s).opcode) (fields_of s))) ≡ Err r
        → (r ≡ token_fault (shape_of (fields_of s).opcode) (fields_of s)) × (r.number ≡ 0 → ⊥)
    go true n k = let z : ◌≡◌ {A = ℕ} 0 1 = cc in absurd (omega arith)
    go false n k =
        let q : token_fault (shape_of (fields_of s).opcode) (fields_of s) ≡ r = cc in
        (sym q, λ z. eqb-false _ 0 n (ap (λ x. x.number) q ∙ z))
