-- What a read answers, from the number of bytes left, and where it leaves the reader.
-- Assumes nothing.
use Rattle.std.specs.Prelude.{Err, Ok, Result, ⊤, MatchResult, IsErrAnd}
use Prim.Native.Nat.{ℕ, ◌+◌, ◌<◌, ◌≤◌}
use mathlib.Core.Bool.{Bool, true, false, not, cond}
use mathlib.Core.List.{List, []}
use mathlib.Core.Path.{◌≡◌, refl, ◌∙◌, sym, ap}
use native.Mathlib.Omega.{arith}
use lib.Dec.{ltb, eqb}
use lib.ListN.{length}
use denote.Ref.{Bor}
use borrow.Author.Tests.{le-ltb, lt-ltb, ltb-true, ltb-false}
use Rattle.bytecode.specs.Fields.{fields_of}
use Rattle.bytecode.specs.Decode.{refusal, no_refusal, unused_part, undefined_part, token_fault, decode_fault, decode_of, outcome}
use Rattle.bytecode.specs.Numbers.{accepted_numbers, refusal_numbers, found_numbers, decoded_numbers}
use Rattle.layout.specs.Opcodes.{shape_of}
use Rattle.layout.specs.declared.opcodes.Shape.{Shape}
use Rattle.layout.specs.declared.fields.Fields.{Fields}
use Rattle.layout.specs.declared.record.Token.{Token}
use Rattle.bytecode.specs.declared.answers.Refusal.{Refusal}
use Rattle.layout.specs.Programs.{token_at, token_start, no_token_left}
use Rattle.reader.specs.declared.answers.TokenReader.{TokenReader}
use Rattle.reader.specs.Reading.{opening_fault, opening_numbers, opening_of, stands_at, fault_at, read_of, read_fault, place_from, place_after, ReadsAt, Opens, Reads}
use Rattle.reader.specs.computed.Steps.{token_bytes}

module _ (s : List ℕ) where
  pub too_short : length s < 7 → Err (refusal 2 0 0) ≡ opening_of s
  unfolding opening_of opening_fault
  too_short h = simp (lt-ltb (length s) 7 h)

  pub long_enough : 7 ≤ length s → Ok tt ≡ opening_of s
  unfolding opening_of opening_fault
  long_enough h = simp (le-ltb (length s) 7 h)

  -- the numbers of what opening answers are its fault's
  pub opening_numbers_lem : opening_numbers (opening_of s) ≡ found_numbers (opening_fault s) 0 0
  unfolding opening_of opening_fault
  opening_numbers_lem = go (ltb (length s) 7)
    where
      go : (short : Bool) → opening_numbers (outcome (cond short (refusal 2 0 0) no_refusal)) ≡ found_numbers (cond short (refusal 2 0 0) no_refusal) 0 0
      go true = refl
      go false = refl

-- a reader that holds what was lent, at token 0, with the right answer
pub opens : (lent : Bor (List ℕ)) (answer : Result ⊤ Refusal) → answer ≡ opening_of lent.now
    → Opens lent (record { answer = answer; reader = record { program = lent; place = 0 } })
opens lent answer e =
    record { answer = e; numbers = ap opening_numbers e ∙ opening_numbers_lem lent.now; program = refl; place = refl }

-- the numbers of an answer that names the reader's token
stands_numbers : (n : ℕ) (s : List ℕ) → decoded_numbers (stands_at n (decode_of s)) ≡ found_numbers (fault_at n (decode_fault s)) 0 0
unfolding decode_of
stands_numbers n s = go (eqb (decode_fault s).number 0) _
  where
    go : (fine : Bool) (t : Token)
        → decoded_numbers (stands_at n (cond fine (Ok t) (Err (decode_fault s)))) ≡ cond fine (accepted_numbers 0 0) (refusal_numbers (fault_at n (decode_fault s)))
    go true t = refl
    go false t = refl

-- decode itself names token 0
fields_token : (k : Shape) (f : Fields) → (token_fault k f).token ≡ 0
unfolding token_fault
fields_token k f = go (not k.listed) (not (eqb (unused_part k f) 0)) (not (eqb (undefined_part k f) 0)) (unused_part k f) (undefined_part k f)
  where
    go : (a b c : Bool) (p q : ℕ) → (cond a (refusal 9 0 0) (cond b (refusal 12 0 p) (cond c (refusal 13 0 q) no_refusal))).token ≡ 0
    go true b c p q = refl
    go false true c p q = refl
    go false false true p q = refl
    go false false false p q = refl

fault_token : (s : List ℕ) → (decode_fault s).token ≡ 0
unfolding decode_fault
fault_token s = go (eqb (length s) 24)
  where
    go : (whole : Bool) → (cond whole (token_fault (shape_of (fields_of s).opcode) (fields_of s)) (refusal 24 0 0)).token ≡ 0
    go true = fields_token (shape_of (fields_of s).opcode) (fields_of s)
    go false = refl

pub stands_first : (s : List ℕ) → stands_at 0 (decode_of s) ≡ decode_of s
unfolding decode_of
stands_first s = go (eqb (decode_fault s).number 0) _
  where
    go : (fine : Bool) (t : Token) → stands_at 0 (cond fine (Ok t) (Err (decode_fault s))) ≡ cond fine (Ok t) (Err (decode_fault s))
    go true t = refl
    go false t = ap (λ n. Err (refusal (decode_fault s).number n (decode_fault s).part)) (sym (fault_token s))

module _ (s : List ℕ) (n : ℕ) where
  pub none_left : length s < token_start n + 24 → ReadsAt s n (Err (refusal 24 n 0))
  unfolding read_of read_fault
  none_left h = let e = lt-ltb (length s) (token_start n + 24) h in record { answer = simp e; numbers = simp e }

  pub one_left : token_start n + 24 ≤ length s → ReadsAt s n (stands_at n (decode_of (token_at s n)))
  unfolding read_of read_fault
  one_left h = let e = le-ltb (length s) (token_start n + 24) h in record { answer = simp e; numbers = rw e (stands_numbers n (token_at s n)) }

  pub no_bytes : length s < token_start n + 24 → [] ≡ token_bytes s n
  unfolding token_bytes
  no_bytes h = simp (lt-ltb (length s) (token_start n + 24) h)

  pub its_bytes : token_start n + 24 ≤ length s → token_at s n ≡ token_bytes s n
  unfolding token_bytes
  its_bytes h = simp (le-ltb (length s) (token_start n + 24) h)

  -- a read decodes a token's bytes; decode answers 24 of none
  pub reads_bytes : ReadsAt s n (stands_at n (decode_of (token_bytes s n)))
  unfolding token_bytes decode_of decode_fault
  reads_bytes = go (no_token_left s n) refl
    where
      go : (none : Bool) → no_token_left s n ≡ none → ReadsAt s n (stands_at n (decode_of (cond none [] (token_at s n))))
      go true l = none_left (ltb-true _ _ l)
      go false l = one_left (ltb-false _ _ l)

  -- a token that is read stands whole within the program
  pub token_left : (t : Token) → read_of s n ≡ Ok t → token_start n + 24 ≤ length s
  unfolding read_of
  token_left t e = go (no_token_left s n) refl e
    where
      go : (none : Bool) → no_token_left s n ≡ none → cond none (Err (refusal 24 n 0)) (stands_at n (decode_of (token_at s n))) ≡ Ok t → token_start n + 24 ≤ length s
      go true l h = let z : ◌≡◌ {A = ℕ} 0 1 = cc in absurd (omega arith)
      go false l h = ltb-false _ _ l

  pub moves_on : (t : Token) → read_of s n ≡ Ok t → place_after s n ≡ n + 1
  unfolding place_after
  moves_on t e = ap (place_from n) e

  pub stays : (r : Refusal) → read_of s n ≡ Err r → place_after s n ≡ n
  unfolding place_after
  stays r e = ap (place_from n) e

  reads_decoded : {bytes : List ℕ} {d e : Result Token Refusal} → bytes ≡ token_bytes s n → d ≡ decode_of bytes → d ≡ e → ReadsAt s n (stands_at n e)
  reads_decoded b p q = rw (← q, p, b) reads_bytes

  -- so what decode answers of them tells what a read does, where a refusal is given this place
  pub reads_placed : {bytes : List ℕ} {P : Refusal → Refusal → Type 0} (d r : Result Token Refusal) → bytes ≡ token_bytes s n → d ≡ decode_of bytes
      → MatchResult d (λ t. r ≡ Ok t) (λ e. IsErrAnd r (P e)) → ((e f : Refusal) → P e f → f ≡ fault_at n e) → ReadsAt s n r
  reads_placed (Ok t) r b p m placed = rw m (reads_decoded b p refl)
  reads_placed (Err e) (Ok t) b p m placed = absurd m
  reads_placed (Err e) (Err f) b p m placed = rw (placed e f m) (reads_decoded b p refl)

-- a reader is left where its answer says
pub reads_on : (reader : TokenReader) {d : Result Token Refusal} {place : ℕ} → ReadsAt reader.program.now reader.place d → place ≡ place_from reader.place d
    → Reads reader (record { answer = d; reader = record { program = reader.program; place = place } })
unfolding place_after
reads_on reader reads e = record { reads = reads; program = refl; place = e ∙ ap (place_from reader.place) reads.answer }
