-- What the exported functions answer, from what the functions that they call answer.
-- Assumes nothing.
use Rattle.std.specs.Prelude.{Err, Ok, Result}
use Prim.Native.Nat.{ℕ, ◌+◌, ◌*◌, ◌/◌, ◌%◌, ◌<◌, ◌≤◌}
use mathlib.Core.Bool.{Bool, true, false, not, cond, and-false}
use mathlib.Core.List.{List, [], ◌++◌}
use mathlib.Core.Path.{◌≡◌, refl, ◌∙◌, sym, ap}
use native.Mathlib.Omega.{arith}
use lib.Dec.{eqb, ltb, lit<}
use lib.ListN.{length, drop}
use borrow.Author.Tests.{ne_eqb, eqb-false, lt-ltb, le-ltb, lt-leb, ltb-false}
use Rattle.layout.specs.Opcodes.{shape_of}
use Rattle.layout.specs.Records.{token_of}
use Rattle.layout.specs.declared.opcodes.Shape.{Shape}
use Rattle.layout.specs.declared.fields.Fields.{Fields}
use Rattle.layout.specs.declared.fields.RawToken.{RawToken}
use Rattle.bytecode.specs.Fields.{fields_of}
use Rattle.bytecode.specs.computed.CleanFields.{fields_in, is_clean}
use Rattle.bytecode.specs.Decode.{refusal, no_refusal, lowest_part, unused_part, undefined_part, token_fault, decode_fault, decode_of}
use Rattle.layout.specs.declared.record.Token.{Token}
use Rattle.bytecode.specs.declared.answers.Refusal.{Refusal}
use Rattle.listing.specs.Line.{is_nameable}
use Rattle.listing.proofs.LineLaws.{not_nameable}
use Rattle.bytecode.proofs.DecodeLaws.{with_fault_lem, no_faults, clean_none, clean_by, not_clean}
use Rattle.layout.specs.Programs.{token_start, no_token_left}
use Rattle.reader.specs.Reading.{stands_at}
use Rattle.reader.specs.computed.Steps.{token_bytes}
use Rattle.agal_c.specs.Answers.{answered, refused}
use Rattle.agal_c.specs.declared.answers.Answer.{Answer}
use Rattle.agal_c.specs.Flat.{flat_of, is_flat, token_of_flat}
use Rattle.agal_c.specs.Calls.{delivery_answer, delivered, line_answer_of, after_flat_line}
use Rattle.agal_c.specs.computed.Delivery.{delivery_code, code_answer}

-- ---- what decode answers of 24 bytes, from their fields

module _ (s : List ℕ) (whole : length s ≡ 24) {f : Fields} (ef : f ≡ fields_in s) {raw : RawToken}
    (er : raw ≡ record { shape = shape_of f.opcode; fields = f }) where
  its_fields : raw.fields ≡ fields_of s
  unfolding fields_in
  its_fields = ap (λ r. r.fields) er ∙ ef ∙ rw (le-ltb (length s) 24 (omega arith))

  pub its_shape : raw.shape ≡ shape_of (fields_of s).opcode
  its_shape = ap (λ r. r.shape) er ∙ ap (λ r. shape_of r.fields.opcode) (sym er) ∙ ap (λ g. shape_of g.opcode) its_fields

  -- the opcode is the only field that is looked at outright
  pub unlisted : raw.shape.listed ≡ false → decode_of s ≡ Err (refusal 9 0 0)
  unfolding token_fault
  unlisted l =
      let r : (shape_of (fields_of s).opcode).listed ≡ false = sym (ap (λ k. k.listed) its_shape) ∙ l in
      let told : token_fault (shape_of (fields_of s).opcode) (fields_of s) ≡ refusal 9 0 0 = rw r refl in
      sym (with_fault_lem s whole (λ z. omega (arith, ap (λ r. r.number) told, z))).answer ∙ ap Err told

  pub faulty : is_clean raw.shape raw.fields ≡ false → decode_of s ≡ Err (token_fault raw.shape raw.fields)
  faulty q = rw (its_shape, its_fields) (sym (with_fault_lem s whole (not_clean _ _ (rw (its_shape, its_fields) at q))).answer)

  pub fine : is_clean raw.shape raw.fields ≡ true → decode_of s ≡ Ok (token_of raw.shape raw.fields)
  fine q =
      rw (its_shape, its_fields)
      (sym (no_faults s whole (ap (λ r. r.number) (clean_none _ _ (clean_by _ _ (rw (its_shape, its_fields) at q))))).answer)

-- ---- a token, into a lent buffer

module _ (s buffer : List ℕ) where
  pub not_read : (r : Refusal) → decode_of s ≡ Err r
      → (r.number + 256 * r.part ≡ delivery_code (decode_of s) buffer) × (buffer ≡ delivered (decode_of s) buffer)
  not_read r e = rw e (refl, refl)

  module _ (t : Token) (e : decode_of s ≡ Ok t) where
    pub no_room : length buffer < 29 → (23 ≡ delivery_code (decode_of s) buffer) × (buffer ≡ delivered (decode_of s) buffer)
    no_room h = let l = lt-ltb (length buffer) 29 h in rw e (simp l, simp l)

    pub room : 29 ≤ length buffer → (0 ≡ delivery_code (decode_of s) buffer) × (flat_of t ++ drop 29 buffer ≡ delivered (decode_of s) buffer)
    room h = let l = le-ltb (length buffer) 29 h in rw e (simp l, simp l)

-- ---- a delivery's number, and the answer that it stands for

-- the part of a fault that decode finds is a byte, and so is its number
lowest_byte : (a b c : Bool) → lowest_part a b c < 256
lowest_byte true b c = lit< tt
lowest_byte false true c = lit< tt
lowest_byte false false true = lit< tt
lowest_byte false false false = lit< tt

parts_bytes : (k : Shape) (f : Fields) → (unused_part k f < 256) × (undefined_part k f < 256)
unfolding unused_part undefined_part
parts_bytes k f = (search lowest_byte, search lowest_byte)

fault_bytes : (s : List ℕ) → ((decode_fault s).number < 256) × ((decode_fault s).part < 256)
unfolding decode_fault token_fault
fault_bytes s =
    let f = fields_of s in
    let k = shape_of f.opcode in
    let (hp, hq) = parts_bytes k f in
    go (eqb (length s) 24) (not k.listed) (not (eqb (unused_part k f) 0)) (not (eqb (undefined_part k f) 0)) (unused_part k f) (undefined_part k f) hp hq
  where
    go : (whole a b c : Bool) (p q : ℕ) → p < 256 → q < 256
        → (let r = cond whole (cond a (refusal 9 0 0) (cond b (refusal 12 0 p) (cond c (refusal 13 0 q) no_refusal))) (refusal 24 0 0) in (r.number < 256) × (r.part < 256))
    go false a b c p q hp hq = (lit< tt, lit< tt)
    go true true b c p q hp hq = (lit< tt, lit< tt)
    go true false true c p q hp hq = (lit< tt, hp)
    go true false false true p q hp hq = (lit< tt, hq)
    go true false false false p q hp hq = (lit< tt, lit< tt)

-- both come back out of the number that they make
fault_again : (number part place next : ℕ) → (number ≡ 0 → ⊥) → number < 256 → part < 256
    → code_answer (number + 256 * part) place next ≡ refused (refusal number place part) place
fault_again number part place next n hn hp =
    let code = number + 256 * part in
    let en : code % 256 ≡ number = omega arith in
    let above : code / 256 ≡ part = omega arith in
    let ep : code / 256 % 256 ≡ part = ap (λ n. n % 256) above ∙ omega arith in
    rw (ne_eqb code 0 (λ z. n (omega arith)), en, ep) refl

-- the bytes are the same, wherever the token stands
same_bytes : (place : ℕ) (d : Result Token Refusal) (buffer : List ℕ) → delivered d buffer ≡ delivered (stands_at place d) buffer
same_bytes place (Ok t) buffer = refl
same_bytes place (Err r) buffer = refl

module _ (s buffer : List ℕ) (place step : ℕ) where
  -- the number of a delivery stands for its answer
  code_again : code_answer (delivery_code (decode_of s) buffer) place (place + step) ≡ delivery_answer place step (stands_at place (decode_of s)) buffer
  unfolding decode_of
  code_again = go (eqb (decode_fault s).number 0) _ refl
    where
      by_room : (short : Bool) → code_answer (cond short 23 0) place (place + step) ≡ cond short (refused (refusal 23 place 0) place) (answered 0 (place + step))
      by_room true = refl
      by_room false = refl

      go : (fine : Bool) (t : Token) → eqb (decode_fault s).number 0 ≡ fine
          → (let d = cond fine (Ok t) (Err (decode_fault s)) in code_answer (delivery_code d buffer) place (place + step) ≡ delivery_answer place step (stands_at place d) buffer)
      go true t e = by_room (ltb (length buffer) 29)
      go false t e = fault_again _ _ place (place + step) (eqb-false (decode_fault s).number 0 e) (fault_bytes s).0 (fault_bytes s).1

  -- so what is answered by the number that deliver returns is right, at any place
  pub by_code : (code : ℕ) (after : List ℕ) (r : Answer)
      → (code ≡ delivery_code (decode_of s) buffer) × (after ≡ delivered (decode_of s) buffer) → r ≡ code_answer code place (place + step)
      → (r ≡ delivery_answer place step (stands_at place (decode_of s)) buffer) × (after ≡ delivered (stands_at place (decode_of s)) buffer)
  by_code code after r (e, g) h =
      (h ∙ ap (λ n. code_answer n place (place + step)) e ∙ code_again, g ∙ same_bytes place (decode_of s) buffer)

-- ---- the faults that are told outright

module _ (s : List ℕ) where
  pub told_outright : (buffer : List ℕ) (place step fault : ℕ) (r : Answer) → decode_of s ≡ Err (refusal fault 0 0) → r ≡ refused (refusal fault place 0) place
      → (r ≡ delivery_answer place step (stands_at place (decode_of s)) buffer) × (buffer ≡ delivered (stands_at place (decode_of s)) buffer)
  told_outright buffer place step fault r e h = rw e (h, refl)

-- a reader with a token's bytes before it stands within its program
pub place_within : (bytes : List ℕ) (place : ℕ) → length (token_bytes bytes place) ≡ 24 → token_start place + 24 ≤ length bytes
unfolding token_bytes
place_within bytes place e = go (no_token_left bytes place) _ refl e
  where
    go : (none : Bool) (token : List ℕ) → no_token_left bytes place ≡ none → length (cond none [] token) ≡ 24 → token_start place + 24 ≤ length bytes
    go true token l h = absurd (omega (arith, h))
    go false token l h = ltb-false _ _ l

-- ---- a flat form

module _ (flat buffer : List ℕ) where
  module _ (e : is_flat flat ≡ true) where
    -- a number above 255 is no stage and no depth
    no_name : (stage depth : ℕ) → is_nameable (token_of_flat flat) stage depth ≡ false
        → (refused (refusal 25 0 0) 0 ≡ line_answer_of flat stage depth buffer) × (buffer ≡ after_flat_line flat stage depth buffer)
    no_name stage depth h =
        let p = not_nameable (token_of_flat flat) stage depth buffer h in
        (simp (e, ← p.answer), simp e p.buffer)

    pub no_stage : (stage depth : ℕ) → (stage < 256 → ⊥)
        → (refused (refusal 25 0 0) 0 ≡ line_answer_of flat stage depth buffer) × (buffer ≡ after_flat_line flat stage depth buffer)
    unfolding is_nameable
    no_stage stage depth h = no_name stage depth (simp (lt-leb stage 1 (omega arith), and-false))

    pub no_depth : (stage depth : ℕ) → (depth < 256 → ⊥)
        → (refused (refusal 25 0 0) 0 ≡ line_answer_of flat stage depth buffer) × (buffer ≡ after_flat_line flat stage depth buffer)
    unfolding is_nameable
    no_depth stage depth h = no_name stage depth (simp (lt-leb depth 16 (omega arith), and-false))
