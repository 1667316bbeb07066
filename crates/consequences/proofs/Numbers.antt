-- The numbers of an answer, case by case: each from what its promise says of them.
-- Assumes nothing.
use Prim.Native.Nat.{ℕ, ◌+◌, ◌≤◌}
use mathlib.Core.Bool.{Bool, true, false, cond}
use mathlib.Core.Path.{◌≡◌, refl, sym, ap, ◌∙◌}
use native.Mathlib.Omega.{arith}
use lib.Dec.{eqb}
use lib.ListN.{length}
use borrow.Author.Tests.{lt-ltb, le-ltb, eq-eqb, ne_eqb, eqb-false}
use Rattle.layout.specs.Programs.{token_at, token_start}
use Rattle.bytecode.specs.Fields.{fields_of}
use Rattle.bytecode.specs.Numbers.{accepted_numbers, refusal_numbers, found_numbers}
use Rattle.bytecode.specs.Decode.{unused_part, undefined_part, token_fault, decode_fault}
use Rattle.bytecode.specs.Encode.{encode_fault, after_encode}
use Rattle.bytecode.specs.declared.answers.Refusal.{Refusal}
use Rattle.listing.specs.Printing.{print_fault, after_print}
use Rattle.listing.specs.Line.{line_of, line_fault, after_line}
use Rattle.reader.specs.Reading.{fault_at, read_fault, opening_fault}
use Rattle.consequences.specs.Numbers.{five, fine, shape_in, DecodeNumbers, EncodeNumbers, PrintNumbers, LineNumbers, ReadNumbers, OpenNumbers}

-- a part that is at fault is not 0
not_none : {n : ℕ} → 1 ≤ n → n ≡ 0 → ⊥
not_none h e = omega (arith, h, e)

-- ---- decode

pub decode_numbers : DecodeNumbers
unfolding decode_fault token_fault
decode_numbers s r d = record {
  unsized = λ n. d.numbers ∙ simp (ne_eqb (length s) 24 n);
  unlisted = λ h l. d.numbers ∙ simp (eq-eqb (length s) 24 h, l);
  unused = λ h l u. d.numbers ∙ simp (eq-eqb (length s) 24 h, l, ne_eqb (unused_part (shape_in s) (fields_of s)) 0 (not_none u));
  undefined = λ h l u v.
      d.numbers ∙ simp (eq-eqb (length s) 24 h, l, u, ne_eqb (undefined_part (shape_in s) (fields_of s)) 0 (not_none v));
  faultless = λ h l u v. d.numbers ∙ simp (eq-eqb (length s) 24 h, l, u, v);
}

-- ---- encode

pub encode_numbers : EncodeNumbers
unfolding encode_fault after_encode
encode_numbers t before after r d = record {
  unencodable = λ e. (d.numbers ∙ simp e, d.buffer ∙ simp e);
  roomless = λ e h. let l = lt-ltb (length before) 24 h in (d.numbers ∙ simp (e, l), d.buffer ∙ simp (e, l));
  written = λ e h. let l = le-ltb (length before) 24 h in (d.numbers ∙ simp (e, l), d.buffer ∙ simp (e, l));
}

-- ---- texts

pub print_numbers : PrintNumbers
unfolding print_fault after_print
print_numbers text before after r p = record {
  roomless = λ h. let l = lt-ltb (length before) (length text) h in (p.numbers ∙ simp l, p.buffer ∙ simp l);
  written = λ h. let l = le-ltb (length before) (length text) h in (p.numbers ∙ simp l, p.buffer ∙ simp l);
}

pub line_numbers : LineNumbers
unfolding line_fault after_line print_fault after_print
line_numbers t stage depth before after r p =
    let line = line_of t stage depth in
    record {
      nameless = λ e. (p.numbers ∙ simp e, p.buffer ∙ simp e);
      printed = λ e. record {
        roomless = λ h. let l = lt-ltb (length before) (length line) h in (p.numbers ∙ simp (e, l), p.buffer ∙ simp (e, l));
        written = λ h. let l = le-ltb (length before) (length line) h in (p.numbers ∙ simp (e, l), p.buffer ∙ simp (e, l));
      };
      short = λ e h.
          let most = p.short e in
          let l = le-ltb (length before) (length line) (omega (arith, most, h)) in
          (length line, most, p.numbers ∙ simp (e, l), p.buffer ∙ simp (e, l));
    }

-- ---- the reader

-- a fault that is found at token 0 is found alike at another, and where there is none there is none
found_at : (f : Refusal) (n number part : ℕ) → 1 ≤ number → found_numbers f 0 0 ≡ five number 0 part 0 0
    → found_numbers (fault_at n f) 0 0 ≡ five number n part 0 0
found_at f n number part h e = go (eqb f.number 0) e
  where
    go : (b : Bool) → cond b (accepted_numbers 0 0) (refusal_numbers f) ≡ five number 0 part 0 0
        → cond b (accepted_numbers 0 0) (refusal_numbers (fault_at n f)) ≡ five number n part 0 0
    go true k = absurd (omega (arith, h, ap (λ x. x.number) k))
    go false k = ap (λ x. five x.number n x.part 0 0) k

none_at : (f : Refusal) (n : ℕ) → found_numbers f 0 0 ≡ fine → found_numbers (fault_at n f) 0 0 ≡ fine
none_at f n e = go (eqb f.number 0) refl e
  where
    go : (b : Bool) → eqb f.number 0 ≡ b → cond b (accepted_numbers 0 0) (refusal_numbers f) ≡ fine
        → cond b (accepted_numbers 0 0) (refusal_numbers (fault_at n f)) ≡ fine
    go true z k = refl
    go false z k = absurd (eqb-false f.number 0 z (ap (λ x. x.number) k))

pub read_numbers : ReadNumbers
unfolding read_fault
read_numbers s n r d = record {
  ended = λ h. d.numbers ∙ simp (lt-ltb (length s) (token_start n + 24) h);
  refused = λ h c p number part k e.
      d.numbers
      ∙ rw (le-ltb (length s) (token_start n + 24) h) (found_at (decode_fault (token_at s n)) n number part k (sym p.numbers ∙ e));
  taken = λ h c p e.
      d.numbers ∙ rw (le-ltb (length s) (token_start n + 24) h) (none_at (decode_fault (token_at s n)) n (sym p.numbers ∙ e));
}

pub open_numbers : OpenNumbers
unfolding opening_fault
open_numbers lent r o = record {
  refused = λ h. o.numbers ∙ simp (lt-ltb (length lent.now) 7 h);
  opened = λ h. o.numbers ∙ simp (le-ltb (length lent.now) 7 h);
}
