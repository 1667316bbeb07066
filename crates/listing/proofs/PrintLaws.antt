-- What is answered of a text, from what was written.
-- Assumes nothing.
use Rattle.std.specs.Prelude.{Err, Ok, Result}
use Prim.Native.Nat.{ℕ, ◌<◌, ◌≤◌}
use mathlib.Core.Bool.{false}
use mathlib.Core.List.{List, ◌++◌}
use mathlib.Core.Path.{◌≡◌, ◌∙◌, sym, ap, subst}
use native.Mathlib.Omega.{arith}
use lib.Dec.{ltb}
use lib.ListN.{length, take, drop, take-append-drop}
use lib.Seq.{length-take-le, take-append_seam, drop-append_seam}
use borrow.Author.Tests.{lt-ltb, le-ltb}
use Rattle.bytecode.specs.Decode.{refusal}
use Rattle.bytecode.specs.declared.answers.Refusal.{Refusal}
use Rattle.listing.specs.Printing.{print_fault, print_answer, after_print, Prints}
use Rattle.listing.specs.computed.Writers.{Appends}

pub too_short : (text buffer : List ℕ) → length buffer < length text → Prints text buffer buffer (Err (refusal 23 0 0))
unfolding print_fault print_answer after_print
too_short text buffer h =
    let l = lt-ltb (length buffer) (length text) h in
    record { answer = simp l; numbers = simp l; buffer = simp l }

-- a text from the buffer's start is as long as the place after it says
measured : {text before after : List ℕ} {most n : ℕ} → Appends text most 0 before after n → n ≤ length after → n ≡ length text
measured {after = after} {n = n} a h = sym (length-take-le n after h) ∙ ap length a.text

-- the text was written to the buffer itself, which has the room for it
pub printed : {text before after : List ℕ} {most n : ℕ} → Appends text most 0 before after n → most ≤ length before → length after ≡ length before
    → Prints text before after (Ok n) × (length text ≤ most)
unfolding print_fault print_answer after_print
printed {text} {before} {after} {n = n} a h k =
    let inside : n ≤ length after = omega (arith, a.room, h, k) in
    let m = measured a inside in
    let l = le-ltb (length before) (length text) (omega (arith, m, inside, k)) in (
      record {
        answer = rw m (simp l);
        numbers = rw m (simp l);
        buffer = simp l (sym (take-append-drop n after) ∙ rw (a.text, a.rest, ← m));
      },
      omega (arith, m, a.room),
    )

-- it was written to an array, which has the room for it, and what is there was then printed
pub by_way_of : {text empty whole before after : List ℕ} {most n : ℕ} {r : Result ℕ Refusal} → Appends text most 0 empty whole n → most ≤ length whole
    → Prints (take n whole) before after r → Prints text before after r × (length text ≤ most)
by_way_of {whole = whole} {before = before} {after = after} {n = n} {r = r} a h p =
    let inside : n ≤ length whole = omega (arith, a.room, h) in
    (subst (λ t. Prints t before after r) a.text p, omega (arith, measured a inside, a.room))

-- ---- a text that was lent the room for it

abbrev length_in : Result ℕ Refusal → ℕ
length_in (Ok n) = n
length_in (Err r) = 0

abbrev IsLength : Result ℕ Refusal → Type 0
IsLength (Ok n) = Unit {0}
IsLength (Err r) = ⊥

module _ {text before after : List ℕ} {r : Result ℕ Refusal} (p : Prints text before after r) (h : length text ≤ length before) where
  fits : ltb (length before) (length text) ≡ false
  fits = le-ltb (length before) (length text) h

  is_length : r ≡ Ok (length text)
  unfolding print_answer
  is_length = p.answer ∙ simp fits

  follows : after ≡ text ++ drop (length text) before
  unfolding after_print
  follows = p.buffer ∙ simp fits

  pub not_refused : (f : Refusal) → r ≡ Err f → ⊥
  not_refused f e = subst IsLength (sym is_length ∙ e) tt

  pub appended : (n : ℕ) → r ≡ Ok n → Appends text (length text) 0 before after n
  appended n e =
      let m : n ≡ length text = ap length_in (sym e ∙ is_length) in
      rw (m, follows)
      (record {
        text = take-append_seam text (drop (length text) before);
        onward = omega arith;
        room = omega arith;
        rest = drop-append_seam text (drop (length text) before);
      })
