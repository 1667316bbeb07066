-- What line's answer is.
-- Assumes nothing.
use Rattle.std.specs.Prelude.{Err, Result}
use Prim.Native.Nat.{ℕ, ◌≤◌}
use mathlib.Core.Bool.{true, false, true≢false}
use mathlib.Core.List.{List}
use mathlib.Core.Path.{◌≡◌, ◌∙◌, sym}
use lib.ListN.{length}
use Rattle.bytecode.specs.Decode.{refusal}
use Rattle.layout.specs.declared.record.Token.{Token}
use Rattle.listing.specs.Line.{line_of, is_nameable, line_fault, line_answer, after_line, Lists}
use Rattle.listing.specs.Printing.{Prints}
use Rattle.bytecode.specs.declared.answers.Refusal.{Refusal}

module _ (t : Token) (stage depth : ℕ) where
  pub not_nameable : (buffer : List ℕ) → is_nameable t stage depth ≡ false → Lists t stage depth buffer buffer (Err (refusal 25 0 0))
  unfolding line_fault line_answer after_line
  not_nameable buffer e =
      record { answer = simp e; numbers = simp e; buffer = simp e; short = λ k. absurd (true≢false (sym k ∙ e)) }

  pub listed : {before after : List ℕ} {r : Result ℕ Refusal} → is_nameable t stage depth ≡ true
      → Prints (line_of t stage depth) before after r × (length (line_of t stage depth) ≤ 128) → Lists t stage depth before after r
  unfolding line_fault line_answer after_line
  listed e (p, s) = record { answer = p.answer ∙ simp e; numbers = p.numbers ∙ simp e; buffer = p.buffer ∙ simp e; short = λ k. s }

  -- what was lent to line, for a record that has one
  pub as_text : {before after : List ℕ} {r : Result ℕ Refusal} → is_nameable t stage depth ≡ true → Lists t stage depth before after r
      → Prints (line_of t stage depth) before after r
  unfolding line_fault line_answer after_line
  as_text e l = record { answer = l.answer ∙ simp e; numbers = l.numbers ∙ simp e; buffer = l.buffer ∙ simp e }
