-- What is answered where a text is written to a lent buffer, and what the buffer holds afterwards.
use Rattle.std.specs.Prelude.{cond, List, ◌++◌, ◌≡◌, ℕ, ltb, length, drop, Err, Ok, Result}
use Rattle.bytecode.specs.Decode.{refusal, no_refusal}
use Rattle.bytecode.specs.Numbers.{Numbers, accepted_numbers, refusal_numbers, found_numbers}
use Rattle.bytecode.specs.declared.answers.Refusal.{Refusal}

-- the paper's numbers of such an answer: it "answers the length"
abbrev pub printed_numbers : Result ℕ Refusal → Numbers
printed_numbers (Ok n) = accepted_numbers 0 n
printed_numbers (Err r) = refusal_numbers r

-- 23 where the lent buffer is shorter than the text
unfoldable pub print_fault : List ℕ → List ℕ → Refusal
print_fault text buffer = cond (ltb (length buffer) (length text)) (refusal 23 0 0) no_refusal

-- that refusal, or the text's length
unfoldable pub print_answer : List ℕ → List ℕ → Result ℕ Refusal
print_answer text buffer = cond (ltb (length buffer) (length text)) (Err (refusal 23 0 0)) (Ok (length text))

-- every byte as it was, or the text and then what was there
unfoldable pub after_print : List ℕ → List ℕ → List ℕ
after_print text buffer = cond (ltb (length buffer) (length text)) buffer (text ++ drop (length text) buffer)

-- the promise: the answer, its numbers by the rule above, the text's length where nothing is refused, and the buffer afterwards
pub record Prints (text before after : List ℕ) (r : Result ℕ Refusal) : Type 0 where
  pub answer : r ≡ print_answer text before
  pub numbers : printed_numbers r ≡ found_numbers (print_fault text before) 0 (length text)
  pub buffer : after ≡ after_print text before
