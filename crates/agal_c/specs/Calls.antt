-- What each exported function answers, by what the libraries' functions answer, and what a lent buffer holds afterwards.
use Rattle.std.specs.Prelude.{ℕ, ◌+◌, cond, List, ◌++◌, ltb, length, drop, Err, Ok, Result, ⊤}
use Rattle.bytecode.specs.Decode.{refusal}
use Rattle.bytecode.specs.Encode.{encode_of, after_encode}
use Rattle.verifier.specs.declared.answers.Program.{Program}
use Rattle.bytecode.specs.declared.answers.Refusal.{Refusal}
use Rattle.layout.specs.declared.record.Token.{Token}
use Rattle.listing.specs.Line.{line_answer, after_line}
use Rattle.listing.specs.Printing.{printed_numbers}
use Rattle.verifier.specs.Numbers.{checked_numbers}
use Rattle.agal_c.specs.Answers.{numbers_answer, answered, refused}
use Rattle.agal_c.specs.Flat.{flat_of, is_flat, token_of_flat}
use Rattle.agal_c.specs.declared.answers.Answer.{Answer}

-- check: stage and token count, or the refusal
abbrev pub check_answer : Result Program Refusal → Answer
check_answer r = numbers_answer (checked_numbers r)

-- ---- decode and the reader's step

-- of a token read at a place: the place `step` further on; "any refusal leaves the place unmoved", and "for the reader the token it stands
-- at" is a refusal's. 23 where the lent buffer has no room for a flat form, after any refusal of the token.
-- Decode stands at place 0, and its step is 29: the length that is written.
abbrev pub delivery_answer : ℕ → ℕ → Result Token Refusal → List ℕ → Answer
delivery_answer place step (Ok t) buffer = cond (ltb (length buffer) 29) (refused (refusal 23 place 0) place) (answered 0 (place + step))
delivery_answer place step (Err r) buffer = refused r place

-- the flat form and then what was there, or all that was there
abbrev pub delivered : Result Token Refusal → List ℕ → List ℕ
delivered (Ok t) buffer = cond (ltb (length buffer) 29) buffer (flat_of t ++ drop 29 buffer)
delivered (Err r) buffer = buffer

-- ---- encode

abbrev pub encoded_answer : Result ⊤ Refusal → Answer
encoded_answer (Ok tt) = answered 0 24
encoded_answer (Err r) = refused r 0

-- what is no flat form is 25, before any other test
abbrev pub encode_answer : List ℕ → List ℕ → Answer
encode_answer flat buffer = cond (is_flat flat) (encoded_answer (encode_of (token_of_flat flat) buffer)) (refused (refusal 25 0 0) 0)

abbrev pub after_flat_encode : List ℕ → List ℕ → List ℕ
after_flat_encode flat buffer = cond (is_flat flat) (after_encode (token_of_flat flat) buffer) buffer

-- ---- line and report

-- the length, or the refusal
abbrev pub printed_answer : Result ℕ Refusal → Answer
printed_answer r = numbers_answer (printed_numbers r)

abbrev pub line_answer_of : List ℕ → ℕ → ℕ → List ℕ → Answer
line_answer_of flat stage depth buffer =
    cond (is_flat flat) (printed_answer (line_answer (token_of_flat flat) stage depth buffer)) (refused (refusal 25 0 0) 0)

abbrev pub after_flat_line : List ℕ → ℕ → ℕ → List ℕ → List ℕ
after_flat_line flat stage depth buffer = cond (is_flat flat) (after_line (token_of_flat flat) stage depth buffer) buffer
