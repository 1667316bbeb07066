-- Document 01: "When an answer is an enum, a definition gives this paper's number and values for each of its cases, and the promises use
-- that definition." The numbers of any answer, and which they are of what decode and encode answer; the other answers are in the crates
-- that give them.
use Rattle.std.specs.Prelude.{ℕ, ◌≤◌, cond, ◌≡◌, eqb, Err, Ok, Result, ⊤}
use Rattle.bytecode.specs.declared.answers.Refusal.{Refusal}
use Rattle.layout.specs.declared.record.Token.{Token}

-- "a refusal number, a token number from 0, and a part"; or the stage of an accepted program, and its token count or the length of a line.
-- What no rule names is 0.
pub record Numbers : Type 0 where
  pub number : ℕ
  pub token : ℕ
  pub part : ℕ
  pub stage : ℕ
  pub value : ℕ

abbrev pub refused_numbers : ℕ → ℕ → ℕ → Numbers
refused_numbers number token part = record { number = number; token = token; part = part; stage = 0; value = 0 }

abbrev pub accepted_numbers : ℕ → ℕ → Numbers
accepted_numbers stage value = record { number = 0; token = 0; part = 0; stage = stage; value = value }

-- ---- how the two are told apart: by the number

-- "Numbers of the faults": 1 to 25, none of them 0
abbrev pub IsFault : ℕ → Type 0
IsFault number = (1 ≤ number) × (number ≤ 25)

-- the number 0 says that nothing is refused
abbrev pub NotRefused : Numbers → Type 0
NotRefused a = a.number ≡ 0

-- ---- the numbers by a refusal

abbrev pub refusal_numbers : Refusal → Numbers
refusal_numbers r = refused_numbers r.number r.token r.part

-- what the rules find: the numbers of the fault, or, where there is none, those of an acceptance with this stage and value
abbrev pub found_numbers : Refusal → ℕ → ℕ → Numbers
found_numbers fault stage value = cond (eqb fault.number 0) (accepted_numbers stage value) (refusal_numbers fault)

-- ---- of what decode and encode answer, which has no stage and no value

abbrev pub decoded_numbers : Result Token Refusal → Numbers
decoded_numbers (Ok t) = accepted_numbers 0 0
decoded_numbers (Err r) = refusal_numbers r

abbrev pub encoded_numbers : Result ⊤ Refusal → Numbers
encoded_numbers (Ok tt) = accepted_numbers 0 0
encoded_numbers (Err r) = refusal_numbers r
