-- Document 01, "When an answer is an enum, a definition gives this paper's number and values for each of its cases": those of the check's.
use Rattle.std.specs.Prelude.{Err, Ok, Result}
use Rattle.bytecode.specs.Numbers.{Numbers, accepted_numbers, refusal_numbers}
use Rattle.verifier.specs.declared.answers.Program.{Program}
use Rattle.bytecode.specs.declared.answers.Refusal.{Refusal}

-- "accepted with stage and token count, or a refusal number, a token number from 0, and a part"
abbrev pub checked_numbers : Result Program Refusal → Numbers
checked_numbers (Ok p) = accepted_numbers p.stage p.tokens
checked_numbers (Err r) = refusal_numbers r
