-- The answer of the whole check, as a definition that computes. Nobody has to believe it: what it must be is stated in Exact, over rules
-- and paths.
use Rattle.std.specs.Prelude.{ℕ, List, Err, Ok, Result}
use Rattle.std.proofs.Math.Option.{Option, none, some}
use Rattle.bytecode.specs.Decode.{refusal}
use Rattle.paths.specs.Paths.{TokenFault}
use Rattle.paths.specs.Faults.{Answer, accepted, refused}
use Rattle.paths.specs.computed.Check.{verdict_of}
use Rattle.layout.specs.Programs.{stage_of, token_count}
use Rattle.faults.specs.Order.{first_fault, header_rules, tokens_of}
use Rattle.verifier.specs.declared.answers.Program.{Program}
use Rattle.bytecode.specs.declared.answers.Refusal.{Refusal}

abbrev pub program : ℕ → ℕ → Program
program stage tokens = record { stage = stage; tokens = tokens }

-- an answer over paths, in the form that the check gives it
abbrev pub answer_of : List ℕ → Answer → Result Program Refusal
answer_of bytes accepted = Ok (program (stage_of bytes) (token_count bytes))
answer_of bytes (refused number token part) = Err (refusal number token part)

-- a fault of the header, or else what the tokens give
abbrev pub after_header : Option TokenFault → Result Program Refusal → Result Program Refusal
after_header none later = later
after_header (some f) later = Err (refusal f.number 0 f.part)

unfoldable pub verdict : ℕ → List ℕ → Result Program Refusal
verdict edition bytes =
    after_header (first_fault (header_rules edition bytes)) (answer_of bytes (verdict_of (tokens_of edition bytes)))
