-- What report answers, and what the lent buffer holds afterwards.
use Rattle.std.specs.Prelude.{List, ◌≡◌, ℕ, ◌≤◌, length, drop, get_or, Ok, Result}
use Rattle.listing.specs.Printing.{Prints}
use Rattle.bytecode.specs.declared.answers.Refusal.{Refusal}
use Rattle.verifier.specs.Verdict.{verdict}
use Rattle.verifier.specs.declared.answers.Program.{Program}
use Rattle.report.specs.Lines.{Listable}
use Rattle.report.specs.Text.{edition_of, text_of}

-- the promise of report: the text is printed, or 23 is answered; 262,178 bytes are room enough for every text; and where the program is
-- accepted, no line is refused
pub record Reports (input before after : List ℕ) (r : Result ℕ Refusal) : Type 0 where
  pub prints : Prints (text_of input) before after r
  pub short : length (text_of input) ≤ 262178
  pub listable : (p : Program) → verdict (edition_of (get_or input 0 0)) (drop 1 input) ≡ Ok p → Listable p.stage (drop 1 input) 0 p.tokens 0
