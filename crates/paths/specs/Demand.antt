-- What an answer in document 01's numbers must be: stated over the faults of tokens and over paths, never over the check's sets.
use Rattle.std.specs.Prelude.{List, ◌↔◌, ◌≡◌, ℕ}
use Rattle.paths.specs.Paths.{Source, PathToken, Path, visited}
use Rattle.paths.specs.Unwritten.{ReadsUnwritten}
use Rattle.paths.specs.Nesting.{Closes}
use Rattle.paths.specs.Faults.{Answer, accepted, refused, FirstFault, FirstUnwritten, Faultless}

-- Demand 2: the answer is accepted exactly when the program has no fault, and it is a number, a token and a part exactly when these are
-- those of the first fault.
pub record ExactOverTokens (prog : List PathToken) (answer : Answer) : Type 0 where
  pub accepts : (answer ≡ accepted) ↔ Faultless prog
  pub refuses : (number n part : ℕ) → (answer ≡ refused number n part) ↔ FirstFault prog number n part

-- Demand 3: on an accepted program every path reads no component that was not written earlier on that path, and ends with every branch
-- closed. The answer is 21 at a token, with its part, exactly when the faults that come before it are absent and some path reads there a
-- component that was not written earlier on that path.
pub record Demand3OverTokens (prog : List PathToken) (answer : Answer) : Type 0 where
  pub safe : answer ≡ accepted → (p : Path)
      → ((s : Source) (n : ℕ) → ¬ ReadsUnwritten s n (visited p prog)) × Closes prog (visited p prog)
  pub unwritten : (n part : ℕ) → (answer ≡ refused 21 n part) ↔ FirstUnwritten prog n part
