-- What the answer of the whole check must be: demands 2 and 3 over the rules of document 01 and the paths of the program, for every edition
-- number and all bytes. Nothing here speaks of the check's own sets.
use Rattle.std.specs.Prelude.{ℕ, List, ◌↔◌, ◌⊎◌, ◌≡◌, Err, Result}
use Rattle.std.proofs.Math.Option.{none, some}
use Rattle.bytecode.specs.Numbers.{refused_numbers, accepted_numbers, IsFault, NotRefused}
use Rattle.bytecode.specs.declared.answers.Refusal.{Refusal}
use Rattle.paths.specs.Paths.{Source, Path, visited}
use Rattle.paths.specs.Unwritten.{ReadsUnwritten}
use Rattle.paths.specs.Nesting.{Closes}
use Rattle.paths.specs.Faults.{Faultless, FirstFault, FirstUnwritten}
use Rattle.layout.specs.Programs.{stage_of, token_count}
use Rattle.faults.specs.Order.{first_fault, header_rules, tokens_of}
use Rattle.verifier.specs.Verdict.{verdict}
use Rattle.verifier.specs.Numbers.{checked_numbers}
use Rattle.verifier.specs.declared.answers.Program.{Program}

-- none of faults 1 to 8
abbrev pub HeaderRight : ℕ → List ℕ → Type 0
HeaderRight edition bytes = first_fault (header_rules edition bytes) ≡ none

-- the first of faults 1 to 8 has this number; "token and part 0"
abbrev pub HeaderFault : ℕ → List ℕ → ℕ → ℕ → ℕ → Type 0
HeaderFault edition bytes number token part =
    (first_fault (header_rules edition bytes) ≡ some (record { number = number; part = part })) × (token ≡ 0)

-- "A program is accepted exactly when it meets the published format and the rules of document 01", with its stage and its token count, "the
-- length less 7, over 24". "Otherwise the answer is the first fault in the stated order, with its token and part." The answer is told by
-- its numbers; a refusal's number is one of document 01's, never the 0 of an acceptance.
pub record Exact (edition : ℕ) (bytes : List ℕ) (r : Result Program Refusal) : Type 0 where
  pub accepts : (stage tokens : ℕ)
      → (checked_numbers r ≡ accepted_numbers stage tokens)
      ↔ (HeaderRight edition bytes × Faultless (tokens_of edition bytes) × (stage ≡ stage_of bytes) × (tokens ≡ token_count bytes))
  pub refuses : (number token part : ℕ)
      → (IsFault number × (checked_numbers r ≡ refused_numbers number token part))
      ↔ (HeaderFault edition bytes number token part ⊎ (HeaderRight edition bytes × FirstFault (tokens_of edition bytes) number token part))
  pub numbered : (f : Refusal) → r ≡ Err f → IsFault f.number

-- "Take any program that the check accepts, which it does exactly when the rules of document 01 find no fault in it. Whatever side is chosen
-- at each branch, the way so chosen reads no component of a temporary register that was not written earlier on that way, and it ends with
-- every branch closed. Take any bytes, any edition and any token in the bytes. The check answers with the refusal for an unwritten temporary
-- at that token, with document 01's part, exactly when the faults that come before it are absent and some way reads there a component of a
-- temporary register that was not written earlier on that way. The register that holds an index counts as read; which constant the index
-- picks at run time is no part of this."
pub record Demand3 (edition : ℕ) (bytes : List ℕ) (r : Result Program Refusal) : Type 0 where
  pub accepts : NotRefused (checked_numbers r) ↔ (HeaderRight edition bytes × Faultless (tokens_of edition bytes))
  pub safe : NotRefused (checked_numbers r) → (p : Path)
      → ((s : Source) (n : ℕ) → ¬ ReadsUnwritten s n (visited p (tokens_of edition bytes)))
      × Closes (tokens_of edition bytes) (visited p (tokens_of edition bytes))
  pub unwritten : (token part : ℕ)
      → (checked_numbers r ≡ refused_numbers 21 token part) ↔ (HeaderRight edition bytes × FirstUnwritten (tokens_of edition bytes) token part)

-- the promise of check: its answer, and what the numbers of its answer must be
pub record Checks (edition : ℕ) (bytes : List ℕ) (r : Result Program Refusal) : Type 0 where
  pub answer : r ≡ verdict edition bytes
  pub exact : Exact edition bytes r
  pub demand3 : Demand3 edition bytes r
