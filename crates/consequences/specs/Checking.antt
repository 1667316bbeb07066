-- What whoever calls check concludes, of whose answer nothing is known but the promise.
use Rattle.std.specs.Prelude.{ℕ, ◌≡◌, Ok, Result}
use mathlib.Core.List.{List, ◌∷◌, ◌++◌, Memᴰ, map}
use Rattle.std.proofs.Math.Option.{some}
use Rattle.bytecode.specs.Numbers.{NotRefused, refused_numbers}
use Rattle.paths.specs.Paths.{Source, opener, PathToken, Path, Visit, visited}
use Rattle.paths.specs.Nesting.{eif_of}
use Rattle.faults.specs.Order.{tokens_of}
use Rattle.verifier.specs.Numbers.{checked_numbers}
use Rattle.verifier.specs.Exact.{Exact, Demand3, Checks}
use Rattle.verifier.specs.BenchCases.{Case, bench_cases}
use Rattle.verifier.specs.declared.answers.Program.{Program}
use Rattle.bytecode.specs.declared.answers.Refusal.{Refusal}

-- Demand 2 leaves no choice: to the same bytes in the same edition there is one answer that meets it.
abbrev pub OneAnswer : Type 0
OneAnswer = (edition : ℕ) (bytes : List ℕ) (r other : Result Program Refusal) → Exact edition bytes r → Exact edition bytes other → r ≡ other

-- So whoever finds an answer that meets demand 2, in whatever way, has the answer of check.
abbrev pub OnlyAnswer : Type 0
OnlyAnswer = (edition : ℕ) (bytes : List ℕ) (r other : Result Program Refusal) → Checks edition bytes r → Exact edition bytes other → other ≡ r

-- Demand 3 leaves no choice about what it speaks of: where one answer that meets it accepts, or refuses with 21, every other does the same,
-- with the same token and part.
pub record Agrees (r other : Result Program Refusal) : Type 0 where
  pub accepts : NotRefused (checked_numbers r) → NotRefused (checked_numbers other)
  pub unwritten : (token part : ℕ) → checked_numbers r ≡ refused_numbers 21 token part → checked_numbers other ≡ refused_numbers 21 token part

abbrev pub Demand3Agrees : Type 0
Demand3Agrees = (edition : ℕ) (bytes : List ℕ) (r other : Result Program Refusal) → Demand3 edition bytes r → Demand3 edition bytes other → Agrees r other

-- Wherever a path of an accepted program is cut in two before a visit: what this visit reads was written by an earlier one; and if it is to
-- an opener, a later visit is to the eif of the same branch. So no path ends inside a branch.
pub record SafeVisit (prog : List PathToken) (earlier : List Visit) (v : Visit) (later : List Visit) : Type 0 where
  pub written : (s : Source) (component : ℕ) → Memᴰ component (v.token.reads s)
      → (u : Visit) × Memᴰ u earlier × Memᴰ component u.token.writes
  pub closed : v.token.flow ≡ opener → (e : ℕ) × (eif_of prog v.number ≡ some e) × Memᴰ e (map (λ u. u.number) later)

abbrev pub SafePaths : List PathToken → Type 0
SafePaths prog =
    (p : Path) (earlier : List Visit) (v : Visit) (later : List Visit) → visited p prog ≡ earlier ++ (v ∷ later)
    → SafeVisit prog earlier v later

abbrev pub AcceptedSafe : Type 0
AcceptedSafe =
    (edition : ℕ) (bytes : List ℕ) (r : Result Program Refusal) (a : Program) → Checks edition bytes r → r ≡ Ok a → SafePaths (tokens_of edition bytes)

-- Whatever meets the promise of check passes the bench.
abbrev pub PassesBench : Type 0
PassesBench = (k : Case) → Memᴰ k bench_cases → (r : Result Program Refusal) → Checks k.edition k.bytes r → r ≡ k.answer
