-- What whoever calls check concludes of the shape of a program: document 01's sentences on branches over the tree that the program is.
use Rattle.std.specs.Prelude.{ℕ, suc, ◌<◌, ◌≤◌, ◌↔◌, ◌≡◌, length, take, Ok, Result}
use mathlib.Core.List.{List, [], ◌∷◌, ◌++◌, Memᴰ, map}
use Rattle.std.proofs.Math.Option.{none}
use Rattle.bytecode.specs.Numbers.{refused_numbers}
use Rattle.paths.specs.Paths.{Source, opener, PathToken, Path, Visit, visited}
use Rattle.paths.specs.Unwritten.{ReadsUnwritten}
use Rattle.paths.specs.Nesting.{eif_of}
use Rattle.paths.specs.Faults.{token_fault_at}
use Rattle.paths.specs.Trees.{Block, BlockFits, block_tokens, block_depth, walk, Cut, cut_walk, cut_depth, CutHasBranch}
use Rattle.paths.specs.Adequate.{TreeOf, visits_up_to}
use Rattle.faults.specs.Order.{tokens_of}
use Rattle.verifier.specs.Numbers.{checked_numbers}
use Rattle.verifier.specs.Exact.{HeaderRight, Checks}
use Rattle.verifier.specs.declared.answers.Program.{Program}
use Rattle.bytecode.specs.declared.answers.Refusal.{Refusal}

-- The header is right; the program is a tree of whole branches, at most sixteen of them open at once; no token breaks a rule of its own; and
-- on no walk over the tree is a component read that was not written before.
pub record RightProgram (edition : ℕ) (bytes : List ℕ) : Type 0 where
  pub header : HeaderRight edition bytes
  pub tree : Block
  pub fits : BlockFits tree
  pub tokens : block_tokens tree [] ≡ tokens_of edition bytes
  pub shallow : block_depth tree ≤ 16
  pub faultless : (n : ℕ) → n < length (tokens_of edition bytes) → token_fault_at (tokens_of edition bytes) n ≡ none
  pub safe : (p : Path) (s : Source) (n : ℕ) → ¬ ReadsUnwritten s n (walk p 0 tree [])

-- Exactly such programs are accepted.
abbrev pub AcceptsRight : Type 0
AcceptsRight =
    (edition : ℕ) (bytes : List ℕ) (r : Result Program Refusal) → Checks edition bytes r → ((a : Program) × (r ≡ Ok a)) ↔ RightProgram edition bytes

-- On every path of an accepted program a visit to an opener is followed by one to the eif that the branch has in the program's tree,
-- whichever tree that is.
abbrev pub BranchesClose : Type 0
BranchesClose =
    (edition : ℕ) (bytes : List ℕ) (r : Result Program Refusal) (a : Program) → Checks edition bytes r → r ≡ Ok a
    → (t : Cut) → TreeOf (tokens_of edition bytes) t
    → (p : Path) (earlier : List Visit) (v : Visit) (later : List Visit) → visited p (tokens_of edition bytes) ≡ earlier ++ (v ∷ later)
    → v.token.flow ≡ opener → (e : ℕ) → CutHasBranch v.number e 0 t → Memᴰ e (map (λ u. u.number) later)

-- Where check refuses with 21 at token n: cut short after this token the program is a tree, at most sixteen deep, and some walk over it reads
-- at the token an unwritten component; so does what the same path visits of the whole program up to there.
pub record UnwrittenAt (prog : List PathToken) (n : ℕ) : Type 0 where
  pub tree : Cut
  pub is_tree : TreeOf (take (suc n) prog) tree
  pub shallow : cut_depth tree ≤ 16
  pub path : Path
  pub source : Source
  pub walks : ReadsUnwritten source n (cut_walk path 0 tree)
  pub visits : ReadsUnwritten source n (visits_up_to n (visited path prog))

abbrev pub RefusedUnwritten : Type 0
RefusedUnwritten =
    (edition : ℕ) (bytes : List ℕ) (r : Result Program Refusal) (n part : ℕ) → Checks edition bytes r → checked_numbers r ≡ refused_numbers 21 n part
    → UnwrittenAt (tokens_of edition bytes) n

-- Where check refuses with 22 at token n, this token opens a branch that has no eif.
abbrev pub RefusedOpen : Type 0
RefusedOpen =
    (edition : ℕ) (bytes : List ℕ) (r : Result Program Refusal) (n part : ℕ) → Checks edition bytes r → checked_numbers r ≡ refused_numbers 22 n part
    → eif_of (tokens_of edition bytes) n ≡ none
