-- Document 01, "Ways, reads and writes": what a path reads that it has not written.
use mathlib.Core.List.{List, ◌∷◌, ◌++◌, Memᴰ}
use Rattle.std.specs.Prelude.{◌≡◌, ℕ, suc, take}
use Rattle.paths.specs.Paths.{Source, PathToken, Path, Visit, visited}

-- "A temporary component is unwritten at a token when no token visited earlier on the way wrote it." With no earlier visit none is written:
-- "A way starts with no component of any temporary register written".
abbrev pub Unwritten : ℕ → List Visit → Type 0
Unwritten component earlier = (v : Visit) → Memᴰ v earlier → ¬ Memᴰ component v.token.writes

-- Among the visits of a path is one to token n that reads, through the source, a component which is unwritten there. As "each token it
-- visits first reads and then adds what it writes", what that visit itself writes is not earlier.
pub record ReadsUnwritten (s : Source) (n : ℕ) (visits : List Visit) : Type 0 where
  pub earlier : List Visit
  pub visit : Visit
  pub later : List Visit
  pub on_the_way : visits ≡ earlier ++ (visit ∷ later)
  pub at_token : visit.number ≡ n
  pub component : ℕ
  pub reads_it : Memᴰ component (visit.token.reads s)
  pub unwritten : Unwritten component earlier

-- "For refusal 21 at a token, the ways are those of the program cut short after that token": one of these reads there, through the
-- source, an unwritten component.
abbrev pub SomePathReads : Source → List PathToken → ℕ → Type 0
SomePathReads s prog n = (p : Path) × ReadsUnwritten s n (visited p (take (suc n) prog))
