-- What Paths and Nesting say of a program as a list of tokens is what document 01's sentences say of it as a tree.
use Rattle.std.specs.Prelude.{cond, false, List, [], ◌∷◌, ◌↔◌, ◌≡◌, ℕ, suc, ◌≤◌, leb, take}
use Rattle.std.proofs.Math.Option.{none, some}
use Rattle.paths.specs.Paths.{PathToken, Path, Visit, visited}
use Rattle.paths.specs.Nesting.{open_branches, misplaced_at, innermost, eif_of}
use Rattle.paths.specs.Trees.{Cut, CutFits, cut_tokens, cut_walk, cut_depth, CutHasBranch, LeavesOpen, innermost_left}

-- the tree is one of the program: it has the program's tokens in their order, each where its place asks for it
abbrev pub TreeOf : List PathToken → Cut → Type 0
TreeOf prog t = CutFits t × (cut_tokens t ≡ prog)

-- the program is a tree in which at most 16 branches are open at once
abbrev pub IsTree : List PathToken → Type 0
IsTree prog = (t : Cut) × TreeOf prog t × (cut_depth t ≤ 16)

-- For every program:
-- No token is out of place exactly when the program, whole or cut short, is a tree at most sixteen deep.
-- What a path visits is document 01's walk over the tree, whichever tree of the program that is.
-- The eif of a branch is the branch's own in the tree; a branch that is cut short has none.
-- The innermost branch that is open at the end is the innermost that is cut short.
pub record Adequate (prog : List PathToken) : Type 0 where
  pub placed : ((j : ℕ) → misplaced_at prog j ≡ false) ↔ IsTree prog
  pub walks : (t : Cut) → TreeOf prog t → (p : Path) → visited p prog ≡ cut_walk p 0 t
  pub own_eif : (t : Cut) → TreeOf prog t → (i j : ℕ) → CutHasBranch i j 0 t → eif_of prog i ≡ some j
  pub no_eif : (t : Cut) → TreeOf prog t → (i : ℕ) → LeavesOpen i 0 t → eif_of prog i ≡ none
  pub left_open : (t : Cut) → TreeOf prog t → innermost (open_branches prog) ≡ innermost_left none 0 t

-- those of some visits that are to tokens up to token n
abbrev pub visits_up_to : ℕ → List Visit → List Visit
visits_up_to n [] = []
visits_up_to n (v ∷ later) = cond (leb v.number n) (v ∷ visits_up_to n later) (visits_up_to n later)

-- "On a program cut short it visits what is there": of the program cut short after token n a path visits what it visits of the whole up to
-- there.
-- "For refusal 21 at a token, the ways are those of the program cut short after that token; what comes later, faulty or not, doesn't
-- matter." Fault 20 at this token and at earlier ones comes before 21: where none of these is out of place, the program cut short is a
-- tree, and what the ways visit is the walk over it, whichever tree that is.
pub record AdequateCut (prog : List PathToken) (n : ℕ) : Type 0 where
  pub visits_what_is_there : (p : Path) → visited p (take (suc n) prog) ≡ visits_up_to n (visited p prog)
  pub cut_is_tree : ((j : ℕ) → j ≤ n → misplaced_at prog j ≡ false) → IsTree (take (suc n) prog)
  pub cut_walks : (t : Cut) → TreeOf (take (suc n) prog) t → (p : Path) → visited p (take (suc n) prog) ≡ cut_walk p 0 t
