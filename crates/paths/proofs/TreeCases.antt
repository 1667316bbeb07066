-- What the theorems on trees tell of small programs.
-- Assumes nothing.
use mathlib.Core.Path.{◌≡◌, refl}
use mathlib.Core.Bool.{false, true≢false}
use mathlib.Core.List.{List, [], ◌∷◌}
use mathlib.Core.Logic.{inl, inr}
use mathlib.Core.Option.{none, some}
use Prim.Native.Nat.{ℕ, zero, suc, ◌≤◌}
use native.Mathlib.Omega.{arith}
use lib.ListN.{replicate}
use Rattle.paths.specs.Paths.{opener, els, eif, PathToken, Path, visited}
use Rattle.paths.specs.Nesting.{open_branches, misplaced_at, innermost, eif_of}
use Rattle.paths.specs.Trees.{Block, empty, token, branch, branch_els, Cut, whole, in_first, cut_walk}
use Rattle.paths.specs.Adequate.{TreeOf, IsTree, visits_up_to}
use Rattle.paths.proofs.Adequate.{adequate, adequate_cut}
use Rattle.paths.proofs.PathCases.{bare, write, nested}

-- the first block of the program `nested`, and its tree
abbrev inner : Block
inner = branch_els (bare opener) (token (write 0) empty) (bare els) (token (write 1) empty) (bare eif) empty

abbrev tree : Cut
tree = whole (branch_els (bare opener) inner (bare els) (token (write 2) empty) (bare eif) empty)

is_tree : TreeOf nested tree
is_tree = ((refl, (refl, (refl, tt), refl, (refl, tt), refl, tt), refl, (refl, tt), refl, tt), refl)

walks_it : (p : Path) → visited p nested ≡ cut_walk p 0 tree
walks_it p = (adequate nested).walks tree is_tree p

in_place : (j : ℕ) → misplaced_at nested j ≡ false
in_place = (adequate nested).placed.1 (tree, is_tree, omega arith)

outer_eif : eif_of nested 0 ≡ some 8
outer_eif = (adequate nested).own_eif tree is_tree 0 8 (inl (refl, refl))

inner_eif : eif_of nested 1 ≡ some 5
inner_eif = (adequate nested).own_eif tree is_tree 1 5 (inr (inl (inl (refl, refl))))

-- cut short after its inner branch the outer one is open and has no eif
abbrev cut : List PathToken
cut = bare opener ∷ bare opener ∷ write 0 ∷ bare els ∷ write 1 ∷ bare eif ∷ []

abbrev cut_tree : Cut
cut_tree = in_first empty (bare opener) (whole inner)

is_cut_tree : TreeOf cut cut_tree
is_cut_tree = ((tt, refl, (refl, (refl, tt), refl, (refl, tt), refl, tt)), refl)

no_outer_eif : eif_of cut 0 ≡ none
no_outer_eif = (adequate cut).no_eif cut_tree is_cut_tree 0 (inl refl)

outer_open : innermost (open_branches cut) ≡ some 0
outer_open = (adequate cut).left_open cut_tree is_cut_tree

-- an eif alone is no tree, nor are seventeen openers
eif_alone : ¬ IsTree (bare eif ∷ [])
eif_alone t = true≢false ((adequate (bare eif ∷ [])).placed.1 t 0)

too_deep : ¬ IsTree (replicate 17 (bare opener))
too_deep t = true≢false ((adequate (replicate 17 (bare opener))).placed.1 t 16)

-- "what comes later, faulty or not, doesn't matter": a program whose third token is out of place is a tree when it is cut short before that
abbrev stray : List PathToken
stray = bare opener ∷ bare eif ∷ bare eif ∷ []

before_stray : IsTree (bare opener ∷ bare eif ∷ [])
before_stray = (adequate_cut stray 1).cut_is_tree placed
  where
    placed : (j : ℕ) → j ≤ 1 → misplaced_at stray j ≡ false
    placed zero h = refl
    placed (suc zero) h = refl
    placed (suc (suc j)) h = absurd (omega arith)

-- of it a path visits what it visits of the whole program, but for that token
visits_there : (p : Path) → visited p (bare opener ∷ bare eif ∷ []) ≡ visits_up_to 1 (visited p stray)
visits_there p = (adequate_cut stray 1).visits_what_is_there p

-- and that is the walk over the tree
walks_there : (p : Path) → visited p (bare opener ∷ bare eif ∷ []) ≡ cut_walk p 0 (whole (branch (bare opener) empty (bare eif) empty))
walks_there p = (adequate_cut stray 1).cut_walks (whole (branch (bare opener) empty (bare eif) empty)) ((refl, tt, refl, tt), refl) p
