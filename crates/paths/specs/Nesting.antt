-- Document 01, "Ways, reads and writes" and faults 20 and 22: open branches, and the eif of a branch.
use Rattle.std.specs.Prelude.{Bool, true, false, ◌≡◌, ℕ, zero, suc, leb, length, drop}
use mathlib.Core.List.{List, [], ◌∷◌, Memᴰ, map}
use Rattle.std.proofs.Math.Option.{Option, none, some}
use Rattle.paths.specs.Paths.{Flow, plain, opener, els, eif, PathToken, Visit}

-- an open branch: the token number of its opener, and whether its els was met
pub record Branch : Type 0 where
  pub opened_at : ℕ
  pub els_met : Bool

-- "A branch is an opener, a block, perhaps els and a second block, then eif": the branches that are open after token n, the innermost
-- first, from those open before it
abbrev pub branches_after : Flow → ℕ → List Branch → List Branch
branches_after plain n bs = bs
branches_after opener n bs = record { opened_at = n; els_met = false } ∷ bs
branches_after els n [] = []
branches_after els n (b ∷ bs) = record { opened_at = b.opened_at; els_met = true } ∷ bs
branches_after eif n [] = []
branches_after eif n (b ∷ bs) = bs

-- the branches open after all of these tokens, which are numbered from n
abbrev pub open_branches_from : List Branch → ℕ → List PathToken → List Branch
open_branches_from bs n [] = bs
open_branches_from bs n (t ∷ ts) = open_branches_from (branches_after t.flow n bs) (suc n) ts

-- those open at the end of a program
abbrev pub open_branches : List PathToken → List Branch
open_branches prog = open_branches_from [] 0 prog

-- 20: "opener with 16 branches open; els with none open or after an els of the same branch; eif with none open"
abbrev pub misplaced : Flow → List Branch → Bool
misplaced plain bs = false
misplaced opener bs = leb 16 (length bs)
misplaced els [] = true
misplaced els (b ∷ bs) = b.els_met
misplaced eif [] = true
misplaced eif (b ∷ bs) = false

-- the same of the i-th of these tokens, which are numbered from n
abbrev pub misplaced_from : List Branch → ℕ → List PathToken → ℕ → Bool
misplaced_from bs n [] i = false
misplaced_from bs n (t ∷ ts) zero = misplaced t.flow bs
misplaced_from bs n (t ∷ ts) (suc i) = misplaced_from (branches_after t.flow n bs) (suc n) ts i

-- token i of a program is out of place
abbrev pub misplaced_at : List PathToken → ℕ → Bool
misplaced_at prog i = misplaced_from [] 0 prog i

-- 22: "at the end a branch is open; token = innermost open opener"
abbrev pub innermost : List Branch → Option ℕ
innermost [] = none
innermost (b ∷ bs) = some b.opened_at

-- the eif of a branch: the first one at which no branch is open that was opened after the branch's own opener
abbrev pub eif_at : Flow → ℕ → ℕ → (ℕ → Option ℕ) → Option ℕ
eif_at plain inner n later = later inner
eif_at els inner n later = later inner
eif_at opener inner n later = later (suc inner)
eif_at eif zero n later = some n
eif_at eif (suc inner) n later = later inner

-- among these tokens, which are numbered from n
abbrev pub eif_from : ℕ → ℕ → List PathToken → Option ℕ
eif_from inner n [] = none
eif_from inner n (t ∷ ts) = eif_at t.flow inner n (λ i. eif_from i (suc n) ts)

-- "the eif of the same branch" as the opener n
abbrev pub eif_of : List PathToken → ℕ → Option ℕ
eif_of prog n = eif_from 0 (suc n) (drop (suc n) prog)

-- "A way ends with every branch closed when, for each opener it visits, it later visits the eif of the same branch."
abbrev pub Closes : List PathToken → List Visit → Type 0
Closes prog [] = Unit {0}
Closes prog (v ∷ later) =
    (v.token.flow ≡ opener → (e : ℕ) × (eif_of prog v.number ≡ some e) × Memᴰ e (map (λ u. u.number) later))
    × Closes prog later
