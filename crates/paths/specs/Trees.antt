-- Document 01, "Ways, reads and writes": its sentences on branches once more, over programs as trees. Adequate says that Paths and Nesting
-- agree with them.
use Rattle.std.specs.Prelude.{cond, List, [], ◌∷◌, ◌⊎◌, ◌≡◌, ℕ, suc, max}
use Rattle.std.proofs.Math.Option.{Option, some}
use Rattle.paths.specs.Paths.{plain, opener, els, eif, PathToken, Path, Visit, visit_of}

-- "A branch is an opener, a block, perhaps els and a second block, then eif." What follows the token or the branch stands last.
pub data Block : Type 0 where
  empty : Block
  token : PathToken → Block → Block
  branch : PathToken → Block → PathToken → Block → Block
  branch_els : PathToken → Block → PathToken → Block → PathToken → Block → Block

-- "a program cut short": a block; or a block and then an opener whose first block, or whose second, is cut short
pub data Cut : Type 0 where
  whole : Block → Cut
  in_first : Block → PathToken → Cut → Cut
  in_second : Block → PathToken → Block → PathToken → Cut → Cut

-- each token is what its place asks for
abbrev pub BlockFits : Block → Type 0
BlockFits empty = Unit {0}
BlockFits (token t r) = (t.flow ≡ plain) × BlockFits r
BlockFits (branch o b f r) = (o.flow ≡ opener) × BlockFits b × (f.flow ≡ eif) × BlockFits r
BlockFits (branch_els o b e c f r) =
    (o.flow ≡ opener) × BlockFits b × (e.flow ≡ els) × BlockFits c × (f.flow ≡ eif) × BlockFits r

-- the same of a program cut short
abbrev pub CutFits : Cut → Type 0
CutFits (whole b) = BlockFits b
CutFits (in_first b o p) = BlockFits b × (o.flow ≡ opener) × CutFits p
CutFits (in_second b o c e p) = BlockFits b × (o.flow ≡ opener) × BlockFits c × (e.flow ≡ els) × CutFits p

-- the tokens of a block, and then these
abbrev pub block_tokens : Block → List PathToken → List PathToken
block_tokens empty rest = rest
block_tokens (token t r) rest = t ∷ block_tokens r rest
block_tokens (branch o b f r) rest = o ∷ block_tokens b (f ∷ block_tokens r rest)
block_tokens (branch_els o b e c f r) rest = o ∷ block_tokens b (e ∷ block_tokens c (f ∷ block_tokens r rest))

-- the tokens of a program cut short
abbrev pub cut_tokens : Cut → List PathToken
cut_tokens (whole b) = block_tokens b []
cut_tokens (in_first b o p) = block_tokens b (o ∷ cut_tokens p)
cut_tokens (in_second b o c e p) = block_tokens b (o ∷ block_tokens c (e ∷ cut_tokens p))

-- the number of the token after a block that begins at n
abbrev pub after : ℕ → Block → ℕ
after n empty = n
after n (token t r) = after (suc n) r
after n (branch o b f r) = after (suc (after (suc n) b)) r
after n (branch_els o b e c f r) = after (suc (after (suc (after (suc n) b)) c)) r

-- "Yes visits opener, first block, eif. No visits opener, els and second block if present, eif": the visits of a path to a block that
-- begins at n, and then these
abbrev pub walk : Path → ℕ → Block → List Visit → List Visit
walk p n empty later = later
walk p n (token t r) later = visit_of n t ∷ walk p (suc n) r later
walk p n (branch o b f r) later =
    let m = after (suc n) b in
    let end = visit_of m f ∷ walk p (suc m) r later in
    visit_of n o ∷ cond (p n) (walk p (suc n) b end) end
walk p n (branch_els o b e c f r) later =
    let m = after (suc n) b in
    let k = after (suc m) c in
    let end = visit_of k f ∷ walk p (suc k) r later in
    visit_of n o ∷ cond (p n) (walk p (suc n) b end) (visit_of m e ∷ walk p (suc m) c end)

-- "On a program cut short it visits what is there."
abbrev pub cut_walk : Path → ℕ → Cut → List Visit
cut_walk p n (whole b) = walk p n b []
cut_walk p n (in_first b o q) =
    let m = after n b in
    walk p n b (visit_of m o ∷ cond (p m) (cut_walk p (suc m) q) [])
cut_walk p n (in_second b o c e q) =
    let m = after n b in
    let k = after (suc m) c in
    walk p n b (visit_of m o ∷ cond (p m) (walk p (suc m) c []) (visit_of k e ∷ cut_walk p (suc k) q))

-- how many branches of a block are open at once
abbrev pub block_depth : Block → ℕ
block_depth empty = 0
block_depth (token t r) = block_depth r
block_depth (branch o b f r) = max (suc (block_depth b)) (block_depth r)
block_depth (branch_els o b e c f r) = max (suc (max (block_depth b) (block_depth c))) (block_depth r)

-- the same of a program cut short
abbrev pub cut_depth : Cut → ℕ
cut_depth (whole b) = block_depth b
cut_depth (in_first b o q) = max (block_depth b) (suc (cut_depth q))
cut_depth (in_second b o c e q) = max (block_depth b) (suc (max (block_depth c) (cut_depth q)))

-- in a block that begins at n, token i opens a branch, and the eif of that branch is token j
abbrev pub HasBranch : ℕ → ℕ → ℕ → Block → Type 0
HasBranch i j n empty = ⊥
HasBranch i j n (token t r) = HasBranch i j (suc n) r
HasBranch i j n (branch o b f r) =
    let m = after (suc n) b in
    ((i ≡ n) × (j ≡ m)) ⊎ HasBranch i j (suc n) b ⊎ HasBranch i j (suc m) r
HasBranch i j n (branch_els o b e c f r) =
    let m = after (suc n) b in
    let k = after (suc m) c in
    ((i ≡ n) × (j ≡ k)) ⊎ HasBranch i j (suc n) b ⊎ HasBranch i j (suc m) c ⊎ HasBranch i j (suc k) r

-- the same of a program cut short, whose branches are not all cut short
abbrev pub CutHasBranch : ℕ → ℕ → ℕ → Cut → Type 0
CutHasBranch i j n (whole b) = HasBranch i j n b
CutHasBranch i j n (in_first b o q) = HasBranch i j n b ⊎ CutHasBranch i j (suc (after n b)) q
CutHasBranch i j n (in_second b o c e q) =
    let m = after n b in
    HasBranch i j n b ⊎ HasBranch i j (suc m) c ⊎ CutHasBranch i j (suc (after (suc m) c)) q

-- token i opens a branch that is cut short
abbrev pub LeavesOpen : ℕ → ℕ → Cut → Type 0
LeavesOpen i n (whole b) = ⊥
LeavesOpen i n (in_first b o q) = (i ≡ after n b) ⊎ LeavesOpen i (suc (after n b)) q
LeavesOpen i n (in_second b o c e q) = (i ≡ after n b) ⊎ LeavesOpen i (suc (after (suc (after n b)) c)) q

-- the innermost opener of a branch that is cut short, where any is; else this one
abbrev pub innermost_left : Option ℕ → ℕ → Cut → Option ℕ
innermost_left outer n (whole b) = outer
innermost_left outer n (in_first b o q) = let m = after n b in innermost_left (some m) (suc m) q
innermost_left outer n (in_second b o c e q) = let m = after n b in innermost_left (some m) (suc (after (suc m) c)) q
