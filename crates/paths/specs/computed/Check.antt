-- The check, as a definition that computes: one set of written components at hand, and one kept for each open branch.
-- Nobody has to believe it: what it answers is stated in Demand, over the paths.
use Rattle.std.specs.Prelude.{Bool, true, false, not, ◌&&◌, ◌||◌, List, [], ◌∷◌, ℕ, suc}
use Rattle.std.proofs.Math.Option.{Option, none, some}
use Rattle.paths.specs.Paths.{Flow, plain, opener, els, eif, source1, source2, TokenFault, PathToken}
use Rattle.paths.specs.computed.Sets.{ComponentSet, nothing, adds}
use Rattle.paths.specs.Nesting.{Branch, branches_after, misplaced}
use Rattle.paths.specs.Faults.{Answer, accepted, refused}

-- "The check keeps a set of written components for each of the 16 open branches": what the other block of a branch, or the token before
-- its opener, has written
pub record State : Type 0 where
  pub open_branches : List Branch
  pub current : ComponentSet
  pub kept : List ComponentSet

-- The set at hand as a token is met: els takes up the set from before the branch, eif joins the sets of both blocks.
abbrev pub current_at : Flow → ComponentSet → List ComponentSet → ComponentSet
current_at plain s ks = s
current_at opener s ks = s
current_at els s [] = s
current_at els s (k ∷ ks) = k
current_at eif s [] = s
current_at eif s (k ∷ ks) = λ c. s c && k c

-- The kept sets then: els keeps the set of the first block, eif needs its branch's no more.
abbrev pub kept_at : Flow → ComponentSet → List ComponentSet → List ComponentSet
kept_at plain s ks = ks
kept_at opener s ks = ks
kept_at els s [] = []
kept_at els s (k ∷ ks) = s ∷ ks
kept_at eif s [] = []
kept_at eif s (k ∷ ks) = ks

-- After an opener its set is kept for the other side.
abbrev pub kept_after : Flow → ComponentSet → List ComponentSet → List ComponentSet
kept_after plain s ks = ks
kept_after opener s ks = s ∷ ks
kept_after els s ks = ks
kept_after eif s ks = ks

-- "Reads happen before the token's write": the set that a token's reads are tested against
abbrev pub set_before : PathToken → State → ComponentSet
set_before t st = current_at t.flow st.current st.kept

-- and the one after its writes
abbrev pub set_after : PathToken → State → ComponentSet
set_after t st = adds (set_before t st) t.writes

-- "its state takes a token and hands the next state back"
abbrev pub next_state : State → ℕ → PathToken → State
next_state st n t = record {
  open_branches = branches_after t.flow n st.open_branches;
  current = set_after t st;
  kept = kept_after t.flow (set_after t st) (kept_at t.flow st.current st.kept);
}

-- the set lacks some component of the list
abbrev pub lacks : ComponentSet → List ℕ → Bool
lacks s [] = false
lacks s (c ∷ cs) = not (s c) || lacks s cs

-- "Check order": the first fault of token n, 9 to 19, 20, 21 through source 1, 21 through source 2; else what comes after it
abbrev pub judge : Option TokenFault → Bool → Bool → Bool → ℕ → Answer → Answer
judge (some f) stray lacks1 lacks2 n later = refused f.number n f.part
judge none true lacks1 lacks2 n later = refused 20 n 0
judge none false true lacks2 n later = refused 21 n 2
judge none false false true n later = refused 21 n 3
judge none false false false n later = later

-- "22 comes last", at the innermost open opener
abbrev pub ending : List Branch → Answer
ending [] = accepted
ending (b ∷ bs) = refused 22 b.opened_at 0

-- the answer from a state, over the tokens that are left, which are numbered from n
unfoldable pub check_from : State → ℕ → List PathToken → Answer
check_from st n [] = ending st.open_branches
check_from st n (t ∷ ts) =
    judge t.fault (misplaced t.flow st.open_branches)
    (lacks (set_before t st) (t.reads source1)) (lacks (set_before t st) (t.reads source2))
    n (check_from (next_state st n t) (suc n) ts)

-- "A way starts with no component of any temporary register written"
abbrev pub start : State
start = record { open_branches = []; current = nothing; kept = [] }

-- the answer to a program
abbrev pub verdict_of : List PathToken → Answer
verdict_of prog = check_from start 0 prog
