-- The state that the code keeps stands for the state of the check over paths.
-- Assumes nothing.
use Prim.Native.Nat.{ℕ, zero, suc, ◌≤◌, ◌<◌}
use mathlib.Core.Bool.{true, false}
use mathlib.Core.List.{List, [], ◌∷◌}
use mathlib.Core.Path.{◌≡◌, refl, ap, ap₂}
use native.Mathlib.Omega.{arith}
use lib.Dec.{ltb}
use lib.ListN.{length}
use borrow.Author.Tests.{lt-ltb, le-ltb}
use Rattle.layout.specs.declared.opcodes.Flow as code
use Rattle.layout.specs.declared.opcodes.Flow.TheVariants.{Plain, Opener, Els, Eif}
use Rattle.paths.specs.Paths.{els, eif}
use Rattle.paths.specs.Nesting as nesting
use Rattle.paths.specs.Nesting.{misplaced}
use Rattle.paths.specs.computed.Sets.{ComponentSet}
use Rattle.components.specs.Tokens.{path_flow}
use Rattle.components.specs.computed.Written.{component_set}
use Rattle.paths.specs.computed.Check as check
use Rattle.verifier.specs.computed.State.{start_state, branch_at, is_misplaced}
use Rattle.verifier.specs.declared.state.Branch.{Branch}
use Rattle.verifier.specs.declared.state.State.{State}

-- ---- what each part stands for

abbrev pub branch_of : Branch → nesting.Branch
branch_of b = record { opened_at = b.opener; els_met = b.els_met }

abbrev pub kept_of : Branch → ComponentSet
kept_of b = component_set b.kept

module _ {A : Type 0} (of : Branch → A) where
  -- the branches at the first d places, the last of them first
  abbrev pub below : (ℕ → Branch) → ℕ → List A
  below at zero = []
  below at (suc d) = of (at d) ∷ below at d

  -- the open branches, the innermost first
  abbrev pub open_in : Branch → (ℕ → Branch) → ℕ → List A
  open_in innermost at zero = []
  open_in innermost at (suc d) = of innermost ∷ below at d

  pub below_alike : (f g : ℕ → Branch) (d : ℕ) → ((i : ℕ) → i < d → f i ≡ g i) → below f d ≡ below g d
  below_alike f g zero same = refl
  below_alike f g (suc d) same = ap₂ (λ b bs. of b ∷ bs) (same d (omega arith)) (below_alike f g d (λ i h. same i (omega (arith, h))))

  below_length : (f : ℕ → Branch) (d : ℕ) → length (below f d) ≡ d
  below_length f zero = refl
  below_length f (suc d) = ap suc (below_length f d)

  pub open_length : (b : Branch) (f : ℕ → Branch) (d : ℕ) → length (open_in b f d) ≡ d
  open_length b f zero = refl
  open_length b f (suc d) = ap suc (below_length f d)

abbrev pub branches_in : State → List nesting.Branch
branches_in st = open_in branch_of st.innermost (branch_at st) st.depth

abbrev pub kept_in : State → List ComponentSet
kept_in st = open_in kept_of st.innermost (branch_at st) st.depth

abbrev pub abstract_of : State → check.State
abstract_of st = record { open_branches = branches_in st; current = component_set st.current; kept = kept_in st }

-- the array has room for 16 branches, and no more are open
pub record Valid (st : State) : Type 0 where
  pub depth : st.depth ≤ 16
  pub around : length st.around ≡ 16

pub valid_start : Valid start_state
valid_start = record { depth = omega arith; around = refl }

-- ---- 20

pub none_open : (st : State) → st.depth ≡ 0 → ltb st.depth 1 ≡ true
none_open st e = lt-ltb st.depth 1 (omega (arith, e))

pub some_open : (st : State) (d : ℕ) → st.depth ≡ suc d → ltb st.depth 1 ≡ false
some_open st d e = le-ltb st.depth 1 (omega (arith, e))

pub misplaced_is : (st : State) (f : code.Flow) → is_misplaced st f ≡ misplaced (path_flow f) (branches_in st)
misplaced_is st Plain = refl
misplaced_is st Opener = rw (open_length branch_of st.innermost (branch_at st) st.depth)
misplaced_is st Els = go st.depth refl
  where
    go : (n : ℕ) → st.depth ≡ n → is_misplaced st Els ≡ misplaced els (open_in branch_of st.innermost (branch_at st) n)
    go zero e = rw (none_open st e)
    go (suc d) e = rw (some_open st d e)
misplaced_is st Eif = go st.depth refl
  where
    go : (n : ℕ) → st.depth ≡ n → is_misplaced st Eif ≡ misplaced eif (open_in branch_of st.innermost (branch_at st) n)
    go zero e = none_open st e
    go (suc d) e = some_open st d e
