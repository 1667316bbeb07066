-- The faults of a program from its middle on, and how they shift by one token.
-- Assumes nothing.
use mathlib.Core.Path.{◌≡◌, ◌∙◌}
use mathlib.Core.Bool.{Bool, false}
use mathlib.Core.List.{List, ◌∷◌}
use mathlib.Core.Logic.{inl, inr, ◌↔◌}
use mathlib.Core.Option.{Option}
use Prim.Native.Nat.{ℕ, zero, suc, ◌+◌, ◌<◌}
use native.Mathlib.Omega.{arith}
use native.Mathlib.Nat.{zero-add}
use lib.ListN.{take}
use Rattle.paths.specs.Paths.{Source, source1, source2, TokenFault, PathToken}
use Rattle.paths.specs.Paths.{Path, arrive, leave, Visit, visit_of, visit_at, visits_from}
use Rattle.paths.specs.Unwritten.{SomePathReads}
use Rattle.paths.specs.computed.Sets.{ComponentSet, nothing}
use Rattle.paths.specs.Nesting.{misplaced_from}
use Rattle.paths.specs.Faults.{NoFault, FaultIs, token_fault_at, Clean, FaultAt}
use Rattle.paths.specs.computed.Check.{State, next_state, start}
use Rattle.paths.proofs.Levels.{written_at}
use Rattle.paths.proofs.Threaded.{ReadsFrom, threaded_is_sentence}

-- Between two tokens: the number of the next one, the state of the check, where each path stands and what it has written.
pub record Middle : Type 0 where
  pub number : ℕ
  pub state : State
  pub position : Path → ℕ
  pub written : Path → ComponentSet

abbrev pub begin : Middle
begin = record { number = 0; state = start; position = λ p. 0; written = λ p. nothing }

abbrev pub past : PathToken → Middle → Middle
past t m = record {
  number = suc m.number;
  state = next_state m.state m.number t;
  position = λ p. leave t.flow (p m.number) (arrive t.flow (m.position p));
  written = λ p. written_at (arrive t.flow (m.position p)) (m.written p) t.writes;
}

-- the number of the i-th token from token n on
abbrev pub number_from : ℕ → ℕ → ℕ
number_from n zero = n
number_from n (suc i) = number_from (suc n) i

pub number_from_lem : (n i : ℕ) → number_from n i ≡ n + i
number_from_lem n zero = omega arith
number_from_lem n (suc i) = number_from_lem (suc n) i ∙ omega arith

pub number_begin : (i : ℕ) → number_from 0 i ≡ i
number_begin i = number_from_lem 0 i ∙ zero-add i

-- ---- a read at the i-th of the tokens that are left

abbrev pub SomeReads : Middle → Source → List PathToken → ℕ → Type 0
SomeReads m s ts i =
    (p : Path) × ReadsFrom (m.written p) s (number_from m.number i) (visits_from p (m.position p) m.number (take (suc i) ts))

-- a read at a later token does not see this one, but for what it wrote
tail_on : (w : ComponentSet) (s : Source) (k n : ℕ) (t : PathToken) (vs : List Visit) → n < k → (d : ℕ)
    → ReadsFrom w s k (visit_at d (visit_of n t) vs) → ReadsFrom (written_at d w t.writes) s k vs
tail_on w s k n t vs h zero (inl q) = let e = q.0 in absurd (omega arith)
tail_on w s k n t vs h zero (inr r) = r
tail_on w s k n t vs h (suc d) r = r

tail_off : (w : ComponentSet) (s : Source) (k n : ℕ) (t : PathToken) (vs : List Visit) (d : ℕ)
    → ReadsFrom (written_at d w t.writes) s k vs → ReadsFrom w s k (visit_at d (visit_of n t) vs)
tail_off w s k n t vs zero r = inr r
tail_off w s k n t vs (suc d) r = r

reads_later : (t : PathToken) (m : Middle) (s : Source) (ts : List PathToken) (i : ℕ)
    → SomeReads (past t m) s ts i ↔ SomeReads m s (t ∷ ts) (suc i)
reads_later t m s ts i = (off, on)
  where
    off : SomeReads (past t m) s ts i → SomeReads m s (t ∷ ts) (suc i)
    off (p, r) = (p, tail_off (m.written p) s _ m.number t _ (arrive t.flow (m.position p)) r)

    on : SomeReads m s (t ∷ ts) (suc i) → SomeReads (past t m) s ts i
    on (p, r) =
        let e = number_from_lem (suc m.number) i in
        (p, tail_on (m.written p) s _ m.number t _ (omega arith) (arrive t.flow (m.position p)) r)

reads_begin : (s : Source) (prog : List PathToken) (n : ℕ) → SomeReads begin s prog n ↔ SomePathReads s prog n
reads_begin s prog n = (
  λ r. (r.0, (threaded_is_sentence s n _).0 (rw number_begin at r.1)),
  λ r. (r.0, rw number_begin ((threaded_is_sentence s n _).1 r.1)),
)

-- ---- faults carried from one notion of reading to another

module _ {f : Option TokenFault} {b : Bool} {R Q : Source → Type 0} where
  pub no_fault_map : ((s : Source) → R s ↔ Q s) → NoFault f b R → NoFault f b Q
  no_fault_map e (x, y, z) = (x, y, λ s q. z s ((e s).1 q))

  pub fault_map : (b ≡ false → (s : Source) → R s ↔ Q s) → {number part : ℕ}
      → FaultIs f b R number part → FaultIs f b Q number part
  fault_map e (inl x) = inl x
  fault_map e (inr (inl x)) = inr (inl x)
  fault_map e (inr (inr (n, x, y, inl (h, r)))) = inr (inr (n, x, y, inl (h, (e y source1).0 r)))
  fault_map e (inr (inr (n, x, y, inr (h, z, r)))) = inr (inr (n, x, y, inr (h, λ q. z ((e y source1).1 q), (e y source2).0 r)))

-- ---- the faults of the i-th of the tokens that are left

abbrev pub CleanFrom : Middle → List PathToken → ℕ → Type 0
CleanFrom m ts i = NoFault (token_fault_at ts i) (misplaced_from m.state.open_branches m.number ts i) (λ s. SomeReads m s ts i)

abbrev pub FaultFrom : Middle → List PathToken → ℕ → ℕ → ℕ → Type 0
FaultFrom m ts i number part =
    FaultIs (token_fault_at ts i) (misplaced_from m.state.open_branches m.number ts i) (λ s. SomeReads m s ts i) number part

module _ (t : PathToken) (m : Middle) (ts : List PathToken) (i : ℕ) where
  pub clean_later : CleanFrom (past t m) ts i → CleanFrom m (t ∷ ts) (suc i)
  clean_later c = no_fault_map (λ s. reads_later t m s ts i) c

  pub fault_later : {number part : ℕ} → FaultFrom (past t m) ts i number part → FaultFrom m (t ∷ ts) (suc i) number part
  fault_later f = fault_map (λ e s. reads_later t m s ts i) f

module _ (prog : List PathToken) (n : ℕ) where
  pub clean_begin : CleanFrom begin prog n → Clean prog n
  clean_begin c = no_fault_map (λ s. reads_begin s prog n) c

  pub fault_begin : {number part : ℕ} → FaultFrom begin prog n number part → FaultAt prog n number part
  fault_begin f = fault_map (λ e s. reads_begin s prog n) f
