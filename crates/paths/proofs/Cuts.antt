-- A read on a path is a read on the program cut short after it, and it is at one of the tokens.
-- Assumes nothing.
use mathlib.Core.Path.{◌≡◌, refl, sym, ◌∙◌, subst⁻¹}
use mathlib.Core.List.{List, [], ◌∷◌}
use mathlib.Core.Logic.{inl, inr}
use Prim.Native.Nat.{ℕ, zero, suc, ◌<◌}
use native.Mathlib.Omega.{arith}
use lib.ListN.{length, take}
use Rattle.paths.specs.Paths.{Source, PathToken, Path, arrive, leave, visit_of, visit_at, visits_from, visited}
use Rattle.paths.specs.Unwritten.{ReadsUnwritten}
use Rattle.paths.specs.computed.Sets.{ComponentSet, nothing}
use Rattle.paths.proofs.Levels.{written_at}
use Rattle.paths.proofs.Middle.{number_from, number_begin}
use Rattle.paths.proofs.Threaded.{ReadsFrom, threaded_is_sentence}

-- the read is at the i-th of these tokens, which are numbered from n, and it is there when they are cut short after that one
abbrev ReadsCut : Path → Source → ℕ → ComponentSet → ℕ → ℕ → List PathToken → Type 0
ReadsCut p s k w d n ts = (i : ℕ) × (i < length ts) × (k ≡ number_from n i) × ReadsFrom w s k (visits_from p d n (take (suc i) ts))

module _ (p : Path) (s : Source) (k : ℕ) where
  cut_step : (w : ComponentSet) (d n : ℕ) (t : PathToken) (ts : List PathToken) (a : ℕ) → arrive t.flow d ≡ a
      → (ReadsFrom (written_at a w t.writes) s k (visits_from p (leave t.flow (p n) a) (suc n) ts)
      → ReadsCut p s k (written_at a w t.writes) (leave t.flow (p n) a) (suc n) ts)
      → ReadsFrom w s k (visit_at a (visit_of n t) (visits_from p (leave t.flow (p n) a) (suc n) ts))
      → ReadsCut p s k w d n (t ∷ ts)
  cut_step w d n t ts zero e ih (inl (q, l)) = (0, omega arith, sym q, rw e (inl (q, l)))
  cut_step w d n t ts zero e ih (inr r) =
      let (i, h, q, z) = ih r in
      (suc i, omega arith, q, rw e (inr z))
  cut_step w d n t ts (suc a) e ih r =
      let (i, h, q, z) = ih r in
      (suc i, omega arith, q, rw e z)

  reads_cut : (ts : List PathToken) (w : ComponentSet) (d n : ℕ) → ReadsFrom w s k (visits_from p d n ts) → ReadsCut p s k w d n ts
  reads_cut [] w d n r = absurd r
  reads_cut (t ∷ ts) w d n r = cut_step w d n t ts (arrive t.flow d) refl (λ z. reads_cut ts _ _ (suc n) z) r

-- the same in document 01's words
pub unwritten_cut : (prog : List PathToken) (p : Path) (s : Source) (n : ℕ) → ReadsUnwritten s n (visited p prog)
    → (n < length prog) × ReadsUnwritten s n (visited p (take (suc n) prog))
unwritten_cut prog p s n r =
    let (i, h, e, z) = reads_cut p s n prog nothing 0 0 ((threaded_is_sentence s n (visited p prog)).1 r) in
    let q : n ≡ i = e ∙ number_begin i in (
      omega arith,
      (threaded_is_sentence s n _).0 (subst⁻¹ (λ k. ReadsFrom nothing s n (visited p (take (suc k) prog))) q z),
    )
