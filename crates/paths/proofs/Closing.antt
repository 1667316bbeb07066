-- On a program whose tokens are in place and whose branches are closed at the end, each path visits the eif of each opener it visits.
-- Assumes nothing.
use mathlib.Core.Path.{◌≡◌, refl, sym, ap}
use mathlib.Core.Bool.{Bool, true, false, true≢false}
use mathlib.Core.List.{List, [], ◌∷◌, Memᴰ, map, nil≢cons, tail-eq_of_cons-eq}
use mathlib.Core.Option.{Option, some}
use Prim.Native.Nat.{ℕ, zero, suc, ◌≤◌, ◌<◌}
use native.Mathlib.Omega.{arith}
use lib.ListN.{length, drop}
use Rattle.paths.specs.Paths.{Flow, plain, opener, els, eif, PathToken}
use Rattle.paths.specs.Paths.{Path, arrive, leave, Visit, visit_of, visit_at, visits_from, visited}
use Rattle.paths.specs.Nesting.{Branch, branches_after, open_branches_from, misplaced, misplaced_from, eif_at, eif_from, eif_of, Closes}

-- no token is out of place, and no branch is open at the end
pub record Closed (bs : List Branch) (n : ℕ) (ts : List PathToken) : Type 0 where
  pub placed : (j : ℕ) → j < length ts → misplaced_from bs n ts j ≡ false
  pub closed : open_branches_from bs n ts ≡ []

closed_later : {bs : List Branch} {n : ℕ} (t : PathToken) {ts : List PathToken} → Closed bs n (t ∷ ts)
    → Closed (branches_after t.flow n bs) (suc n) ts
closed_later t c = record { placed = λ j h. c.placed (suc j) (omega arith); closed = c.closed }

abbrev Among : ℕ → List Visit → Type 0
Among x vs = Memᴰ x (map (λ u. u.number) vs)

-- the eif is found, and it is visited
abbrev Met : Option ℕ → List Visit → Type 0
Met o vs = (x : ℕ) × (o ≡ some x) × Among x vs

met_later : (d : ℕ) (o : Option ℕ) (v : Visit) (vs : List Visit) → Met o vs → Met o (visit_at d v vs)
met_later zero o v vs (x, e, m) = (x, e, Memᴰ.tail m)
met_later (suc d) o v vs (x, e, m) = (x, e, m)

-- With i branches open inside a branch, a path that stands no further out than that branch comes to its eif.
module _ (n : ℕ) (v : Visit) (same : v.number ≡ n) (later : ℕ → Option ℕ) (vs : ℕ → List Visit) (b : Bool) where
  met_step : (f : Flow) (i d : ℕ) (bs : List Branch) → i < length bs → d ≤ suc i → misplaced f bs ≡ false
      → ((j e : ℕ) → j < length (branches_after f n bs) → e ≤ suc j → Met (later j) (vs e))
      → Met (eif_at f i n later) (visit_at (arrive f d) v (vs (leave f b (arrive f d))))
  met_step plain i d bs h l z ih = met_later d (later i) v (vs d) (ih i d h l)
  met_step opener i zero bs h l z ih = met_later 0 (later (suc i)) v (vs _) (go b)
    where
      go : (b : Bool) → Met (later (suc i)) (vs (leave opener b 0))
      go true = ih (suc i) 0 (omega arith) (omega arith)
      go false = ih (suc i) 1 (omega arith) (omega arith)
  met_step opener i (suc d) bs h l z ih =
      met_later (suc d) (later (suc i)) v (vs _) (ih (suc i) (suc (suc d)) (omega arith) (omega arith))
  met_step els i d [] h l z ih = absurd (true≢false z)
  met_step els i zero (c ∷ bs) h l z ih = met_later 1 (later i) v (vs 1) (ih i 1 h (omega arith))
  met_step els i (suc zero) (c ∷ bs) h l z ih = met_later 0 (later i) v (vs 0) (ih i 0 h (omega arith))
  met_step els i (suc (suc d)) (c ∷ bs) h l z ih = met_later (suc (suc d)) (later i) v (vs (suc (suc d))) (ih i (suc (suc d)) h l)
  met_step eif i d [] h l z ih = absurd (true≢false z)
  met_step eif zero zero (c ∷ bs) h l z ih = (n, refl, Memᴰ.head (sym same))
  met_step eif zero (suc zero) (c ∷ bs) h l z ih = (n, refl, Memᴰ.head (sym same))
  met_step eif zero (suc (suc d)) (c ∷ bs) h l z ih = absurd (omega arith)
  met_step eif (suc i) zero (c ∷ bs) h l z ih = met_later 0 (later i) v (vs 0) (ih i 0 (omega arith) (omega arith))
  met_step eif (suc i) (suc d) (c ∷ bs) h l z ih = met_later d (later i) v (vs d) (ih i d (omega arith) (omega arith))

met : (ts : List PathToken) (bs : List Branch) (n : ℕ) → Closed bs n ts → (p : Path) (i d : ℕ) → i < length bs → d ≤ suc i
    → Met (eif_from i n ts) (visits_from p d n ts)
met [] bs n c p i d h l = let e = ap length c.closed in absurd (omega arith)
met (t ∷ ts) bs n c p i d h l =
    met_step n (visit_of n t) refl (λ j. eif_from j (suc n) ts) (λ e. visits_from p e (suc n) ts) (p n) t.flow i d bs h l
    (c.placed 0 (omega arith)) (λ j e k m. met ts _ (suc n) (closed_later t c) p j e k m)

pub drop_next : (prog : List PathToken) (n : ℕ) (t : PathToken) (ts : List PathToken) → drop n prog ≡ t ∷ ts → drop (suc n) prog ≡ ts
drop_next [] zero t ts e = absurd (nil≢cons e)
drop_next [] (suc n) t ts e = absurd (nil≢cons e)
drop_next (x ∷ xs) zero t ts e = tail-eq_of_cons-eq e
drop_next (x ∷ xs) (suc n) t ts e = drop_next xs n t ts e

closes_from : (prog ts : List PathToken) (bs : List Branch) (n : ℕ) → drop n prog ≡ ts → Closed bs n ts → (p : Path) (d : ℕ)
    → Closes prog (visits_from p d n ts)
closes_from prog [] bs n q c p d = tt
closes_from prog (t ∷ ts) bs n q c p d =
    go (arrive t.flow d) (closes_from prog ts _ (suc n) (drop_next prog n t ts q) (closed_later t c) p _)
    (λ k. rw (drop_next prog n t ts q) (met ts _ (suc n) (closed_later t c) p 0 _ (rw k (omega arith)) (rw k (first (p n)))))
  where
    first : (b : Bool) → leave opener b 0 ≤ 1
    first true = omega arith
    first false = omega arith

    go : (a : ℕ) → Closes prog (visits_from p (leave t.flow (p n) a) (suc n) ts)
        → (t.flow ≡ opener → Met (eif_of prog n) (visits_from p (leave t.flow (p n) 0) (suc n) ts))
        → Closes prog (visit_at a (visit_of n t) (visits_from p (leave t.flow (p n) a) (suc n) ts))
    go zero c m = (m, c)
    go (suc a) c m = c

pub closes : (prog : List PathToken) → Closed [] 0 prog → (p : Path) → Closes prog (visited p prog)
closes prog c p = closes_from prog prog [] 0 refl c p 0
