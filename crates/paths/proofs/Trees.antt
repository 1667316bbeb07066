-- `visited` is document 01's walk over the tree of a program, also of one cut short.
-- Assumes nothing.
use mathlib.Core.Path.{◌≡◌, refl, ap, ◌∙◌}
use mathlib.Core.Bool.{Bool, true, false, cond}
use mathlib.Core.List.{List, [], ◌∷◌}
use Prim.Native.Nat.{ℕ, suc}
use Rattle.paths.specs.Paths.{Flow, opener, PathToken, Path, arrive, leave, Visit, visit_of, visit_at, visits_from, visited}
use Rattle.paths.specs.Trees.{Block, empty, token, branch, branch_els, Cut, whole, in_first, in_second}
use Rattle.paths.specs.Trees.{BlockFits, CutFits, block_tokens, cut_tokens, after, walk, cut_walk}

module _ (p : Path) where
  -- a block inside what is skipped is skipped
  skips : (d : ℕ) (b : Block) → BlockFits b → (n : ℕ) (rest : List PathToken)
      → visits_from p (suc d) n (block_tokens b rest) ≡ visits_from p (suc d) (after n b) rest
  skips d empty h n rest = refl
  skips d (token t r) (k, h) n rest = rw k (skips d r h (suc n) rest)
  skips d (branch o b f r) (k, hb, l, hr) n rest =
      rw k (skips (suc d) b hb (suc n) (f ∷ block_tokens r rest) ∙ rw l (skips d r hr (suc (after (suc n) b)) rest))
  skips d (branch_els o b e c f r) (k, hb, j, hc, l, hr) n rest =
      rw k (skips (suc d) b hb (suc n) (e ∷ block_tokens c (f ∷ block_tokens r rest))
      ∙ rw j (skips (suc d) c hc (suc (after (suc n) b)) (f ∷ block_tokens r rest)
      ∙ rw l (skips d r hr (suc (after (suc (after (suc n) b)) c)) rest)))

  -- after an opener the path visits the first block and goes on, or skips it and goes on
  parts : (n : ℕ) (b : Block) → BlockFits b → (ts : List PathToken) (x y : List Visit)
      → visits_from p 0 (suc n) (block_tokens b ts) ≡ x → visits_from p 1 (after (suc n) b) ts ≡ y → (c : Bool)
      → visits_from p (leave opener c 0) (suc n) (block_tokens b ts) ≡ cond c x y
  parts n b h ts x y visits skipped true = visits
  parts n b h ts x y visits skipped false = skips 0 b h (suc n) ts ∙ skipped

  -- one token, what it does to branches known
  step : (d n : ℕ) (t : PathToken) (ts : List PathToken) {k : Flow} → t.flow ≡ k
      → visits_from p d n (t ∷ ts) ≡ visit_at (arrive k d) (visit_of n t) (visits_from p (leave k (p n) (arrive k d)) (suc n) ts)
  step d n t ts e = ap (λ k. visit_at (arrive k d) (visit_of n t) (visits_from p (leave k (p n) (arrive k d)) (suc n) ts)) e

  -- one visited token, and then the rest
  then : (d n : ℕ) (t : PathToken) (ts : List PathToken) {k : Flow} → t.flow ≡ k → arrive k d ≡ 0 → (x : List Visit)
      → visits_from p (leave k (p n) 0) (suc n) ts ≡ x → visits_from p d n (t ∷ ts) ≡ visit_of n t ∷ x
  then d n t ts {k} e a x later =
      step d n t ts e ∙ ap (λ z. visit_at z (visit_of n t) (visits_from p (leave k (p n) z) (suc n) ts)) a
      ∙ ap (λ l. visit_of n t ∷ l) later

  walks : (b : Block) → BlockFits b → (n : ℕ) (rest : List PathToken)
      → visits_from p 0 n (block_tokens b rest) ≡ walk p n b (visits_from p 0 (after n b) rest)
  walks empty h n rest = refl
  walks (token t r) (k, h) n rest = then 0 n t (block_tokens r rest) k refl _ (walks r h (suc n) rest)
  walks (branch o b f r) (k, hb, l, hr) n rest =
      let m = after (suc n) b in
      let ts = f ∷ block_tokens r rest in
      let end = walks r hr (suc m) rest in
      then 0 n o (block_tokens b ts) k refl _ (parts n b hb ts _ _
      (walks b hb (suc n) ts ∙ ap (walk p (suc n) b) (then 0 m f (block_tokens r rest) l refl _ end))
      (then 1 m f (block_tokens r rest) l refl _ end) (p n))
  walks (branch_els o b e c f r) (k, hb, j, hc, l, hr) n rest =
      let m = after (suc n) b in
      let i = after (suc m) c in
      let us = f ∷ block_tokens r rest in
      let ts = e ∷ block_tokens c us in
      let end = walks r hr (suc i) rest in
      then 0 n o (block_tokens b ts) k refl _ (parts n b hb ts _ _
      (walks b hb (suc n) ts ∙ ap (walk p (suc n) b)
      (step 0 m e (block_tokens c us) j ∙ skips 0 c hc (suc m) us ∙ then 1 i f (block_tokens r rest) l refl _ end))
      (then 1 m e (block_tokens c us) j refl _ (walks c hc (suc m) us
      ∙ ap (walk p (suc m) c) (then 0 i f (block_tokens r rest) l refl _ end))) (p n))

  cut_skips : (d : ℕ) (q : Cut) → CutFits q → (n : ℕ) → visits_from p (suc d) n (cut_tokens q) ≡ []
  cut_skips d (whole b) h n = skips d b h n []
  cut_skips d (in_first b o q) (hb, k, hq) n =
      skips d b hb n (o ∷ cut_tokens q) ∙ step (suc d) (after n b) o (cut_tokens q) k ∙ cut_skips (suc d) q hq (suc (after n b))
  cut_skips d (in_second b o c e q) (hb, k, hc, j, hq) n =
      let m = after n b in
      let ts = e ∷ cut_tokens q in
      skips d b hb n (o ∷ block_tokens c ts) ∙ step (suc d) m o (block_tokens c ts) k ∙ skips (suc d) c hc (suc m) ts
      ∙ step (suc (suc d)) (after (suc m) c) e (cut_tokens q) j ∙ cut_skips (suc d) q hq (suc (after (suc m) c))

  cut_walks : (q : Cut) → CutFits q → (n : ℕ) → visits_from p 0 n (cut_tokens q) ≡ cut_walk p n q
  cut_walks (whole b) h n = walks b h n []
  cut_walks (in_first b o q) (hb, k, hq) n =
      let m = after n b in
      walks b hb n (o ∷ cut_tokens q)
      ∙ ap (walk p n b) (then 0 m o (cut_tokens q) k refl _
      (parts m empty tt (cut_tokens q) _ _ (cut_walks q hq (suc m)) (cut_skips 0 q hq (suc m)) (p m)))
  cut_walks (in_second b o c e q) (hb, k, hc, j, hq) n =
      let m = after n b in
      let i = after (suc m) c in
      let ts = e ∷ cut_tokens q in
      walks b hb n (o ∷ block_tokens c ts)
      ∙ ap (walk p n b) (then 0 m o (block_tokens c ts) k refl _
      (parts m c hc ts _ _
      (walks c hc (suc m) ts ∙ ap (walk p (suc m) c) (step 0 i e (cut_tokens q) j ∙ cut_skips 0 q hq (suc i)))
      (then 1 i e (cut_tokens q) j refl _ (cut_walks q hq (suc i))) (p m)))

pub visited_is_walk : (p : Path) (q : Cut) → CutFits q → visited p (cut_tokens q) ≡ cut_walk p 0 q
visited_is_walk p q h = cut_walks p q h 0
