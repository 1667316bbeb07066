-- Fault 20 on trees: a tree at most sixteen deep has no token out of place, and one with no token out of place is at most sixteen deep.
-- Assumes nothing.
use mathlib.Core.Path.{◌≡◌, refl, sym, ap, ◌∙◌}
use mathlib.Core.Bool.{Bool, true, false}
use mathlib.Core.List.{List, [], ◌∷◌}
use Prim.Native.Nat.{ℕ, zero, suc, ◌+◌, ◌-◌, ◌≤◌, ◌<◌, max}
use native.Mathlib.Nat.{le-max_left, le-max_right, max-le}
use native.Mathlib.Omega.{arith}
use lib.ListN.{length}
use borrow.Author.Tests.{lt-leb, leb-false}
use Rattle.paths.specs.Paths.{Flow, opener, PathToken}
use Rattle.paths.specs.Nesting.{Branch, branches_after, misplaced, misplaced_from}
use Rattle.paths.specs.Trees.{Block, empty, token, branch, branch_els, Cut, whole, in_first, in_second}
use Rattle.paths.specs.Trees.{BlockFits, CutFits, block_tokens, cut_tokens, after, block_depth, cut_depth}

-- none of these tokens, which are numbered from n, is out of place
pub record Placed (bs : List Branch) (n : ℕ) (ts : List PathToken) : Type 0 where
  pub placed : (j : ℕ) → misplaced_from bs n ts j ≡ false

-- one token, what it does to branches known
module _ {k : Flow} (t : PathToken) (e : t.flow ≡ k) {ts : List PathToken} (bs : List Branch) (n : ℕ) where
  placed_cons : misplaced k bs ≡ false → Placed (branches_after k n bs) (suc n) ts → Placed bs n (t ∷ ts)
  placed_cons h later = record { placed = go }
    where
      go : (j : ℕ) → misplaced_from bs n (t ∷ ts) j ≡ false
      go zero = ap (λ f. misplaced f bs) e ∙ h
      go (suc j) = ap (λ f. misplaced_from (branches_after f n bs) (suc n) ts j) e ∙ later.placed j

  placed_head : Placed bs n (t ∷ ts) → misplaced k bs ≡ false
  placed_head h = ap (λ f. misplaced f bs) (sym e) ∙ h.placed 0

  placed_tail : Placed bs n (t ∷ ts) → Placed (branches_after k n bs) (suc n) ts
  placed_tail h = record { placed = λ j. ap (λ f. misplaced_from (branches_after f n bs) (suc n) ts j) (sym e) ∙ h.placed (suc j) }

-- an opener with fewer than sixteen branches open is in place
room : (bs : List Branch) → length bs < 16 → misplaced opener bs ≡ false
room bs h = lt-leb 16 (length bs) h

-- the branches inside a branch that token n opened
abbrev inside : ℕ → Bool → List Branch → List Branch
inside n els_met bs = record { opened_at = n; els_met = els_met } ∷ bs

-- so many branches are open, and so many more are to be opened
module _ (opened a b : ℕ) where
  deep_left : opened + max a b ≤ 16 → opened + a ≤ 16
  deep_left h = let x = le-max_left a b in omega arith

  deep_right : opened + max a b ≤ 16 → opened + b ≤ 16
  deep_right h = let x = le-max_right a b in omega arith

  deep_both : opened + a ≤ 16 → opened + b ≤ 16 → opened + max a b ≤ 16
  deep_both h k =
      let x : max a b ≤ 16 - opened = max-le (omega arith) (omega arith) in
      omega arith

-- ---- not too deep, so in place

block_placed : (b : Block) → BlockFits b → (bs : List Branch) (n : ℕ) (rest : List PathToken) → length bs + block_depth b ≤ 16
    → Placed bs (after n b) rest → Placed bs n (block_tokens b rest)
block_placed empty h bs n rest l later = later
block_placed (token t r) (k, h) bs n rest l later = placed_cons t k bs n refl (block_placed r h bs (suc n) rest l later)
block_placed (branch o b f r) (k, hb, g, hr) bs n rest l later =
    let x = deep_left (length bs) (suc (block_depth b)) (block_depth r) l in
    let y = deep_right (length bs) (suc (block_depth b)) (block_depth r) l in
    let m = after (suc n) b in
    placed_cons o k bs n (room bs (omega arith))
    (block_placed b hb (inside n false bs) (suc n) _ (omega arith)
    (placed_cons f g (inside n false bs) m refl (block_placed r hr bs (suc m) rest y later)))
block_placed (branch_els o b e c f r) (k, hb, j, hc, g, hr) bs n rest l later =
    let both = max (block_depth b) (block_depth c) in
    let x = deep_left (length bs) (suc both) (block_depth r) l in
    let y = deep_right (length bs) (suc both) (block_depth r) l in
    let z : suc (length bs) + both ≤ 16 = omega arith in
    let m = after (suc n) b in
    let i = after (suc m) c in
    placed_cons o k bs n (room bs (omega arith))
    (block_placed b hb (inside n false bs) (suc n) _ (deep_left _ _ _ z)
    (placed_cons e j (inside n false bs) m refl (block_placed c hc (inside n true bs) (suc m) _ (deep_right _ _ _ z)
    (placed_cons f g (inside n true bs) i refl (block_placed r hr bs (suc i) rest y later)))))

pub cut_placed : (q : Cut) → CutFits q → (bs : List Branch) (n : ℕ) → length bs + cut_depth q ≤ 16 → Placed bs n (cut_tokens q)
cut_placed (whole b) h bs n l = block_placed b h bs n [] l (record { placed = λ j. refl })
cut_placed (in_first b o q) (hb, k, hq) bs n l =
    let y = deep_right (length bs) (block_depth b) (suc (cut_depth q)) l in
    let m = after n b in
    block_placed b hb bs n _ (deep_left _ _ _ l)
    (placed_cons o k bs m (room bs (omega arith)) (cut_placed q hq (inside m false bs) (suc m) (omega arith)))
cut_placed (in_second b o c e q) (hb, k, hc, j, hq) bs n l =
    let both = max (block_depth c) (cut_depth q) in
    let y = deep_right (length bs) (block_depth b) (suc both) l in
    let z : suc (length bs) + both ≤ 16 = omega arith in
    let m = after n b in
    let i = after (suc m) c in
    block_placed b hb bs n _ (deep_left _ _ _ l)
    (placed_cons o k bs m (room bs (omega arith)) (block_placed c hc (inside m false bs) (suc m) _ (deep_left _ _ _ z)
    (placed_cons e j (inside m false bs) i refl (cut_placed q hq (inside m true bs) (suc i) (deep_right _ _ _ z)))))

-- ---- in place, so not too deep

-- the block is not too deep, and what comes after it is in place
abbrev Deep : Block → List Branch → ℕ → List PathToken → Type 0
Deep b bs n rest = (length bs + block_depth b ≤ 16) × Placed bs (after n b) rest

block_deep : (b : Block) → BlockFits b → (bs : List Branch) (n : ℕ) (rest : List PathToken) → length bs ≤ 16
    → Placed bs n (block_tokens b rest) → Deep b bs n rest
block_deep empty h bs n rest l p = (omega arith, p)
block_deep (token t r) (k, h) bs n rest l p = block_deep r h bs (suc n) rest l (placed_tail t k bs n p)
block_deep (branch o b f r) (k, hb, g, hr) bs n rest l p =
    let m = after (suc n) b in
    let free = leb-false 16 (length bs) (placed_head o k bs n p) in
    let (x, p₁) = block_deep b hb (inside n false bs) (suc n) _ free (placed_tail o k bs n p) in
    let (y, p₂) = block_deep r hr bs (suc m) rest l (placed_tail f g _ m p₁) in
    (deep_both (length bs) (suc (block_depth b)) (block_depth r) (omega arith) y, p₂)
block_deep (branch_els o b e c f r) (k, hb, j, hc, g, hr) bs n rest l p =
    let m = after (suc n) b in
    let i = after (suc m) c in
    let free = leb-false 16 (length bs) (placed_head o k bs n p) in
    let (x, p₁) = block_deep b hb (inside n false bs) (suc n) _ free (placed_tail o k bs n p) in
    let (z, p₂) = block_deep c hc (inside n true bs) (suc m) _ free (placed_tail e j _ m p₁) in
    let (y, p₃) = block_deep r hr bs (suc i) rest l (placed_tail f g _ i p₂) in
    let both = deep_both (suc (length bs)) (block_depth b) (block_depth c) x z in
    (deep_both (length bs) (suc (max (block_depth b) (block_depth c))) (block_depth r) (omega arith) y, p₃)

pub cut_deep : (q : Cut) → CutFits q → (bs : List Branch) (n : ℕ) → length bs ≤ 16 → Placed bs n (cut_tokens q)
    → length bs + cut_depth q ≤ 16
cut_deep (whole b) h bs n l p = (block_deep b h bs n [] l p).0
cut_deep (in_first b o q) (hb, k, hq) bs n l p =
    let m = after n b in
    let (x, p₁) = block_deep b hb bs n _ l p in
    let free = leb-false 16 (length bs) (placed_head o k bs m p₁) in
    let y = cut_deep q hq (inside m false bs) (suc m) free (placed_tail o k bs m p₁) in
    deep_both (length bs) (block_depth b) (suc (cut_depth q)) x (omega arith)
cut_deep (in_second b o c e q) (hb, k, hc, j, hq) bs n l p =
    let m = after n b in
    let i = after (suc m) c in
    let (x, p₁) = block_deep b hb bs n _ l p in
    let free = leb-false 16 (length bs) (placed_head o k bs m p₁) in
    let (z, p₂) = block_deep c hc (inside m false bs) (suc m) _ free (placed_tail o k bs m p₁) in
    let y = cut_deep q hq (inside m true bs) (suc i) free (placed_tail e j _ i p₂) in
    let both = deep_both (suc (length bs)) (block_depth c) (cut_depth q) z y in
    deep_both (length bs) (block_depth b) (suc (max (block_depth c) (cut_depth q))) x (omega arith)
