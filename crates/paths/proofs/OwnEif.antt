-- The eif of a branch, found by counting, is the branch's own in the tree of the program.
-- Assumes nothing.
use mathlib.Core.Path.{◌≡◌, refl, sym, ap, ◌∙◌}
use mathlib.Core.List.{List, [], ◌∷◌}
use mathlib.Core.Logic.{inl, inr}
use mathlib.Core.Option.{Option, none, some}
use Prim.Native.Nat.{ℕ, suc}
use lib.ListN.{drop}
use Rattle.paths.specs.Paths.{Flow, plain, opener, els, eif, PathToken}
use Rattle.paths.specs.Nesting.{eif_at, eif_from, eif_of}
use Rattle.paths.specs.Trees.{Block, empty, token, branch, branch_els, Cut, whole, in_first, in_second}
use Rattle.paths.specs.Trees.{BlockFits, CutFits, block_tokens, cut_tokens, after, HasBranch, CutHasBranch, LeavesOpen}
use Rattle.paths.proofs.Closing.{drop_next}

-- ---- counting over a block leaves the count as it was

-- with so many branches open inside a branch, this is its eif among these tokens, which are numbered from n
record Ends (inner n : ℕ) (ts : List PathToken) (answer : Option ℕ) : Type 0 where
  ends : eif_from inner n ts ≡ answer

module _ {answer : Option ℕ} where
  -- one token, what it does to branches known
  over : {k : Flow} {inner n : ℕ} {ts : List PathToken} (t : PathToken) → t.flow ≡ k
      → eif_at k inner n (λ i. eif_from i (suc n) ts) ≡ answer → Ends inner n (t ∷ ts) answer
  over {inner = inner} {n} {ts} t e later = record { ends = ap (λ k. eif_at k inner n (λ i. eif_from i (suc n) ts)) e ∙ later }

  over_plain : {inner n : ℕ} {ts : List PathToken} (t : PathToken) → t.flow ≡ plain → Ends inner (suc n) ts answer
      → Ends inner n (t ∷ ts) answer
  over_plain t e later = over t e later.ends

  over_opener : {inner n : ℕ} {ts : List PathToken} (t : PathToken) → t.flow ≡ opener → Ends (suc inner) (suc n) ts answer
      → Ends inner n (t ∷ ts) answer
  over_opener t e later = over t e later.ends

  over_els : {inner n : ℕ} {ts : List PathToken} (t : PathToken) → t.flow ≡ els → Ends inner (suc n) ts answer
      → Ends inner n (t ∷ ts) answer
  over_els t e later = over t e later.ends

  over_eif : {inner n : ℕ} {ts : List PathToken} (t : PathToken) → t.flow ≡ eif → Ends inner (suc n) ts answer
      → Ends (suc inner) n (t ∷ ts) answer
  over_eif t e later = over t e later.ends

  over_block : (b : Block) → BlockFits b → {inner n : ℕ} {rest : List PathToken} → Ends inner (after n b) rest answer
      → Ends inner n (block_tokens b rest) answer
  over_block empty h later = later
  over_block (token t r) (k, h) later = over_plain t k (over_block r h later)
  over_block (branch o b f r) (k, hb, g, hr) later = over_opener o k (over_block b hb (over_eif f g (over_block r hr later)))
  over_block (branch_els o b e c f r) (k, hb, j, hc, g, hr) later =
      over_opener o k (over_block b hb (over_els e j (over_block c hc (over_eif f g (over_block r hr later)))))

-- this eif is the branch's own
at_eif : {n : ℕ} {ts : List PathToken} (t : PathToken) → t.flow ≡ eif → Ends 0 n (t ∷ ts) (some n)
at_eif t e = over t e refl

-- a branch that is cut short has none
at_cut : (q : Cut) → CutFits q → {inner n : ℕ} → Ends inner n (cut_tokens q) none
at_cut (whole b) h = over_block b h (record { ends = refl })
at_cut (in_first b o q) (hb, k, hq) = over_block b hb (over_opener o k (at_cut q hq))
at_cut (in_second b o c e q) (hb, k, hc, j, hq) = over_block b hb (over_opener o k (over_block c hc (over_els e j (at_cut q hq))))

-- ---- in a program

module _ (prog : List PathToken) where
  -- the tokens from n on are these
  abbrev From : ℕ → List PathToken → Type 0
  From n ts = drop n prog ≡ ts

  next : (n : ℕ) {t : PathToken} {ts : List PathToken} → From n (t ∷ ts) → From (suc n) ts
  next n e = drop_next prog n _ _ e

  from_after : (b : Block) (n : ℕ) (rest : List PathToken) → From n (block_tokens b rest) → From (after n b) rest
  from_after empty n rest e = e
  from_after (token t r) n rest e = from_after r (suc n) rest (next n e)
  from_after (branch o b f r) n rest e =
      let m = after (suc n) b in
      from_after r (suc m) rest (next m (from_after b (suc n) _ (next n e)))
  from_after (branch_els o b g c f r) n rest e =
      let m = after (suc n) b in
      let k = after (suc m) c in
      from_after r (suc k) rest (next k (from_after c (suc m) _ (next m (from_after b (suc n) _ (next n e)))))

  -- the eif of a branch is the one among the tokens after its opener n
  of_opener : (i n : ℕ) {t : PathToken} {ts : List PathToken} {answer : Option ℕ} → i ≡ n → From n (t ∷ ts) → Ends 0 (suc n) ts answer
      → eif_of prog i ≡ answer
  of_opener i n q e later = ap (eif_of prog) q ∙ ap (eif_from 0 (suc n)) (next n e) ∙ later.ends

  module _ (i j : ℕ) where
    block_own : (b : Block) → BlockFits b → (n : ℕ) (rest : List PathToken) → From n (block_tokens b rest) → HasBranch i j n b
        → eif_of prog i ≡ some j
    block_own empty h n rest e x = absurd x
    block_own (token t r) (k, h) n rest e x = block_own r h (suc n) rest (next n e) x
    block_own (branch o b f r) (k, hb, g, hr) n rest e (inl (p, q)) =
        of_opener i n p e (over_block b hb (at_eif f g)) ∙ ap some (sym q)
    block_own (branch o b f r) (k, hb, g, hr) n rest e (inr (inl x)) = block_own b hb (suc n) _ (next n e) x
    block_own (branch o b f r) (k, hb, g, hr) n rest e (inr (inr x)) =
        let m = after (suc n) b in
        block_own r hr (suc m) rest (next m (from_after b (suc n) _ (next n e))) x
    block_own (branch_els o b l c f r) (k, hb, h, hc, g, hr) n rest e (inl (p, q)) =
        of_opener i n p e (over_block b hb (over_els l h (over_block c hc (at_eif f g)))) ∙ ap some (sym q)
    block_own (branch_els o b l c f r) (k, hb, h, hc, g, hr) n rest e (inr (inl x)) = block_own b hb (suc n) _ (next n e) x
    block_own (branch_els o b l c f r) (k, hb, h, hc, g, hr) n rest e (inr (inr (inl x))) =
        let m = after (suc n) b in
        block_own c hc (suc m) _ (next m (from_after b (suc n) _ (next n e))) x
    block_own (branch_els o b l c f r) (k, hb, h, hc, g, hr) n rest e (inr (inr (inr x))) =
        let m = after (suc n) b in
        let z = after (suc m) c in
        block_own r hr (suc z) rest (next z (from_after c (suc m) _ (next m (from_after b (suc n) _ (next n e))))) x

    pub cut_own : (q : Cut) → CutFits q → (n : ℕ) → From n (cut_tokens q) → CutHasBranch i j n q → eif_of prog i ≡ some j
    cut_own (whole b) h n e x = block_own b h n [] e x
    cut_own (in_first b o q) (hb, k, hq) n e (inl x) = block_own b hb n _ e x
    cut_own (in_first b o q) (hb, k, hq) n e (inr x) = let m = after n b in cut_own q hq (suc m) (next m (from_after b n _ e)) x
    cut_own (in_second b o c l q) (hb, k, hc, h, hq) n e (inl x) = block_own b hb n _ e x
    cut_own (in_second b o c l q) (hb, k, hc, h, hq) n e (inr (inl x)) =
        let m = after n b in
        block_own c hc (suc m) _ (next m (from_after b n _ e)) x
    cut_own (in_second b o c l q) (hb, k, hc, h, hq) n e (inr (inr x)) =
        let m = after n b in
        let z = after (suc m) c in
        cut_own q hq (suc z) (next z (from_after c (suc m) _ (next m (from_after b n _ e)))) x

  module _ (i : ℕ) where
    pub cut_open : (q : Cut) → CutFits q → (n : ℕ) → From n (cut_tokens q) → LeavesOpen i n q → eif_of prog i ≡ none
    cut_open (whole b) h n e x = absurd x
    cut_open (in_first b o q) (hb, k, hq) n e (inl p) =
        let m = after n b in
        of_opener i m p (from_after b n _ e) (at_cut q hq)
    cut_open (in_first b o q) (hb, k, hq) n e (inr x) = let m = after n b in cut_open q hq (suc m) (next m (from_after b n _ e)) x
    cut_open (in_second b o c l q) (hb, k, hc, h, hq) n e (inl p) =
        let m = after n b in
        of_opener i m p (from_after b n _ e) (over_block c hc (over_els l h (at_cut q hq)))
    cut_open (in_second b o c l q) (hb, k, hc, h, hq) n e (inr x) =
        let m = after n b in
        let z = after (suc m) c in
        cut_open q hq (suc z) (next z (from_after c (suc m) _ (next m (from_after b n _ e)))) x
