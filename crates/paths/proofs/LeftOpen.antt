-- The branches that are open at the end of a program are those that are cut short in its tree.
-- Assumes nothing.
use mathlib.Core.Path.{◌≡◌, refl, ap, ◌∙◌}
use mathlib.Core.List.{List, ◌∷◌}
use mathlib.Core.Option.{Option}
use Prim.Native.Nat.{ℕ, suc}
use Rattle.paths.specs.Paths.{Flow, PathToken}
use Rattle.paths.specs.Nesting.{Branch, branches_after, open_branches_from, innermost}
use Rattle.paths.specs.Trees.{Block, empty, token, branch, branch_els, Cut, whole, in_first, in_second}
use Rattle.paths.specs.Trees.{BlockFits, CutFits, block_tokens, cut_tokens, after, innermost_left}

-- after these tokens, which are numbered from n, this is the innermost open opener
pub record LastOpen (bs : List Branch) (n : ℕ) (ts : List PathToken) (answer : Option ℕ) : Type 0 where
  pub last : innermost (open_branches_from bs n ts) ≡ answer

module _ {answer : Option ℕ} where
  -- one token, what it does to branches known
  past : {k : Flow} {bs : List Branch} {n : ℕ} {ts : List PathToken} (t : PathToken) → t.flow ≡ k
      → LastOpen (branches_after k n bs) (suc n) ts answer → LastOpen bs n (t ∷ ts) answer
  past {bs = bs} {n} {ts} t e later =
      record { last = ap (λ k. innermost (open_branches_from (branches_after k n bs) (suc n) ts)) e ∙ later.last }

  past_block : (b : Block) → BlockFits b → {bs : List Branch} {n : ℕ} {rest : List PathToken} → LastOpen bs (after n b) rest answer
      → LastOpen bs n (block_tokens b rest) answer
  past_block empty h later = later
  past_block (token t r) (k, h) later = past t k (past_block r h later)
  past_block (branch o b f r) (k, hb, g, hr) later = past o k (past_block b hb (past f g (past_block r hr later)))
  past_block (branch_els o b e c f r) (k, hb, j, hc, g, hr) later =
      past o k (past_block b hb (past e j (past_block c hc (past f g (past_block r hr later)))))

pub cut_left : (q : Cut) → CutFits q → (bs : List Branch) (n : ℕ) → LastOpen bs n (cut_tokens q) (innermost_left (innermost bs) n q)
cut_left (whole b) h bs n = past_block b h (record { last = refl })
cut_left (in_first b o q) (hb, k, hq) bs n = past_block b hb (past o k (cut_left q hq _ _))
cut_left (in_second b o c e q) (hb, k, hc, j, hq) bs n = past_block b hb (past o k (past_block c hc (past e j (cut_left q hq _ _))))
