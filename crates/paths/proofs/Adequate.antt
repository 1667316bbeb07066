-- Paths and Nesting are adequate: on every program they say what document 01's sentences say over its trees, also when it is cut short.
-- Assumes nothing.
use mathlib.Core.Path.{◌≡◌, refl, sym, ap, ◌∙◌, subst}
use mathlib.Core.Bool.{false}
use mathlib.Core.List.{List, [], ◌∷◌}
use Prim.Native.Nat.{ℕ, zero, suc, ◌+◌, ◌≤◌, ◌<◌}
use native.Mathlib.Omega.{arith}
use lib.ListN.{take}
use borrow.Author.Tests.{le-leb, lt-leb}
use Rattle.paths.specs.Paths.{PathToken, Path, arrive, leave, visit_of, visit_at, visits_from, visited}
use Rattle.paths.specs.Nesting.{Branch, open_branches, misplaced_from, misplaced_at, innermost}
use Rattle.paths.specs.Trees.{Cut, cut_walk}
use Rattle.paths.specs.Adequate.{TreeOf, IsTree, Adequate, visits_up_to, AdequateCut}
use Rattle.paths.proofs.Trees.{visited_is_walk}
use Rattle.paths.proofs.Parse.{parse}
use Rattle.paths.proofs.Placed.{cut_placed, cut_deep}
use Rattle.paths.proofs.LeftOpen.{cut_left}
use Rattle.paths.proofs.OwnEif.{cut_own, cut_open}

-- ---- whole programs, and programs that end anywhere

module _ (prog : List PathToken) where
  is_tree : ((j : ℕ) → misplaced_at prog j ≡ false) → IsTree prog
  is_tree m =
      let (t, (h, e)) = parse prog m in
      let l = cut_deep t h [] 0 (omega arith) (record { placed = subst (λ ts. (j : ℕ) → misplaced_at ts j ≡ false) (sym e) m }) in
      (t, (h, e), omega arith)

  all_placed : IsTree prog → (j : ℕ) → misplaced_at prog j ≡ false
  all_placed (t, (h, e), l) j = ap (λ ts. misplaced_at ts j) (sym e) ∙ (cut_placed t h [] 0 (omega arith)).placed j

  walked : (t : Cut) → TreeOf prog t → (p : Path) → visited p prog ≡ cut_walk p 0 t
  walked t (h, e) p = ap (visited p) (sym e) ∙ visited_is_walk p t h

  pub adequate : Adequate prog
  adequate = record {
    placed = (is_tree, all_placed);
    walks = walked;
    own_eif = λ t h i j b. cut_own prog i j t h.0 0 (sym h.1) b;
    no_eif = λ t h i b. cut_open prog i t h.0 0 (sym h.1) b;
    left_open = λ t h. ap (λ ts. innermost (open_branches ts)) (sym h.1) ∙ (cut_left t h.0 [] 0).last;
  }

-- ---- programs cut short

-- what is visited from token m on is not before it
none_before : (p : Path) (ts : List PathToken) (d n m : ℕ) → n < m → visits_up_to n (visits_from p d m ts) ≡ []
none_before p [] d n m h = refl
none_before p (t ∷ ts) d n m h = go (arrive t.flow d) (λ a. none_before p ts (leave t.flow (p m) a) n (suc m) (omega arith))
  where
    go : (a : ℕ) → ((a : ℕ) → visits_up_to n (visits_from p (leave t.flow (p m) a) (suc m) ts) ≡ [])
        → visits_up_to n (visit_at a (visit_of m t) (visits_from p (leave t.flow (p m) a) (suc m) ts)) ≡ []
    go zero ih = rw (lt-leb m n h) (ih 0)
    go (suc a) ih = ih (suc a)

-- of tokens that are numbered from m the first i are those up to token n
there_from : (p : Path) (ts : List PathToken) (i d m n : ℕ) → m + i ≡ suc n
    → visits_from p d m (take i ts) ≡ visits_up_to n (visits_from p d m ts)
there_from p [] zero d m n e = refl
there_from p [] (suc i) d m n e = refl
there_from p (t ∷ ts) zero d m n e = sym (none_before p (t ∷ ts) d n m (omega arith))
there_from p (t ∷ ts) (suc i) d m n e =
    go (arrive t.flow d) (λ a. there_from p ts i (leave t.flow (p m) a) (suc m) n (omega arith))
  where
    go : (a : ℕ) → ((a : ℕ) → visits_from p (leave t.flow (p m) a) (suc m) (take i ts)
        ≡ visits_up_to n (visits_from p (leave t.flow (p m) a) (suc m) ts))
        → visit_at a (visit_of m t) (visits_from p (leave t.flow (p m) a) (suc m) (take i ts))
        ≡ visits_up_to n (visit_at a (visit_of m t) (visits_from p (leave t.flow (p m) a) (suc m) ts))
    go zero ih = rw (le-leb m n (omega arith)) (ap (λ l. visit_of m t ∷ l) (ih 0))
    go (suc a) ih = ih (suc a)

-- a token is out of place in a program cut short where it is so in the whole
misplaced_cut : (ts : List PathToken) (bs : List Branch) (k n : ℕ) → ((j : ℕ) → j ≤ n → misplaced_from bs k ts j ≡ false)
    → (j : ℕ) → misplaced_from bs k (take (suc n) ts) j ≡ false
misplaced_cut [] bs k n m j = refl
misplaced_cut (t ∷ ts) bs k n m zero = m 0 (omega arith)
misplaced_cut (t ∷ ts) bs k zero m (suc j) = refl
misplaced_cut (t ∷ ts) bs k (suc n) m (suc j) = misplaced_cut ts _ (suc k) n (λ i h. m (suc i) (omega arith)) j

pub adequate_cut : (prog : List PathToken) (n : ℕ) → AdequateCut prog n
adequate_cut prog n = record {
  visits_what_is_there = λ p. there_from p prog (suc n) 0 0 n (omega arith);
  cut_is_tree = λ m. is_tree (take (suc n) prog) (misplaced_cut prog [] 0 n m);
  cut_walks = walked (take (suc n) prog);
}
