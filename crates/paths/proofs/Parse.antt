-- Every program with no token out of place is a tree, perhaps cut short.
-- Assumes nothing.
use mathlib.Core.Path.{◌≡◌, refl, sym, ap, ◌∙◌}
use mathlib.Core.Bool.{true, false, true≢false}
use mathlib.Core.List.{List, [], ◌∷◌}
use Prim.Native.Nat.{ℕ, suc}
use Rattle.paths.specs.Paths.{Flow, plain, opener, els, eif, PathToken}
use Rattle.paths.specs.Nesting.{Branch, branches_after, misplaced, misplaced_from, misplaced_at}
use Rattle.paths.specs.Trees.{Block, empty, token, branch, branch_els, Cut, whole, in_first, in_second}
use Rattle.paths.specs.Trees.{BlockFits, CutFits, block_tokens, cut_tokens}
use Rattle.paths.specs.Adequate.{TreeOf}

-- one block after another
join : Block → Block → Block
join empty c = c
join (token t r) c = token t (join r c)
join (branch o b f r) c = branch o b f (join r c)
join (branch_els o b e d f r) c = branch_els o b e d f (join r c)

tokens_join : (b c : Block) (ts : List PathToken) → block_tokens (join b c) ts ≡ block_tokens b (block_tokens c ts)
unfolding join
tokens_join empty c ts = refl
tokens_join (token t r) c ts = ap (λ l. t ∷ l) (tokens_join r c ts)
tokens_join (branch o b f r) c ts = ap (λ l. o ∷ block_tokens b (f ∷ l)) (tokens_join r c ts)
tokens_join (branch_els o b e d f r) c ts = ap (λ l. o ∷ block_tokens b (e ∷ block_tokens d (f ∷ l))) (tokens_join r c ts)

fits_join : (b c : Block) → BlockFits b → BlockFits c → BlockFits (join b c)
unfolding join
fits_join empty c h k = k
fits_join (token t r) c (a, h) k = (a, fits_join r c h k)
fits_join (branch o b f r) c (a, hb, l, h) k = (a, hb, l, fits_join r c h k)
fits_join (branch_els o b e d f r) c (a, hb, j, hd, l, h) k = (a, hb, j, hd, l, fits_join r c h k)

-- what stands before the place at hand, innermost first: a block and an opener; or a block, an opener, its first block and its els
data Frame : Type 0 where
  after_opener : Block → PathToken → Frame
  after_els : Block → PathToken → Block → PathToken → Frame

abbrev plug : List Frame → List PathToken → List PathToken
plug [] ts = ts
plug (after_opener b o ∷ fs) ts = plug fs (block_tokens b (o ∷ ts))
plug (after_els b o c e ∷ fs) ts = plug fs (block_tokens b (o ∷ block_tokens c (e ∷ ts)))

abbrev to_cut : List Frame → Cut → Cut
to_cut [] p = p
to_cut (after_opener b o ∷ fs) p = to_cut fs (in_first b o p)
to_cut (after_els b o c e ∷ fs) p = to_cut fs (in_second b o c e p)

-- the frames fit, and stand for these open branches
abbrev Stands : List Frame → List Branch → Type 0
Stands [] [] = Unit {0}
Stands [] (x ∷ bs) = ⊥
Stands (f ∷ fs) [] = ⊥
Stands (after_opener b o ∷ fs) (x ∷ bs) = (x.els_met ≡ false) × BlockFits b × (o.flow ≡ opener) × Stands fs bs
Stands (after_els b o c e ∷ fs) (x ∷ bs) =
    (x.els_met ≡ true) × BlockFits b × (o.flow ≡ opener) × BlockFits c × (e.flow ≡ els) × Stands fs bs

cut_tokens_lem : (fs : List Frame) (p : Cut) → cut_tokens (to_cut fs p) ≡ plug fs (cut_tokens p)
cut_tokens_lem [] p = refl
cut_tokens_lem (after_opener b o ∷ fs) p = cut_tokens_lem fs (in_first b o p)
cut_tokens_lem (after_els b o c e ∷ fs) p = cut_tokens_lem fs (in_second b o c e p)

cut_fits : (fs : List Frame) (bs : List Branch) (p : Cut) → Stands fs bs → CutFits p → CutFits (to_cut fs p)
cut_fits [] [] p s h = h
cut_fits [] (x ∷ bs) p s h = absurd s
cut_fits (after_opener b o ∷ fs) [] p s h = absurd s
cut_fits (after_els b o c e ∷ fs) [] p s h = absurd s
cut_fits (after_opener b o ∷ fs) (x ∷ bs) p (q, hb, k, s) h = cut_fits fs bs (in_first b o p) s (hb, k, h)
cut_fits (after_els b o c e ∷ fs) (x ∷ bs) p (q, hb, k, hc, j, s) h = cut_fits fs bs (in_second b o c e p) s (hb, k, hc, j, h)

abbrev Tree : List PathToken → Type 0
Tree ts = (p : Cut) × CutFits p × (cut_tokens p ≡ ts)

module _ (t : PathToken) (ts : List PathToken) (n : ℕ) where
  grow : (k : Flow) → t.flow ≡ k → (fs : List Frame) (c : Block) (bs : List Branch) → Stands fs bs → BlockFits c → misplaced k bs ≡ false
      → ((gs : List Frame) (d : Block) → Stands gs (branches_after k n bs) → BlockFits d → Tree (plug gs (block_tokens d ts)))
      → Tree (plug fs (block_tokens c (t ∷ ts)))
  grow plain e fs c bs s h m ih =
      let q = ih fs (join c (token t empty)) s (fits_join c (token t empty) h (e, tt)) in
      (q.0, q.1, q.2 ∙ ap (plug fs) (tokens_join c (token t empty) ts))
  grow opener e fs c bs s h m ih = ih (after_opener c t ∷ fs) empty (refl, h, e, s) tt
  grow els e [] c [] s h m ih = absurd (true≢false m)
  grow els e [] c (x ∷ bs) s h m ih = absurd s
  grow els e (f ∷ fs) c [] s h m ih = absurd (true≢false m)
  grow els e (after_opener b o ∷ fs) c (x ∷ bs) (q, hb, k, s) h m ih = ih (after_els b o c t ∷ fs) empty (refl, hb, k, h, e, s) tt
  grow els e (after_els b o d g ∷ fs) c (x ∷ bs) s h m ih = absurd (true≢false (sym s.0 ∙ m))
  grow eif e [] c [] s h m ih = absurd (true≢false m)
  grow eif e [] c (x ∷ bs) s h m ih = absurd s
  grow eif e (f ∷ fs) c [] s h m ih = absurd (true≢false m)
  grow eif e (after_opener b o ∷ fs) c (x ∷ bs) (q, hb, k, s) h m ih =
      let r = ih fs (join b (branch o c t empty)) s (fits_join b (branch o c t empty) hb (k, h, e, tt)) in
      (r.0, r.1, r.2 ∙ ap (plug fs) (tokens_join b (branch o c t empty) ts))
  grow eif e (after_els b o d g ∷ fs) c (x ∷ bs) (q, hb, k, hd, j, s) h m ih =
      let r = ih fs (join b (branch_els o d g c t empty)) s (fits_join b (branch_els o d g c t empty) hb (k, hd, j, h, e, tt)) in
      (r.0, r.1, r.2 ∙ ap (plug fs) (tokens_join b (branch_els o d g c t empty) ts))

parse_from : (ts : List PathToken) (n : ℕ) (fs : List Frame) (c : Block) (bs : List Branch) → Stands fs bs → BlockFits c
    → ((j : ℕ) → misplaced_from bs n ts j ≡ false) → Tree (plug fs (block_tokens c ts))
parse_from [] n fs c bs s h m = (to_cut fs (whole c), cut_fits fs bs (whole c) s h, cut_tokens_lem fs (whole c))
parse_from (t ∷ ts) n fs c bs s h m =
    grow t ts n t.flow refl fs c bs s h (m 0)
    (λ gs d s' h'. parse_from ts (suc n) gs d _ s' h' (λ j. m (suc j)))

pub parse : (prog : List PathToken) → ((j : ℕ) → misplaced_at prog j ≡ false) → (t : Cut) × TreeOf prog t
parse prog m = let (t, h, e) = parse_from prog 0 [] empty [] tt tt m in (t, (h, e))
