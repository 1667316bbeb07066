-- The programs that check accepts are the right ones, and on their paths every branch is closed by its own eif.
-- Assumes nothing.
use Prim.Native.Nat.{ℕ, zero, suc, ◌<◌, ◌≤◌}
use mathlib.Core.Bool.{false}
use mathlib.Core.List.{List, [], ◌∷◌, ◌++◌, Memᴰ, map, append_assoc}
use mathlib.Core.Logic.{◌⊎◌, inl, inr}
use mathlib.Core.Option.{none, some, none-ne-some, some-injective}
use mathlib.Core.Path.{◌≡◌, refl, sym, ap, ◌∙◌, subst}
use native.Mathlib.Omega.{arith}
use lib.ListN.{length, take}
use Rattle.paths.specs.Paths.{Source, PathToken, Path, Visit, arrive, visit_of, visit_at, visits_from, visited}
use Rattle.paths.specs.Unwritten.{ReadsUnwritten}
use Rattle.paths.specs.Nesting.{Branch, open_branches, misplaced_from, innermost}
use Rattle.paths.specs.Faults.{Faultless}
use Rattle.paths.specs.Trees.{Block, after, Cut, whole, in_first, in_second, LeavesOpen, innermost_left, cut_depth}
use Rattle.paths.specs.Adequate.{TreeOf}
use Rattle.paths.proofs.Adequate.{adequate}
use Rattle.paths.proofs.Cuts.{unwritten_cut}
use Rattle.layout.specs.Programs.{stage_of, token_count}
use Rattle.faults.specs.Order.{tokens_of}
use Rattle.verifier.specs.Verdict.{program}
use Rattle.verifier.specs.Exact.{HeaderRight}
use Rattle.consequences.specs.Branching.{RightProgram, AcceptsRight, BranchesClose}
use Rattle.consequences.proofs.Checking.{is_accepted, not_refused, accepted_safe}

-- ---- tokens in place, and branches left open

-- what is so of the tokens of a program is so at every number
pub placed_on : (ts : List PathToken) (bs : List Branch) (k : ℕ) → ((j : ℕ) → j < length ts → misplaced_from bs k ts j ≡ false)
    → (j : ℕ) → misplaced_from bs k ts j ≡ false
placed_on [] bs k h j = refl
placed_on (t ∷ ts) bs k h zero = h 0 (omega arith)
placed_on (t ∷ ts) bs k h (suc j) = placed_on ts _ (suc k) (λ i l. h (suc i) (omega arith)) j

none_open : (bs : List Branch) → innermost bs ≡ none → bs ≡ []
none_open [] e = refl
none_open (b ∷ bs) e = absurd (none-ne-some _ (sym e))

-- inside an open branch a tree names an opener: this branch's, or one whose branch it leaves open
pub names_opener : (o n : ℕ) (t : Cut) → (i : ℕ) × (innermost_left (some o) n t ≡ some i) × ((i ≡ o) ⊎ LeavesOpen i n t)
names_opener o n (whole b) = (o, refl, inl refl)
names_opener o n (in_first b u q) = let (i, e, l) = names_opener (after n b) _ q in (i, e, inr l)
names_opener o n (in_second b u c v q) = let (i, e, l) = names_opener (after n b) _ q in (i, e, inr l)

-- so a tree that names none is whole
is_whole : (t : Cut) → innermost_left none 0 t ≡ none → (b : Block) × (t ≡ whole b)
is_whole (whole b) e = (b, refl)
is_whole (in_first b u q) e = absurd (none-ne-some _ (sym e ∙ (names_opener (after 0 b) _ q).1))
is_whole (in_second b u c v q) e = absurd (none-ne-some _ (sym e ∙ (names_opener (after 0 b) _ q).1))

-- ---- a program cut short

-- the first of some visits are these
abbrev Begins : List Visit → List Visit → Type 0
Begins visits these = (later : List Visit) × (visits ≡ these ++ later)

begins_at : (a : ℕ) (v : Visit) (visits these : List Visit) → Begins visits these → Begins (visit_at a v visits) (visit_at a v these)
begins_at zero v visits these (later, e) = (later, ap (λ l. v ∷ l) e)
begins_at (suc a) v visits these b = b

-- what a path visits of it comes first of what it visits of the whole
begins : (p : Path) (ts : List PathToken) (i d n : ℕ) → Begins (visits_from p d n ts) (visits_from p d n (take i ts))
begins p [] zero d n = ([], refl)
begins p [] (suc i) d n = ([], refl)
begins p (t ∷ ts) zero d n = (_, refl)
begins p (t ∷ ts) (suc i) d n = begins_at (arrive t.flow d) (visit_of n t) _ _ (begins p ts i _ (suc n))

-- so what it reads there it reads in the whole
read_in_whole : (prog : List PathToken) (p : Path) (s : Source) (n : ℕ) → ReadsUnwritten s n (visited p (take (suc n) prog))
    → ReadsUnwritten s n (visited p prog)
read_in_whole prog p s n r =
    let (later, e) = begins p prog (suc n) 0 0 in
    record {
      earlier = r.earlier;
      visit = r.visit;
      later = r.later ++ later;
      on_the_way = e ∙ ap (λ l. l ++ later) r.on_the_way ∙ append_assoc r.earlier (r.visit ∷ r.later) later;
      at_token = r.at_token;
      component = r.component;
      reads_it = r.reads_it;
      unwritten = r.unwritten;
    }

-- ---- accepted programs

module _ (edition : ℕ) (bytes : List ℕ) where
  abbrev prog : List PathToken
  prog = tokens_of edition bytes

  right : HeaderRight edition bytes → Faultless prog → RightProgram edition bytes
  right h (clean, closed) =
      let (t, f, l) = (adequate prog).placed.0 (placed_on prog [] 0 (λ j k. (clean j k).1)) in
      let (b, e) = is_whole t (sym ((adequate prog).left_open t f) ∙ ap innermost closed) in
      let f : TreeOf prog (whole b) = subst (TreeOf prog) e f in
      record {
        header = h;
        tree = b;
        fits = f.0;
        tokens = f.1;
        shallow = subst (λ t. cut_depth t ≤ 16) e l;
        faultless = λ n k. (clean n k).0;
        safe = λ p s n r.
            let (k, c) = unwritten_cut prog p s n (subst (ReadsUnwritten s n) (sym ((adequate prog).walks (whole b) f p)) r) in
            (clean n k).2 s (p, c);
      }

  faultless : RightProgram edition bytes → Faultless prog
  faultless t =
      let f : TreeOf prog (whole t.tree) = (t.fits, t.tokens) in
      let in_place = (adequate prog).placed.1 (whole t.tree, f, t.shallow) in (
        λ n k. (
          t.faultless n k,
          in_place n,
          λ s (p, r). t.safe p s n (subst (ReadsUnwritten s n) ((adequate prog).walks (whole t.tree) f p) (read_in_whole prog p s n r)),
        ),
        none_open (open_branches prog) ((adequate prog).left_open (whole t.tree) f),
      )

pub accepts_right : AcceptsRight
accepts_right edition bytes r c = (
  λ g. let (h, f) = c.demand3.accepts.0 (not_refused r g.0 g.1) in right edition bytes h f,
  λ t.
      let a = program (stage_of bytes) (token_count bytes) in
      let e = (c.exact.accepts (stage_of bytes) (token_count bytes)).1 (t.header, faultless edition bytes t, refl, refl) in
      (a, sym (is_accepted edition bytes r a c.exact e)),
)

pub branches_close : BranchesClose
branches_close edition bytes r a c e t f p earlier v later q o n b =
    let (k, g, m) = (accepted_safe edition bytes r a c e p earlier v later q).closed o in
    let same = some-injective k n (sym g ∙ (adequate (tokens_of edition bytes)).own_eif t f v.number n b) in
    subst (λ x. Memᴰ x (map (λ u. u.number) later)) same m
