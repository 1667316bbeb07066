-- A program that is refused by 21 is a tree up to there; one that is refused by 22 has no eif for the branch that it names.
-- Assumes nothing.
use Prim.Native.Nat.{ℕ, ◌≤◌}
use mathlib.Core.Bool.{false}
use mathlib.Core.List.{List, []}
use mathlib.Core.Logic.{inl, inr}
use mathlib.Core.Option.{none, some, none-ne-some, some-injective}
use mathlib.Core.Path.{◌≡◌, sym, ◌∙◌, subst}
use native.Mathlib.Decide.{dec_lt}
use native.Mathlib.Omega.{arith}
use lib.Dec.{lit≤}
use Rattle.paths.specs.Paths.{Source, source1, source2, PathToken}
use Rattle.paths.specs.Unwritten.{ReadsUnwritten, SomePathReads}
use Rattle.paths.specs.Nesting.{misplaced_at, eif_of}
use Rattle.paths.specs.Faults.{UnwrittenPart, CleanBefore, FirstFault, Unclosed, TokenFaultsNumbered}
use Rattle.paths.specs.Trees.{after, Cut, whole, in_first, in_second, LeavesOpen, innermost_left}
use Rattle.paths.proofs.Adequate.{adequate, adequate_cut}
use Rattle.layout.specs.Programs.{token_count}
use Rattle.faults.specs.Order.{tokens_of}
use Rattle.verifier.proofs.HeaderLaw.{header_numbered}
use Rattle.verifier.proofs.ExactCheck.{tokens_numbered}
use Rattle.consequences.specs.Branching.{RefusedUnwritten, RefusedOpen}
use Rattle.consequences.proofs.RightPrograms.{placed_on, names_opener}

-- ---- 21

-- no token before it and not the token itself is out of place
placed_up_to : (prog : List PathToken) (n : ℕ) → CleanBefore prog n → misplaced_at prog n ≡ false → (j : ℕ) → j ≤ n → misplaced_at prog j ≡ false
placed_up_to prog n clean e j h =
    elim (dec_lt j n) [
      | yes l ↦ (clean j l).1
      | no l ↦ let q : n ≡ j = omega (arith, l) in subst (λ k. misplaced_at prog k ≡ false) q e
    ]

-- the source that the part names
unwritten_source : (prog : List PathToken) (n part : ℕ) → UnwrittenPart (λ s. SomePathReads s prog n) part → (s : Source) × SomePathReads s prog n
unwritten_source prog n part (inl (e, r)) = (source1, r)
unwritten_source prog n part (inr (e, f, r)) = (source2, r)

pub refused_unwritten : RefusedUnwritten
refused_unwritten edition bytes r n part c e =
    let prog = tokens_of edition bytes in
    let (h, (clean, fault, in_place, reads)) = (c.demand3.unwritten n part).0 e in
    let (s, (p, x)) = unwritten_source prog n part reads in
    let cut = adequate_cut prog n in
    let (t, f, l) = cut.cut_is_tree (placed_up_to prog n clean in_place) in
    record {
      tree = t;
      is_tree = f;
      shallow = l;
      path = p;
      source = s;
      walks = subst (ReadsUnwritten s n) (cut.cut_walks t f p) x;
      visits = subst (ReadsUnwritten s n) (cut.visits_what_is_there p) x;
    }

-- ---- 22

-- a tree that names an opener leaves that one's branch open
named : (i n : ℕ) (t : Cut) → innermost_left none n t ≡ some i → LeavesOpen i n t
named i n (whole b) e = absurd (none-ne-some _ e)
named i n (in_first b u q) e =
    let (j, d, l) = names_opener (after n b) _ q in
    subst (λ k. LeavesOpen k n (in_first b u q)) (some-injective j i (sym d ∙ e)) l
named i n (in_second b u c v q) e =
    let (j, d, l) = names_opener (after n b) _ q in
    subst (λ k. LeavesOpen k n (in_second b u c v q)) (some-injective j i (sym d ∙ e)) l

-- where 22 is the first fault it is that a branch is open at the end
left_unclosed : (prog : List PathToken) (n part : ℕ) → TokenFaultsNumbered prog → FirstFault prog 22 n part → Unclosed prog 22 n part
left_unclosed prog n part numbered (inl (before, inl e)) = absurd (omega (arith, (numbered n _ e).1))
left_unclosed prog n part numbered (inl (before, inr (inl f))) = absurd (omega (arith, f.0))
left_unclosed prog n part numbered (inl (before, inr (inr f))) = absurd (omega (arith, f.0))
left_unclosed prog n part numbered (inr u) = u

unclosed : (prog : List PathToken) (n part : ℕ) → Unclosed prog 22 n part → eif_of prog n ≡ none
unclosed prog n part (k, e, clean, last) =
    let (t, f, l) = (adequate prog).placed.0 (placed_on prog [] 0 (λ j h. (clean j h).1)) in
    (adequate prog).no_eif t f n (named n 0 t (sym ((adequate prog).left_open t f) ∙ last))

pub refused_open : RefusedOpen
refused_open edition bytes r n part c e =
    elim ((c.exact.refuses 22 n part).0 ((lit≤ tt, lit≤ tt), e)) [
      | inl f ↦ absurd (omega (arith, (header_numbered edition bytes _ f.0).1))
      | inr f ↦
          let prog = tokens_of edition bytes in
          unclosed prog n part (left_unclosed prog n part (tokens_numbered edition bytes 0 (token_count bytes)) f.1)
    ]
