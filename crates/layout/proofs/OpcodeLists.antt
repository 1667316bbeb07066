-- What an opcode holds and what it does to branches, by the list of document 01 that it is in.
-- Assumes nothing.
use Prim.Native.Nat.{ℕ}
use mathlib.Core.Bool.{Bool, true, false, not, cond, ◌&&◌, ◌||◌, true≢false, false≢true}
use mathlib.Core.List.{List, [], ◌∷◌, ◌++◌}
use mathlib.Core.Path.{◌≡◌, refl, sym, ap, subst, ◌∙◌}
use lib.Dec.{T, eqb, eqb→eq}
use borrow.Author.Tests.{eqb-true, ne_eqb, not-true}
use Rattle.laws.proofs.Every.{both_left, both_right, left, right, neither, is_true}
use Rattle.layout.specs.Opcodes.{is_in, els, eif, kil, tex, one_source_opcodes, openers, bare_opcodes, fragment_opcodes, matrix_opcodes, is_listed, is_fragment_only, is_matrix, is_opener}
use Rattle.layout.specs.computed.Groups.{is_branch, is_ordinary, source_shape}
use Rattle.layout.specs.Opcodes.{row_count2, flow_of, holds, row_of, shape_of_row, shape_of}
use Rattle.layout.specs.declared.opcodes.Flow.TheVariants.{Plain, Opener, Els, Eif}
use Rattle.layout.specs.declared.opcodes.OperandShape.{OperandShape}
use Rattle.layout.specs.declared.opcodes.OperandShape.TheVariants.{Unused, Source, Sampler}
use Rattle.layout.specs.declared.opcodes.Shape.{Shape}
use Rattle.layout.proofs.OpcodeSets.{one_row, outside_matrices}

-- ---- lists

abbrev all_of : (ℕ → Bool) → List ℕ → Bool
all_of test [] = true
all_of test (k ∷ ks) = test k && all_of test ks

-- a test that all of a list pass
pub each : (ks : List ℕ) (test : ℕ → Bool) → T (all_of test ks) → (o : ℕ) → is_in o ks ≡ true → T (test o)
each [] test t o e = absurd (false≢true e)
each (k ∷ ks) test t o e = go (λ h. each ks test (both_right (test k) (all_of test ks) t) o h) (eqb o k) refl e
  where
    go : (is_in o ks ≡ true → T (test o)) → (b : Bool) → eqb o k ≡ b → (b || is_in o ks) ≡ true → T (test o)
    go ih true q h = subst (λ n. T (test n)) (sym (eqb-true o k q)) (both_left (test k) (all_of test ks) t)
    go ih false q h = ih h

-- one that none of them passes
pub none_of : (ks : List ℕ) (test : ℕ → Bool) → T (all_of (λ o. not (test o)) ks) → (o : ℕ) → is_in o ks ≡ true → test o ≡ false
none_of ks test t o e = not-true (test o) (is_true (not (test o)) (each ks (λ o. not (test o)) t o e))

-- what is not in a list is none of its members
pub other_than : (ks : List ℕ) (k : ℕ) → T (is_in k ks) → (o : ℕ) → is_in o ks ≡ false → eqb o k ≡ false
other_than ks k t o e = ne_eqb o k (λ q. false≢true (sym e ∙ ap (λ n. is_in n ks) q ∙ is_true (is_in k ks) t))

in_neither : (xs ys : List ℕ) (o : ℕ) → is_in o (xs ++ ys) ≡ false → (is_in o xs ≡ false) × (is_in o ys ≡ false)
in_neither [] ys o e = (refl, e)
in_neither (x ∷ xs) ys o e =
    let (a, rest) = neither (eqb o x) (is_in o (xs ++ ys)) e in
    let (p, q) = in_neither xs ys o rest in
    (ap (λ b. b || is_in o xs) a ∙ p, q)

-- ---- branches

-- the shape of an opener, or of els and eif
abbrev pub branch_shape : Bool → Shape
branch_shape opener = record { listed = true; destination = false; source1 = source_shape opener; source2 = source_shape opener }

pub branch_shape_lem : (o : ℕ) → is_branch o ≡ true → shape_of o ≡ branch_shape (is_opener o)
unfolding row_of shape_of_row
branch_shape_lem o e = ap shape_of_row (eqb→eq (row_of o) (cond (is_opener o) 4 1) (each (openers ++ bare_opcodes) (λ o. eqb (row_of o) (cond (is_opener o) 4 1)) tt o e)) ∙ go (is_opener o)
  where
    go : (b : Bool) → shape_of_row (cond b 4 1) ≡ branch_shape b
    go true = refl
    go false = refl

pub opener_shape : (o : ℕ) → is_opener o ≡ true → shape_of o ≡ branch_shape true
opener_shape o e = branch_shape_lem o (is_true (is_branch o) (each openers is_branch tt o e)) ∙ ap branch_shape e

pub opener_flow : (o : ℕ) → is_opener o ≡ true → flow_of o ≡ Opener
unfolding flow_of
opener_flow o e = rw e

pub plain_flow : (o : ℕ) → is_branch o ≡ false → flow_of o ≡ Plain
unfolding flow_of
plain_flow o e =
    let (opener, bare) = in_neither openers bare_opcodes o e in
    let (first, last) = neither (eqb o els) (is_in o (eif ∷ [])) bare in
    let (second, _) = neither (eqb o eif) false last in
    none (is_opener o) (eqb o els) (eqb o eif) opener first second
  where
    none : (p q r : Bool) → p ≡ false → q ≡ false → r ≡ false → cond p Opener (cond q Els (cond r Eif Plain)) ≡ Plain
    none p q r a b c = rw (a, b, c)

-- ---- ordinary opcodes and matrices

abbrev pub is_sampler : OperandShape → Bool
is_sampler Unused = false
is_sampler Source = false
is_sampler Sampler = true

-- "One source", or "the rest: destination and two sources"
abbrev pub FirstShape : Shape → Type 0
FirstShape s = (s ≡ holds true Source s.source2) × (is_sampler s.source2 ≡ false)

-- what an ordinary opcode is and is not
pub record Ordinary (o : ℕ) : Type 0 where
  pub listed : is_listed o ≡ true
  pub matrix : is_matrix o ≡ false
  pub branch : is_branch o ≡ false
  pub fragment : is_fragment_only o ≡ false

pub is_ordinary_lem : (o : ℕ) → is_ordinary o ≡ true → Ordinary o
is_ordinary_lem o e =
    let three = left (is_listed o && not (is_matrix o) && not (is_branch o)) (not (is_fragment_only o)) e in
    let two = left (is_listed o && not (is_matrix o)) (not (is_branch o)) three in
    record {
      listed = left (is_listed o) (not (is_matrix o)) two;
      matrix = not-true (is_matrix o) (right (is_listed o) (not (is_matrix o)) two);
      branch = not-true (is_branch o) (right (is_listed o && not (is_matrix o)) (not (is_branch o)) three);
      fragment = not-true (is_fragment_only o) (right (is_listed o && not (is_matrix o) && not (is_branch o)) (not (is_fragment_only o)) e);
    }

ordinary_row : (o : ℕ) → Ordinary o → row_of o ≡ cond (is_in o one_source_opcodes) 2 3
unfolding row_of
ordinary_row o p =
    let (opener, bare) = in_neither openers bare_opcodes o p.branch in
    let no-kil = other_than fragment_opcodes kil tt o p.fragment in
    let no-tex = other_than fragment_opcodes tex tt o p.fragment in
    chain (is_listed o) (is_in o one_source_opcodes) (eqb o kil) (is_opener o) (is_in o bare_opcodes) (eqb o tex) p.listed no-kil opener bare no-tex
  where
    chain : (l one k p b t : Bool) → l ≡ true → k ≡ false → p ≡ false → b ≡ false → t ≡ false
        → ◌≡◌ {A = ℕ} (cond (not l) 0 (cond one 2 (cond k 5 (cond p 4 (cond b 1 (cond t 6 3)))))) (cond one 2 3)
    chain l one k p b t e1 e2 e3 e4 e5 = rw (e1, e2, e3, e4, e5)

pub ordinary_shape : (o : ℕ) → Ordinary o → FirstShape (shape_of o)
unfolding shape_of_row
ordinary_shape o p = subst (λ r. FirstShape (shape_of_row r)) (sym (ordinary_row o p)) (go (is_in o one_source_opcodes))
  where
    go : (b : Bool) → FirstShape (shape_of_row (cond b 2 3))
    go true = (refl, refl)
    go false = (refl, refl)

pub matrix_shape : (o : ℕ) → is_matrix o ≡ true → shape_of o ≡ holds true Source Source
unfolding row_of shape_of_row
matrix_shape o m = ap shape_of_row (eqb→eq (row_of o) 3 (each matrix_opcodes (λ o. eqb (row_of o) 3) tt o m))

-- either of them
pub first_shape : (o : ℕ) → (is_ordinary o || is_matrix o) ≡ true → FirstShape (shape_of o)
first_shape o e = go (is_ordinary o) refl e
  where
    go : (b : Bool) → is_ordinary o ≡ b → (b || is_matrix o) ≡ true → FirstShape (shape_of o)
    go true h k = ordinary_shape o (is_ordinary_lem o h)
    go false h k = subst FirstShape (sym (matrix_shape o k)) (refl, refl)

-- matrices are the opcodes with more rows than one
pub many_rows : (o : ℕ) → eqb (row_count2 o) 1 ≡ false → is_matrix o ≡ true
many_rows o e = go (is_matrix o) refl
  where
    go : (b : Bool) → is_matrix o ≡ b → b ≡ true
    go true h = refl
    go false h = absurd (true≢false (sym (ap (λ n. eqb n 1) (one_row o (outside_matrices o h))) ∙ e))
