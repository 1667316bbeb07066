-- Ordinary opcodes and matrices: which rules they have nothing to do with.
-- Assumes nothing.
use Prim.Native.Nat.{ℕ, ◌≤◌}
use mathlib.Core.Bool.{Bool, true, false, not, cond, false≢true, ◌&&◌, ◌||◌, and-false, or-true}
use mathlib.Core.List.{[], ◌∷◌}
use mathlib.Core.Path.{◌≡◌, refl, ◌∙◌, ap, sym, subst}
use native.Mathlib.Omega.{arith}
use lib.Dec.{eqb, leb, leb→le}
use borrow.Author.Tests.{ne_eqb, eqb-true, not-true}
use Rattle.laws.proofs.Every.{left, right, neither}
use Rattle.layout.specs.Opcodes.{is_in, kil, tex, matrix_opcodes, is_added, is_fragment_only, is_matrix, shape_of, row_count2}
use Rattle.layout.specs.computed.Groups.{is_branch, is_ordinary}
use Rattle.layout.specs.computed.Sets.{among_of, ordinary_set}
use Rattle.layout.specs.Swizzles.{selectors_agree}
use Rattle.layout.proofs.OpcodeLists.{each, none_of, FirstShape, is_ordinary_lem, ordinary_shape, matrix_shape}
use Rattle.layout.proofs.OpcodeSets.{in_ordinary, one_row, outside_matrices}
use Rattle.faults.specs.Rules.{opcode_too_new, opcode_not_for_stage, selectors_differ, matrix_swizzled}

-- a test that is asked only where another one says yes, or only where it says no
pub if_yes : (b x : Bool) → cond b x false ≡ true → (b ≡ true) × (x ≡ true)
if_yes true x e = (refl, e)
if_yes false x e = absurd (false≢true e)

pub if_no : (b x : Bool) → cond b false x ≡ true → (b ≡ false) × (x ≡ true)
if_no true x e = absurd (false≢true e)
if_no false x e = (refl, e)

-- what is known of an ordinary opcode, and of a matrix with a source 2 that is not swizzled
pub record LawfulOpcode (edition stage o : ℕ) : Type 0 where
  pub kind : (is_ordinary o || is_matrix o) ≡ true
  pub shape : FirstShape (shape_of o)
  pub flow : is_branch o ≡ false
  pub new : opcode_too_new edition o ≡ false
  pub for_stage : opcode_not_for_stage stage o ≡ false
  pub rows : 1 ≤ row_count2 o
  pub swizzle1 : (z : ℕ) → selectors_differ o z ≡ false
  pub swizzle2 : (z : ℕ) → (eqb (row_count2 o) 1 || eqb z 0xe4) ≡ true → matrix_swizzled o z ≡ false

-- the stage that has every opcode, kil among them
abbrev pub is_fragment : ℕ → Bool
is_fragment stage = eqb stage 1

module _ (edition stage o : ℕ) where
  -- 10 says nothing of opcodes that edition 1 has
  pub no_edition : is_added o ≡ false → opcode_too_new edition o ≡ false
  no_edition e = ap (λ b. eqb edition 1 && b) e ∙ and-false (eqb edition 1)

  -- 11 says nothing of a fragment program
  pub in_fragment : eqb stage 1 ≡ true → opcode_not_for_stage stage o ≡ false
  in_fragment e = rw (ne_eqb stage 0 (λ z. omega (arith, z, eqb-true stage 1 e)))

  -- 11 and, of source 1, 18 say nothing of opcodes that are neither kil nor tex
  pub no_stage : is_fragment_only o ≡ false → opcode_not_for_stage stage o ≡ false
  no_stage e = ap (λ b. eqb stage 0 && b) e ∙ and-false (eqb stage 0)

  pub no_selectors : is_fragment_only o ≡ false → (z : ℕ) → selectors_differ o z ≡ false
  no_selectors e z = ap (λ b. b && not (selectors_agree z)) (neither (eqb o kil) (is_in o (tex ∷ [])) e).0

  pub known_ordinary : among_of (ordinary_set edition) o ≡ true → is_ordinary o ≡ true
  known_ordinary h = left (is_ordinary o) (not (eqb edition 1 && is_added o)) (sym (in_ordinary edition o) ∙ h)

  pub ordinary_opcode : among_of (ordinary_set edition) o ≡ true → LawfulOpcode edition stage o
  ordinary_opcode h =
      let p = is_ordinary_lem o (known_ordinary h) in
      record {
        kind = ap (λ b. b || is_matrix o) (known_ordinary h);
        shape = ordinary_shape o p;
        flow = p.branch;
        new = not-true (eqb edition 1 && is_added o) (right (is_ordinary o) (not (eqb edition 1 && is_added o)) (sym (in_ordinary edition o) ∙ h));
        for_stage = no_stage p.fragment;
        rows = omega (arith, one_row o (outside_matrices o p.matrix));
        swizzle1 = no_selectors p.fragment;
        swizzle2 = λ z u. ap (λ b. b && not (eqb z 0xe4)) p.matrix;
      }

  pub matrix_opcode : is_matrix o ≡ true → LawfulOpcode edition stage o
  unfolding row_count2
  matrix_opcode m =
      let fragment = none_of matrix_opcodes is_fragment_only tt o m in
      record {
        kind = ap (λ b. is_ordinary o || b) m ∙ or-true (is_ordinary o);
        shape = subst FirstShape (sym (matrix_shape o m)) (refl, refl);
        flow = none_of matrix_opcodes is_branch tt o m;
        new = no_edition (none_of matrix_opcodes is_added tt o m);
        for_stage = no_stage fragment;
        rows = leb→le 1 (row_count2 o) (each matrix_opcodes (λ o. leb 1 (row_count2 o)) tt o m);
        swizzle1 = no_selectors fragment;
        swizzle2 = λ z u. unswizzled z (eqb-true z 0xe4 (ap (λ b. b || eqb z 0xe4) (sym (none_of matrix_opcodes (λ o. eqb (row_count2 o) 1) tt o m)) ∙ u));
      }
    where
      unswizzled : (z : ℕ) → z ≡ 0xe4 → matrix_swizzled o z ≡ false
      unswizzled z e = ap (matrix_swizzled o) e ∙ and-false (is_matrix o)
