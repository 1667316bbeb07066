-- The sets of opcodes that the code keeps bit by bit are the lists of document 01. What a set is, is read off the function's call, so that
-- each set is told by its list alone, in a test over all 64 numbers that a set can hold.
-- Assumes nothing.
use Prim.Native.Nat.{ℕ, ◌≤◌}
use mathlib.Core.Bool.{Bool, true, false, cond, not, ◌&&◌, ◌||◌, beq, false≢true}
use mathlib.Core.List.{List, [], ◌∷◌, ◌++◌}
use mathlib.Core.Path.{◌≡◌, refl, sym, ap, ap₂, ◌∙◌}
use native.Mathlib.Decide.{dec_lt}
use native.Mathlib.Omega.{arith}
use lib.Dec.{T, eqb, eqb→eq}
use borrow.Author.Tests.{lt-ltb, le-ltb, ne_eqb, eqb-false}
use Rattle.laws.specs.computed.Tests.{every}
use Rattle.laws.proofs.Every.{below, both_left, both_right, neither, same→eq}
use Rattle.layout.specs.Opcodes.{is_in, kil, tex, m33, m44, m34, first_opcodes, added_opcodes, is_added, is_matrix, row_count2, unlisted, shape_of_row, shape_of}
use Rattle.layout.specs.computed.Groups.{is_ordinary, is_ordinary_in, source_shape, second_shape}
use Rattle.layout.specs.Selections.{by_three1, by_four1}
use Rattle.layout.specs.computed.Sets.{among_of, set_below, ordinary_set, coordinate_set, named_set, selector_set1, selector_set2, read_set2}
use Rattle.layout.specs.Swizzles.{bit_of}
use Rattle.layout.specs.declared.opcodes.OperandShape.{OperandShape}
use Rattle.layout.specs.declared.opcodes.OperandShape.TheVariants.{Unused, Source, Sampler}
use Rattle.layout.specs.declared.opcodes.Shape.{Shape}
use Rattle.layout.proofs.Listed.{all_below, not_in, past}

-- ---- a set and a list

abbrev agree : ℕ → (ℕ → Bool) → Bool
agree set test = every (λ o. beq (bit_of set o) (test o)) 64

in_set : (set : ℕ) (test : ℕ → Bool) → T (agree set test) → ((o : ℕ) → 64 ≤ o → test o ≡ false) → (o : ℕ) → among_of set o ≡ test o
unfolding among_of
in_set set test t none o =
    elim (dec_lt o 64) [
      | yes h ↦ rw (lt-ltb o 64 h) (same→eq (bit_of set o) (test o) (below (λ o. beq (bit_of set o) (test o)) 64 t o h))
      | no h ↦ let l : 64 ≤ o = omega (arith, h) in rw (le-ltb o 64 l) (sym (none o l))
    ]

-- what the code was told of a set, it was told of the list
pub told : (set o : ℕ) {r : Bool} → r ≡ among_of set o → (ks : List ℕ) → T (agree set (λ o. is_in o ks)) → T (all_below 64 ks) → r ≡ is_in o ks
told set o e ks t b = e ∙ in_set set (λ o. is_in o ks) t (λ o h. not_in o 64 ks h b) o

-- the same from the list's side, for a test that came out as b
pub listed_as : (set o : ℕ) {r b : Bool} → r ≡ among_of set o → r ≡ b → (ks : List ℕ) → T (agree set (λ o. is_in o ks)) → T (all_below 64 ks)
    → is_in o ks ≡ b
listed_as set o e h ks t b = sym (told set o e ks t b) ∙ h

-- ---- source 1 by the mask: in no list of source 1, neither kil nor tex

abbrev by_no_mask : ℕ → Bool
by_no_mask o = is_in o by_three1 || (is_in o by_four1 || is_in o (kil ∷ tex ∷ []))

pub by_mask : (set o : ℕ) {r : Bool} (m d : ℕ) → r ≡ among_of set o → not r ≡ true → T (agree set by_no_mask) → selector_set1 o m d ≡ m
unfolding selector_set1
by_mask set o m d e h t = go (is_in o by_three1) (is_in o by_four1) (eqb o kil) (eqb o tex) (ap not (sym (e ∙ in_set set by_no_mask t none o)) ∙ h)
  where
    none : (o : ℕ) → 64 ≤ o → by_no_mask o ≡ false
    none o l = rw (not_in o 64 by_three1 l tt, not_in o 64 by_four1 l tt, not_in o 64 (kil ∷ tex ∷ []) l tt)

    go : (p q r t : Bool) → not (p || (q || (r || (t || false)))) ≡ true
        → cond p 7 (cond q 15 (cond r 1 (cond t (coordinate_set d) m))) ≡ m
    go true q r t e = absurd (false≢true e)
    go false true r t e = absurd (false≢true e)
    go false false true t e = absurd (false≢true e)
    go false false false true e = absurd (false≢true e)
    go false false false false e = refl

-- ---- m33, m44 and m34 stand one after another

-- no number between them is another opcode
pub outside_matrices : (o : ℕ) → is_matrix o ≡ false → m33 ≤ o → o ≤ m34 → ⊥
outside_matrices o e low high =
    let (a, rest) = neither (eqb o m33) _ e in
    let (b, last) = neither (eqb o m44) _ rest in
    let (c, _) = neither (eqb o m34) _ last in
    omega (arith, eqb-false o m33 a, eqb-false o m44 b, eqb-false o m34 c, low, high)

module _ (o : ℕ) (outside : (m33 ≤ o → o ≤ m34 → ⊥)) where
  no_matrix : (k : ℕ) → m33 ≤ k → k ≤ m34 → eqb o k ≡ false
  no_matrix k low high = ne_eqb o k (λ e. outside (omega arith) (omega arith))

  pub one_row : row_count2 o ≡ 1
  unfolding row_count2
  one_row = rw (no_matrix m33 (omega arith) (omega arith), no_matrix m34 (omega arith) (omega arith), no_matrix m44 (omega arith) (omega arith))

  pub by_selectors : (m z : ℕ) → read_set2 o m z ≡ named_set z (selector_set2 o m)
  unfolding read_set2
  by_selectors m z =
      rw (no_matrix m33 (omega arith) (omega arith), no_matrix m34 (omega arith) (omega arith), no_matrix m44 (omega arith) (omega arith))

-- ---- the ordinary opcodes of an edition

-- by whether the edition is the first
abbrev ordinary_where : Bool → ℕ → Bool
ordinary_where first o = is_ordinary o && not (first && is_added o)

-- the code's set is that of the list
pub of_edition : (edition : ℕ) (first : Bool) (set : ℕ) → eqb edition 1 ≡ first → T (eqb set (set_below (ordinary_where first) 64)) → set ≡ ordinary_set edition
unfolding ordinary_set
of_edition edition first set e t = eqb→eq set (set_below (ordinary_where first) 64) t ∙ ap (λ b. set_below (ordinary_where b) 64) (sym e)

-- an opcode is in the set where it is one of them
pub in_ordinary : (edition o : ℕ) → among_of (ordinary_set edition) o ≡ is_ordinary_in edition o
unfolding ordinary_set
in_ordinary edition o = in_set (ordinary_set edition) (is_ordinary_in edition) (told_all (eqb edition 1)) none o
  where
    told_all : (first : Bool) → T (agree (set_below (ordinary_where first) 64) (ordinary_where first))
    told_all true = tt
    told_all false = tt

    none : (o : ℕ) → 64 ≤ o → is_ordinary_in edition o ≡ false
    none o l = rw (not_in o 64 (first_opcodes ++ added_opcodes) l tt)

-- ---- shapes, by numbers

abbrev numbered : OperandShape → ℕ
numbered Unused = 0
numbered Source = 1
numbered Sampler = 2

abbrev from_number : ℕ → OperandShape
from_number n = cond (eqb n 1) Source (cond (eqb n 2) Sampler Unused)

from_number_lem : (s : OperandShape) → from_number (numbered s) ≡ s
from_number_lem Unused = refl
from_number_lem Source = refl
from_number_lem Sampler = refl

same_operand : (a b : OperandShape) → T (eqb (numbered a) (numbered b)) → a ≡ b
same_operand a b t = sym (from_number_lem a) ∙ ap from_number (eqb→eq (numbered a) (numbered b) t) ∙ from_number_lem b

abbrev same_flags : Shape → Shape → Bool
same_flags a b = beq a.listed b.listed && beq a.destination b.destination

abbrev same_sources : Shape → Shape → Bool
same_sources a b = eqb (numbered a.source1) (numbered b.source1) && eqb (numbered a.source2) (numbered b.source2)

same_shape : (a b : Shape) → T (same_flags a b && same_sources a b) → a ≡ b
same_shape a b t =
    let flags = both_left (same_flags a b) (same_sources a b) t in
    let sources = both_right (same_flags a b) (same_sources a b) t in
    let l = same→eq a.listed b.listed (both_left (beq a.listed b.listed) (beq a.destination b.destination) flags) in
    let d = same→eq a.destination b.destination (both_right (beq a.listed b.listed) (beq a.destination b.destination) flags) in
    let s1 = same_operand a.source1 b.source1 (both_left (eqb (numbered a.source1) (numbered b.source1)) (eqb (numbered a.source2) (numbered b.source2)) sources) in
    let s2 = same_operand a.source2 b.source2 (both_right (eqb (numbered a.source1) (numbered b.source1)) (eqb (numbered a.source2) (numbered b.source2)) sources) in
    ap₂ (λ l d. record { listed = l; destination = d; source1 = a.source1; source2 = a.source2 }) l d
    ∙ ap₂ (λ x y. record { listed = b.listed; destination = b.destination; source1 = x; source2 = y }) s1 s2

-- ---- shapes, by four sets

-- by what each set says of an opcode
abbrev pub shape_by : (ℕ → ℕ → Bool) → ℕ → ℕ → ℕ → ℕ → ℕ → Shape
shape_by has listed destination source1 source2 o =
    record {
      listed = has listed o;
      destination = has destination o;
      source1 = source_shape (has source1 o);
      source2 = second_shape o (has source2 o);
    }

abbrev same_below : (ℕ → Shape) → Bool
same_below shape = every (λ o. same_flags (shape o) (shape_of o) && same_sources (shape o) (shape_of o)) 64

pub shape_by_sets : (l d s t o : ℕ) → T (same_below (shape_by bit_of l d s t)) → shape_by among_of l d s t o ≡ shape_of o
unfolding shape_of_row among_of
shape_by_sets l d s t o e =
    elim (dec_lt o 64) [
      | yes h ↦
          rw (lt-ltb o 64 h)
          (same_shape (shape_by bit_of l d s t o) (shape_of o)
          (below (λ o. same_flags (shape_by bit_of l d s t o) (shape_of o) && same_sources (shape_by bit_of l d s t o) (shape_of o)) 64 e o h))
      | no h ↦
          let none : shape_by among_of l d s t o ≡ unlisted = rw (le-ltb o 64 (omega (arith, h)), ne_eqb o tex (λ k. omega (arith, h, k))) in
          none ∙ sym (ap shape_of_row (past o (omega (arith, h))))
    ]
