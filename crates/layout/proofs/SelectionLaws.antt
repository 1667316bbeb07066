-- The sets of selectors and components that the code computes are those of document 01.
-- Assumes nothing.
use Prim.Native.Nat.{ℕ, ◌*◌, ◌/◌, ◌%◌, ◌^◌, ◌<◌}
use mathlib.Core.Bool.{Bool, true, false, cond, ◌&&◌, ◌||◌, or-false, beq}
use mathlib.Core.List.{List, [], ◌∷◌, map}
use mathlib.Core.Path.{◌≡◌, refl, sym, ap, ◌∙◌}
use native.Mathlib.Nat.{div-one}
use native.Mathlib.Omega.{arith}
use lib.Bits.{bit_or}
use lib.Count.{ones}
use lib.Dec.{eqb, eqb→eq}
use Rattle.std.specs.Int.{is_power_of_two}
use Rattle.laws.specs.computed.Tests.{every}
use Rattle.laws.proofs.Every.{below, same→eq}
use Rattle.layout.specs.Opcodes.{is_in, m33, m44, m34, kil, tex}
use Rattle.layout.specs.Swizzles.{keep, those, first_few, bit_of, mask_components, selector, xyzw as e4, named, selectors_agree, components_of}
use Rattle.layout.specs.Selections.{by_three1, by_three2, by_four1, by_four2, selectors1, selectors2, components2}
use Rattle.layout.specs.computed.Sets.{chosen_set, named_set, selector_set1, selector_set2, read_set2}
use Rattle.layout.proofs.MaskBits.{bit_of-bit_or}

-- ---- the components that a swizzle names

those_same : (f g : ℕ → Bool) → ((c : ℕ) → c < 4 → f c ≡ g c) → those f ≡ those g
those_same f g h = rw (h 0 (omega arith), h 1 (omega arith), h 2 (omega arith), h 3 (omega arith))

in_keep : (c : ℕ) (f : ℕ → ℕ) (b : Bool) (i : ℕ) (is : List ℕ)
    → is_in c (map f (keep b i is)) ≡ ((b && eqb c (f i)) || is_in c (map f is))
in_keep c f true i is = refl
in_keep c f false i is = refl

-- one selector
abbrev chooses : ℕ → ℕ → ℕ → Bool
chooses b k c = beq (bit_of (b * 2 ^ k) c) (eqb b 1 && eqb c k)

chosen_bit : (b k c : ℕ) → b < 2 → k < 4 → c < 4 → bit_of (b * 2 ^ k) c ≡ (eqb b 1 && eqb c k)
chosen_bit b k c hb hk hc =
    same→eq (bit_of (b * 2 ^ k) c) (eqb b 1 && eqb c k)
    (below (chooses b k) 4
    (below (λ k. every (chooses b k) 4) 4
    (below (λ b. every (λ k. every (chooses b k) 4) 4) 2 tt b hb) k hk) c hc)

grouped : (p q r t : Bool) → ((p || q) || (r || t)) ≡ (p || (q || (r || (t || false))))
grouped true q r t = refl
grouped false true r t = refl
grouped false false true t = refl
grouped false false false t = sym (or-false t)

named_bit : (z s c : ℕ) → c < 4 → bit_of (named_set z s) c ≡ is_in c (map (selector z) (mask_components s))
unfolding named_set
named_bit z s c h =
    let x = chosen_set s z in
    let y = chosen_set (s / 2) (z / 4) in
    let u = chosen_set (s / 4) (z / 16) in
    let w = chosen_set (s / 8) (z / 64) in
    rw (
      in_keep,
      in_keep,
      in_keep,
      in_keep,
      div-one s,
      div-one z,
      bit_of-bit_or (bit_or x y) (bit_or u w) c,
      bit_of-bit_or x y c,
      bit_of-bit_or u w c,
      chosen_bit (s % 2) (z % 4) c (omega arith) (omega arith) h,
      chosen_bit (s / 2 % 2) (z / 4 % 4) c (omega arith) (omega arith) h,
      chosen_bit (s / 4 % 2) (z / 16 % 4) c (omega arith) (omega arith) h,
      chosen_bit (s / 8 % 2) (z / 64 % 4) c (omega arith) (omega arith) h,
    )
    (grouped (eqb (s % 2) 1 && eqb c (z % 4)) (eqb (s / 2 % 2) 1 && eqb c (z / 4 % 4)) (eqb (s / 4 % 2) 1 && eqb c (z / 16 % 4))
    (eqb (s / 8 % 2) 1 && eqb c (z / 64 % 4)))

pub named_components : (z s : ℕ) → mask_components (named_set z s) ≡ named z (mask_components s)
named_components z s = those_same (bit_of (named_set z s)) (λ c. is_in c (map (selector z) (mask_components s))) (named_bit z s)

-- ---- the selectors of each opcode

pub selectors1_components : (o m d : ℕ) → mask_components (selector_set1 o m d) ≡ selectors1 o m d
unfolding selector_set1 selectors1
selectors1_components o m d = go (is_in o by_three1) (is_in o by_four1) (eqb o kil) (eqb o tex) (eqb d 0)
  where
    go : (p q r t u : Bool)
        → mask_components (cond p 7 (cond q 15 (cond r 1 (cond t (cond u 3 7) m))))
        ≡ cond p (first_few 3) (cond q (first_few 4) (cond r (first_few 1) (cond t (cond u (first_few 2) (first_few 3)) (mask_components m))))
    go true q r t u = refl
    go false true r t u = refl
    go false false true t u = refl
    go false false false true true = refl
    go false false false true false = refl
    go false false false false u = refl

pub selectors2_components : (o m : ℕ) → mask_components (selector_set2 o m) ≡ selectors2 o m
unfolding selector_set2 selectors2
selectors2_components o m = go (is_in o by_three2) (is_in o by_four2)
  where
    go : (p q : Bool) → mask_components (cond p 7 (cond q 15 m)) ≡ cond p (first_few 3) (cond q (first_few 4) (mask_components m))
    go true q = refl
    go false true = refl
    go false false = refl

pub components2_components : (o m z : ℕ) → mask_components (read_set2 o m z) ≡ components2 o m z
unfolding read_set2 components2
components2_components o m z = go (eqb o m33) (is_in o (m34 ∷ m44 ∷ []))
  where
    go : (p q : Bool) → mask_components (cond p 7 (cond q 15 (named_set z (selector_set2 o m))))
        ≡ cond p (first_few 3) (cond q (first_few 4) (named z (selectors2 o m)))
    go true q = refl
    go false true = refl
    go false false = named_components z (selector_set2 o m) ∙ ap (named z) (selectors2_components o m)

-- ---- the table of 256 component sets

-- "E4 gives all four, 00 gives x"
xyzw : components_of 0xe4 ≡ 15
unfolding components_of
xyzw = refl

xxxx : components_of 0x00 ≡ 1
unfolding components_of
xxxx = refl

-- "so E4 is xyzw": each selector names the component of its place
in_place : map (selector e4) (0 ∷ 1 ∷ 2 ∷ 3 ∷ []) ≡ 0 ∷ 1 ∷ 2 ∷ 3 ∷ []
in_place = refl

-- a swizzle's set is what all four selectors name
pub all_named : (z : ℕ) → z < 256 → components_of z ≡ named_set z 15
unfolding components_of named_set
all_named z h = eqb→eq (components_of z) (named_set z 15) (below (λ z. eqb (components_of z) (named_set z 15)) 256 tt z h)

abbrev is_one : ℕ → Bool
is_one set = ((eqb set 1 || eqb set 2) || eqb set 4) || eqb set 8

-- the selectors agree exactly where that set has one member
pub one_named : (z : ℕ) → z < 256 → is_one (components_of z) ≡ selectors_agree z
unfolding components_of
one_named z h = same→eq (is_one (components_of z)) (selectors_agree z) (below (λ z. beq (is_one (components_of z)) (selectors_agree z)) 256 tt z h)

-- and a set of one member is a power of two
pub power_named : (z : ℕ) → z < 256 → is_power_of_two (components_of z) ≡ selectors_agree z
unfolding components_of ones
power_named z h =
    same→eq (is_power_of_two (components_of z)) (is_one (components_of z)) (below (λ z. beq (is_power_of_two (components_of z)) (is_one (components_of z))) 256 tt z h)
    ∙ one_named z h
