-- Bits of numbers: the lowest four of a number, and four that are shifted to a register's place.
-- Assumes nothing.
use Prim.Native.Nat.{ℕ, ◌*◌, ◌/◌, ◌%◌, ◌^◌, ◌<◌}
use mathlib.Core.Bool.{Bool, true, false, not, ◌&&◌, ◌||◌, beq, and-true}
use mathlib.Core.Path.{◌≡◌, refl, sym, ap, ◌∙◌}
use native.Mathlib.Omega.{arith}
use lib.Bits.{bit_and, and_mod, and_comm, and_mask, and_le_l}
use lib.Dec.{eqb}
use borrow.Author.Tests.{eqb-true, eqb-false, eq-eqb, ne_eqb, not-false}
use Rattle.laws.specs.computed.Tests.{every}
use Rattle.laws.proofs.Every.{below, is_true, same→eq}
use Rattle.layout.specs.Swizzles.{bit_of}
use Rattle.layout.proofs.MaskBits.{bit_of-bit_and}

-- equal numbers on one side, equal numbers on the other
pub eqb_iff : (a b c d : ℕ) → (a ≡ b → c ≡ d) → (c ≡ d → a ≡ b) → eqb a b ≡ eqb c d
eqb_iff a b c d f g = go (eqb c d) refl
  where
    go : (t : Bool) → eqb c d ≡ t → eqb a b ≡ t
    go true e = eq-eqb a b (g (eqb-true c d e))
    go false e = ne_eqb a b (λ q. eqb-false c d e (f q))

-- ---- four bits

-- the lowest four bits of a number
pub bit_low : (m c : ℕ) → c < 4 → bit_of (m % 16) c ≡ bit_of m c
bit_low m c h = rw (← and_mask m 4, bit_of-bit_and m 15 c, is_true (bit_of 15 c) (below (bit_of 15) 4 tt c h)) (and-true (bit_of m c))

low_and : (m h : ℕ) → bit_and (m % 16) h ≡ bit_and (m % 16) (h % 16)
low_and m h =
    let e : m % 16 % 16 ≡ m % 16 = omega arith in
    let f : bit_and (m % 16) h % 16 ≡ bit_and (m % 16) h = omega (arith, and_le_l (m % 16) h) in
    sym f ∙ and_mod (m % 16) h 4 ∙ ap (λ a. bit_and a (h % 16)) e

-- some of the lowest four bits of a are not in b
abbrev pub misses : ℕ → ℕ → Bool
misses a b =
    (bit_of a 0 && not (bit_of b 0)) || ((bit_of a 1 && not (bit_of b 1)) || ((bit_of a 2 && not (bit_of b 2)) || ((bit_of a 3 && not (bit_of b 3)) || false)))

misses_four : (a b : ℕ) → a < 16 → b < 16 → misses a b ≡ not (eqb (bit_and a b) a)
misses_four a b ha hb =
    same→eq (misses a b) (not (eqb (bit_and a b) a))
    (below (λ b. beq (misses a b) (not (eqb (bit_and a b) a))) 16
    (below (λ a. every (λ b. beq (misses a b) (not (eqb (bit_and a b) a))) 16) 16 tt a ha) b hb)

pub misses_is : (m h : ℕ) → misses m h ≡ not (eqb (bit_and (m % 16) h) (m % 16))
misses_is m h =
    rw (
      ← bit_low m 0 (omega arith),
      ← bit_low m 1 (omega arith),
      ← bit_low m 2 (omega arith),
      ← bit_low m 3 (omega arith),
      ← bit_low h 0 (omega arith),
      ← bit_low h 1 (omega arith),
      ← bit_low h 2 (omega arith),
      ← bit_low h 3 (omega arith),
      low_and m h,
    )
    (misses_four (m % 16) (h % 16) (omega arith) (omega arith))

-- a number with all four bits misses none of any other
pub misses_none : (m h : ℕ) → not (eqb (bit_and 15 h) 15) ≡ false → not (eqb (bit_and (m % 16) h) (m % 16)) ≡ false
misses_none m h e =
    let all : h % 16 ≡ 15 = sym (and_mask h 4) ∙ and_comm h 15 ∙ eqb-true (bit_and 15 h) 15 (not-false _ e) in
    let once : m % 16 % 16 ≡ m % 16 = omega arith in
    ap not (eq-eqb (bit_and (m % 16) h) (m % 16) (low_and m h ∙ ap (bit_and (m % 16)) all ∙ and_mask (m % 16) 4 ∙ once))

-- four bits at the place of one of 16 registers
abbrev placed : ℕ → ℕ → ℕ → Bool
placed m r k = beq (bit_of (m * 2 ^ (r * 4)) k) (eqb r (k / 4) && bit_of m (k % 4))

pub bit_placed : (m r k : ℕ) → m < 16 → r < 16 → k < 64 → bit_of (m * 2 ^ (r * 4)) k ≡ (eqb r (k / 4) && bit_of m (k % 4))
bit_placed m r k hm hr hk =
    same→eq (bit_of (m * 2 ^ (r * 4)) k) (eqb r (k / 4) && bit_of m (k % 4))
    (below (placed m r) 64
    (below (λ r. every (placed m r) 64) 16
    (below (λ m. every (λ r. every (placed m r) 64) 16) 16 tt m hm) r hr) k hk)
