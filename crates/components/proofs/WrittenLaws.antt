-- The written sets as sets of components: join keeps what both have, and mark adds what a register's mask names.
-- Assumes nothing.
use Rattle.std.specs.Prelude.{Some}
use Prim.Native.Nat.{ℕ, zero, suc, ◌*◌, ◌/◌, ◌%◌, ◌^◌, ◌<◌}
use mathlib.Core.Bool.{Bool, true, false, cond, ◌&&◌, ◌||◌, and-true, and-false, or-false}
use mathlib.Core.Path.{◌≡◌, refl, sym, ap, ◌∙◌}
use native.Mathlib.Decide.{dec_lt}
use native.Mathlib.Omega.{arith}
use lib.Bits.{bit_and, bit_or, or_zero_r}
use lib.Dec.{eqb, ltb, leb}
use lib.Pow.{field}
use borrow.Author.Tests.{lt-ltb, le-ltb, lt-leb, le-leb, eqb-true, ne_eqb}
use Rattle.layout.specs.declared.record.MaskedRegister.{MaskedRegister}
use Rattle.paths.specs.computed.Sets.{has, adds}
use Rattle.layout.specs.Swizzles.{bit_of, mask_components}
use Rattle.components.specs.Reads.{register_components, writes_into, temporaries}
use Rattle.components.specs.computed.Written.{half_of, component_set, join_of, marked_half, mark_of}
use Rattle.components.specs.declared.written.Written.{Written}
use Rattle.layout.proofs.MaskBits.{bit_of-bit_and, bit_of-bit_or}
use Rattle.components.proofs.Bits.{eqb_iff, bit_low, bit_placed}
use Rattle.components.proofs.Numbers.{numbers, temporaries_numbers, temporaries_other, has_keep, number_eqb}

-- ---- join

halves_join : (a b : Written) (r : ℕ) → half_of (join_of a b) r ≡ bit_and (half_of a r) (half_of b r)
halves_join a b r = go (ltb r 16) (ltb r 32)
  where
    go : (p q : Bool)
        → cond p (bit_and a.low b.low) (cond q (bit_and a.high b.high) 0)
        ≡ bit_and (cond p a.low (cond q a.high 0)) (cond p b.low (cond q b.high 0))
    go true q = refl
    go false true = refl
    go false false = refl

pub in_join : (a b : Written) (n : ℕ) → component_set (join_of a b) n ≡ (component_set a n && component_set b n)
in_join a b n = rw (halves_join a b (n / 4)) (bit_of-bit_and (half_of a (n / 4)) (half_of b (n / 4)) (n % 64))

-- ---- mark

-- as the code marks: each half gets the bits, or none
pub marks : (s : Written) (r mask : ℕ)
    → record { low = bit_or s.low (cond (ltb r 16) (mask % 16 * 2 ^ (r % 16 * 4)) 0); high = bit_or s.high (cond (leb 16 r && ltb r 32) (mask % 16 * 2 ^ (r % 16 * 4)) 0) }
    ≡ mark_of s r mask
unfolding mark_of
marks s r mask =
    elim (dec_lt r 16) [
      | yes h ↦ rw (lt-ltb r 16 h, lt-leb 16 r h, or_zero_r s.high)
      | no g ↦ elim (dec_lt r 32) [
        | yes h ↦ rw (le-ltb r 16 (omega (arith, g)), le-leb 16 r (omega (arith, g)), lt-ltb r 32 h, or_zero_r s.low)
        | no k ↦ rw (le-ltb r 16 (omega (arith, g)), le-leb 16 r (omega (arith, g)), le-ltb r 32 (omega (arith, k)), or_zero_r s.low, or_zero_r s.high)
      ]
    ]

-- the components of a mask, with a test for the register
the_bit : (e : Bool) (b : ℕ → Bool) (j : ℕ) → j < 4
    → ((b 0 && (e && eqb 0 j)) || ((b 1 && (e && eqb 1 j)) || ((b 2 && (e && eqb 2 j)) || ((b 3 && (e && eqb 3 j)) || false)))) ≡ (e && b j)
the_bit false b j h = simp (and-false)
the_bit true b zero h = simp (and-true, and-false, or-false)
the_bit true b (suc zero) h = simp (and-true, and-false, or-false)
the_bit true b (suc (suc zero)) h = simp (and-true, and-false, or-false)
the_bit true b (suc (suc (suc zero))) h = simp (and-true, and-false, or-false)
the_bit true b (suc (suc (suc (suc j)))) h = absurd (omega arith)

-- n is among them when its register is r and the mask has its component
has_mask : (r m n : ℕ) → has (numbers r (mask_components m)) n ≡ (eqb r (n / 4) && bit_of m (n % 4))
has_mask r m n =
    rw (
      has_keep,
      has_keep,
      has_keep,
      has_keep,
      number_eqb n r 0 (omega arith),
      number_eqb n r 1 (omega arith),
      number_eqb n r 2 (omega arith),
      number_eqb n r 3 (omega arith),
    )
    (the_bit (eqb r (n / 4)) (bit_of m) (n % 4) (omega arith))

bit_marked : (g r m k : ℕ) → k < 64 → bit_of (marked_half g r m) k ≡ (bit_of g k || (eqb (r % 16) (k / 4) && bit_of m (k % 4)))
bit_marked g r m k h =
    rw (
      bit_of-bit_or g (m % 16 * 2 ^ (r % 16 * 4)) k,
      bit_placed (m % 16) (r % 16) k (omega arith) (omega arith) h,
      bit_low m (k % 4) (omega arith),
    )

module _ (s : Written) (r m : ℕ) (h : r < 32) (n : ℕ) where
  -- the half that the register is in
  same_half : (g : ℕ) → r / 16 ≡ n / 4 / 16 → bit_of (marked_half g r m) (n % 64) ≡ (bit_of g (n % 64) || (eqb r (n / 4) && bit_of m (n % 4)))
  same_half g e =
      let c : n % 64 % 4 ≡ n % 4 = omega arith in
      let q : n % 64 / 4 ≡ n / 4 % 16 = field n 4 2 in
      rw (bit_marked g r m (n % 64) (omega arith), c, q, eqb_iff (r % 16) (n / 4 % 16) r (n / 4) (λ z. omega arith) (λ z. omega arith))

  -- and the other one
  other_half : (g : ℕ) → (r ≡ n / 4 → ⊥) → bit_of g (n % 64) ≡ (bit_of g (n % 64) || (eqb r (n / 4) && bit_of m (n % 4)))
  other_half g e = rw (ne_eqb r (n / 4) e) (sym (or-false (bit_of g (n % 64))))

  halves_mark : bit_of (half_of (mark_of s r m) (n / 4)) (n % 64) ≡ (bit_of (half_of s (n / 4)) (n % 64) || (eqb r (n / 4) && bit_of m (n % 4)))
  unfolding mark_of
  halves_mark =
      elim (dec_lt r 16) [
        | yes l ↦
            rw (lt-ltb r 16 l)
            (elim (dec_lt (n / 4) 16) [
              | yes k ↦ rw (lt-ltb (n / 4) 16 k) (same_half s.low (omega arith))
              | no k ↦ rw (le-ltb (n / 4) 16 (omega (arith, k))) (other_half _ (λ e. omega (arith, k)))
            ])
        | no l ↦
            rw (le-ltb r 16 (omega (arith, l)), lt-ltb r 32 h)
            (elim (dec_lt (n / 4) 16) [
              | yes k ↦ rw (lt-ltb (n / 4) 16 k) (other_half s.low (λ e. omega (arith, l)))
              | no k ↦
                  rw (le-ltb (n / 4) 16 (omega (arith, k)))
                  (elim (dec_lt (n / 4) 32) [
                    | yes j ↦ rw (lt-ltb (n / 4) 32 j) (same_half s.high (omega (arith, k, l)))
                    | no j ↦ rw (le-ltb (n / 4) 32 (omega (arith, j))) (other_half 0 (λ e. omega (arith, j)))
                  ])
            ])
      ]

  pub in_mark : component_set (mark_of s r m) n ≡ adds (component_set s) (temporaries (register_components 2 r (mask_components m))) n
  in_mark = rw (temporaries_numbers r (mask_components m), has_mask r m n) halves_mark

-- a mask without components marks nothing
none_marked : (s : Written) (r : ℕ) → mark_of s r 0 ≡ s
unfolding mark_of
none_marked s r = go (ltb r 16) (ltb r 32)
  where
    nothing_more : (half : ℕ) → marked_half half r 0 ≡ half
    nothing_more half =
        let none : 0 % 16 * 2 ^ (r % 16 * 4) ≡ 0 = omega arith in
        ap (bit_or half) none ∙ or_zero_r half

    go : (a b : Bool) → cond a (record { low = marked_half s.low r 0; high = s.high }) (cond b (record { low = s.low; high = marked_half s.high r 0 }) s) ≡ s
    go true b = ap (λ half. record { low = half; high = s.high }) (nothing_more s.low)
    go false true = ap (λ half. record { low = s.low; high = half }) (nothing_more s.high)
    go false false = refl

-- a token's write: a temporary's components are marked, and those of other registers are not kept
pub in_written : (s : Written) (d : MaskedRegister) → (d.kind ≡ 2 → d.number < 32) → (n : ℕ)
    → component_set (mark_of s d.number (cond (eqb d.kind 2) d.mask 0)) n
    ≡ adds (component_set s) (temporaries (writes_into (Some d))) n
in_written s d h n = go (eqb d.kind 2) refl
  where
    go : (b : Bool) → eqb d.kind 2 ≡ b
        → component_set (mark_of s d.number (cond b d.mask 0)) n ≡ adds (component_set s) (temporaries (writes_into (Some d))) n
    go true e =
        let k = eqb-true d.kind 2 e in
        in_mark s d.number d.mask (h k) n
        ∙ ap (λ k. adds (component_set s) (temporaries (register_components k d.number (mask_components d.mask))) n) (sym k)
    go false e =
        rw (none_marked s d.number, temporaries_other d.kind d.number e (mask_components d.mask)) (sym (or-false (component_set s n)))
