-- The bits of two numbers joined.
-- Assumes nothing.
use Prim.Native.Nat.{ℕ, zero, suc, ◌/◌, ◌%◌, ◌^◌, ◌<◌}
use mathlib.Core.Bool.{◌&&◌, ◌||◌}
use mathlib.Core.Path.{◌≡◌, refl}
use native.Mathlib.Omega.{arith}
use lib.Bits.{bit_and, bit_or, and_shr, or_shr, and_mod, or_mod}
use lib.Dec.{eqb}
use Rattle.layout.specs.Swizzles.{bit_of}

and_one : (a b : ℕ) → a < 2 → b < 2 → eqb (bit_and a b) 1 ≡ (eqb a 1 && eqb b 1)
and_one zero b ha hb = refl
and_one (suc zero) zero ha hb = refl
and_one (suc zero) (suc zero) ha hb = refl
and_one (suc zero) (suc (suc b)) ha hb = absurd (omega arith)
and_one (suc (suc a)) b ha hb = absurd (omega arith)

or_one : (a b : ℕ) → a < 2 → b < 2 → eqb (bit_or a b) 1 ≡ (eqb a 1 || eqb b 1)
or_one zero b ha hb = refl
or_one (suc zero) zero ha hb = refl
or_one (suc zero) (suc zero) ha hb = refl
or_one (suc zero) (suc (suc b)) ha hb = absurd (omega arith)
or_one (suc (suc a)) b ha hb = absurd (omega arith)

pub bit_of-bit_and : (a b k : ℕ) → bit_of (bit_and a b) k ≡ (bit_of a k && bit_of b k)
bit_of-bit_and a b k =
    rw (and_shr a b k, and_mod (a / 2 ^ k) (b / 2 ^ k) 1) (and_one (a / 2 ^ k % 2) (b / 2 ^ k % 2) (omega arith) (omega arith))

pub bit_of-bit_or : (a b k : ℕ) → bit_of (bit_or a b) k ≡ (bit_of a k || bit_of b k)
bit_of-bit_or a b k =
    rw (or_shr a b k, or_mod (a / 2 ^ k) (b / 2 ^ k) 1) (or_one (a / 2 ^ k % 2) (b / 2 ^ k % 2) (omega arith) (omega arith))
