-- Shifts to the right: a number until nothing is left of it, and a shift by two bits at a time.
-- Assumes nothing.
use Prim.Native.Nat.{ℕ, zero, suc, ◌*◌, ◌/◌, ◌^◌, ◌≤◌, ◌<◌}
use mathlib.Core.Path.{◌≡◌, refl, sym, ap, ◌∙◌}
use native.Mathlib.Nat.{mul-suc, pow-suc, pow-le-pow_right, lt_of_lt_of_le, div-eq_of_lt}
use lib.Pow.{pow-add}

-- a number of m digits, in any base, has none further on
pub shifted_out : (base n m k : ℕ) → zero < base → n < base ^ m → m ≤ k → n / base ^ k ≡ 0
shifted_out base n m k b h l = div-eq_of_lt (lt_of_lt_of_le h (pow-le-pow_right b l))

-- two bits are one digit in base 4
pub by_twos : (k : ℕ) → 2 ^ (2 * k) ≡ 4 ^ k
by_twos zero = refl
by_twos (suc k) = ap (λ n. 2 ^ n) (mul-suc 2 k) ∙ pow-add 2 (2 * k) 2 ∙ ap (λ n. n * 4) (by_twos k) ∙ sym (pow-suc 4 k)
