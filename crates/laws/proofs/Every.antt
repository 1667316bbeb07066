-- A rule that holds of every number below a bound, or of every entry of a table, by one test that antt computes over all of them.
-- Assumes nothing.
use Prim.Native.Nat.{ℕ, zero, suc, ◌+◌, ◌<◌}
use mathlib.Core.Bool.{Bool, true, false, ◌&&◌, ◌||◌, beq, false≢true}
use mathlib.Core.List.{List, [], ◌∷◌}
use mathlib.Core.Path.{◌≡◌, ◌∙◌, refl, sym, subst, ap}
use native.Mathlib.Nat.{add-zero, zero-add, add-suc, suc-add, le_of_suc-le-suc, not-suc-le-zero}
use native.Mathlib.Decide.{dec_lt}
use native.Mathlib.Omega.{arith}
use lib.Dec.{T, eqb, eqb→eq}
use lib.IntN.{ℤ, pos, negsuc}
use lib.ListN.{length, get_or}
use lib.Signed.{mag}
use Rattle.laws.specs.computed.Tests.{every, every_entry, eq_z}

pub both_left : (a b : Bool) → T (a && b) → T a
both_left true b t = tt
both_left false b t = t

pub both_right : (a b : Bool) → T (a && b) → T b
both_right true b t = t
both_right false b t = absurd t

pub is_true : (b : Bool) → T b → b ≡ true
is_true true t = refl
is_true false t = absurd t

pub left : (a b : Bool) → (a && b) ≡ true → a ≡ true
left true b e = refl
left false b e = e

pub right : (a b : Bool) → (a && b) ≡ true → b ≡ true
right true b e = e
right false b e = absurd (false≢true e)

pub both : (a b : Bool) → (a && b) ≡ true → (a ≡ true) × (b ≡ true)
both a b e = (left a b e, right a b e)

pub neither : (a b : Bool) → (a || b) ≡ false → (a ≡ false) × (b ≡ false)
neither true b e = absurd (false≢true (sym e))
neither false b e = (refl, e)

pub both_false : (a b : Bool) → a ≡ false → b ≡ false → (a || b) ≡ false
both_false true b h k = h
both_false false b h k = k

pub same→eq : (a b : Bool) → T (beq a b) → a ≡ b
same→eq true true t = refl
same→eq true false t = absurd t
same→eq false true t = absurd t
same→eq false false t = refl

-- ---- numbers below a bound

pub below : (f : ℕ → Bool) (n : ℕ) → T (every f n) → (k : ℕ) → k < n → T (f k)
below f zero t k h = absurd (not-suc-le-zero h)
below f (suc n) t k h =
    elim (dec_lt k n) [
      | yes l ↦ below f n (both_right (f n) (every f n) t) k l
      | no g ↦ let e : n ≡ k = omega (arith, g) in subst (λ (m : ℕ). T (f m)) e (both_left (f n) (every f n) t)
    ]

-- ---- entries of a table

from : (f : ℕ → ℕ → Bool) (xs : List ℕ) (i : ℕ) → T (every_entry f i xs) → (k : ℕ) → k < length xs → T (f (i + k) (get_or xs k 0))
from f [] i t k h = absurd (not-suc-le-zero h)
from f (x ∷ xs) i t zero h = subst (λ (m : ℕ). T (f m x)) (sym (add-zero i)) (both_left (f i x) (every_entry f (suc i) xs) t)
from f (x ∷ xs) i t (suc k) h =
    subst (λ (m : ℕ). T (f m (get_or xs k 0))) (suc-add i k ∙ sym (add-suc i k))
    (from f xs (suc i) (both_right (f i x) (every_entry f (suc i) xs) t) k (le_of_suc-le-suc h))

-- a table is what f says, entry by entry
pub entry : (f : ℕ → ℕ) (xs : List ℕ) → T (every_entry (λ k x. eqb x (f k)) 0 xs) → (k : ℕ) → k < length xs → get_or xs k 0 ≡ f k
entry f xs t k h =
    eqb→eq (get_or xs k 0) (f k)
    (subst (λ (m : ℕ). T (eqb (get_or xs k 0) (f m))) (zero-add k) (from (λ k x. eqb x (f k)) xs 0 t k h))

-- ---- signed bytes

-- the test passes at every signed byte
pub signed_bytes : (f : ℤ → Bool) → T (every (λ n. f (pos n)) 128) → T (every (λ n. f (negsuc n)) 128) → (z : ℤ) → mag z < 128 → T (f z)
signed_bytes f p n (pos k) h = below (λ k. f (pos k)) 128 p k h
signed_bytes f p n (negsuc k) h = below (λ k. f (negsuc k)) 128 n k h

pub eq_z→eq : (a b : ℤ) → T (eq_z a b) → a ≡ b
eq_z→eq (pos a) (pos b) t = ap pos (eqb→eq a b t)
eq_z→eq (pos a) (negsuc b) t = absurd t
eq_z→eq (negsuc a) (pos b) t = absurd t
eq_z→eq (negsuc a) (negsuc b) t = ap negsuc (eqb→eq a b t)
