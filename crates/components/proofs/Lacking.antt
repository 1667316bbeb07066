-- What `lacks` answers, as the code finds it: register by register.
-- Assumes nothing.
use Prim.Native.Nat.{ℕ, zero, suc, ◌+◌, ◌-◌, ◌*◌, ◌/◌, ◌%◌, ◌^◌, ◌<◌, ◌≤◌}
use mathlib.Core.Bool.{false, ◌||◌}
use mathlib.Core.Path.{◌≡◌, refl, sym, ◌∙◌}
use native.Mathlib.Numerals.{add-one}
use native.Mathlib.Omega.{arith}
use Rattle.std.proofs.lemmas.Bool.{or_parts}
use Rattle.paths.specs.computed.Check.{lacks}
use Rattle.layout.specs.Swizzles.{mask_components}
use Rattle.components.specs.computed.Written.{half_of, component_set, lacks_row, lacks_of}
use Rattle.components.specs.declared.written.Written.{Written}
use Rattle.components.proofs.Bits.{misses_is, misses_none}
use Rattle.components.proofs.Numbers.{numbers, lacks_rows, lacks_keep, in_set}

lacks_register : (s : Written) (r m : ℕ) → lacks (component_set s) (numbers r (mask_components m)) ≡ lacks_row s r m
lacks_register s r m =
    rw (
      lacks_keep,
      lacks_keep,
      lacks_keep,
      lacks_keep,
      in_set s r 0 (omega arith),
      in_set s r 1 (omega arith),
      in_set s r 2 (omega arith),
      in_set s r 3 (omega arith),
    )
    (misses_is m (half_of s r / 2 ^ (r % 16 * 4)))

lacks_more : (s : Written) (r n m : ℕ) → lacks_of s r (suc n) m ≡ (lacks_row s r m || lacks_of s (suc r) n m)
unfolding lacks_of
lacks_more s r n m = lacks_rows (component_set s) r n (mask_components m) ∙ rw (lacks_register s r m)

-- the first of the registers up to one, and the others
pub lacks_first : (s : Written) (r e m : ℕ) → r < e → lacks_of s r (e - r) m ≡ (lacks_row s r m || lacks_of s (r + 1) (e - (r + 1)) m)
lacks_first s r e m h =
    let k : e - r ≡ suc (e - (r + 1)) = omega arith in
    rw (k, add-one r) (lacks_more s r (e - suc r) m)

pub lacks_none : (s : Written) (r e m : ℕ) → e ≤ r → lacks_of s r (e - r) m ≡ false
unfolding lacks_of
lacks_none s r e m h = let k : e - r ≡ 0 = omega arith in rw k

-- registers that have all four components lack none, whatever is read
pub lacks_nothing : (s : Written) (r n m : ℕ) → lacks_of s r n 15 ≡ false → lacks_of s r n m ≡ false
unfolding lacks_of
lacks_nothing s r zero m h = refl
lacks_nothing s r (suc n) m h =
    let both = sym (lacks_more s r n 15) ∙ h in
    let row = misses_none m (half_of s r / 2 ^ (r % 16 * 4)) (or_parts (lacks_row s r 15) (lacks_of s (suc r) n 15) both).0 in
    let rest = lacks_nothing s (suc r) n m (or_parts (lacks_row s r 15) (lacks_of s (suc r) n 15) both).1 in
    lacks_more s r n m ∙ rw (row, rest)
