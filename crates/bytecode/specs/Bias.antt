-- Document 01, "Layout": the bias as a 32-bit float is exactly b/8; b = 0 gives positive zero.
use Rattle.std.specs.Prelude.{suc, ◌*◌, Bool, true, false, not, ◌&&◌, ◌≡◌, T, eqb, ℤ, pos, negsuc, Float}
use Rattle.std.specs.Float.{nan, inf, fin, binary32}
use Rattle.std.specs.Float.Ieee.{up, down, round}

-- the float ±m * 2 ^ e is finite, has the sign of z (plus at 0), and eight times its magnitude is that of z
unfoldable pub is_eighth : ℤ → Float → Bool
is_eighth (pos n) nan = false
is_eighth (pos n) (inf s) = false
is_eighth (pos n) (fin s m e) = not s && eqb (8 * m * up e) (n * down e)
is_eighth (negsuc n) nan = false
is_eighth (negsuc n) (inf s) = false
is_eighth (negsuc n) (fin s m e) = s && eqb (8 * m * up e) (suc n * down e)

-- an eighth of z as a 32-bit float
unfoldable pub eighth_of : ℤ → Float
eighth_of (pos n) = round binary32 false n 8
eighth_of (negsuc n) = round binary32 true (suc n) 8

-- the promise of bias: which float it is, and that it is the eighth and not a neighbour of it
pub record IsBias (b : ℤ) (r : Float) : Type 0 where
  pub float : r ≡ eighth_of b
  pub exact : T (is_eighth b r)
