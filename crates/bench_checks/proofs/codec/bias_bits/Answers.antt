-- An eighth of a byte is a number, so that it has bits.
use Rattle.std.specs.Prelude.{T, not, ℤ, pos, negsuc, Float}
use Rattle.std.specs.Float.Ieee.{nan, inf, fin, is_nan}
use Rattle.bytecode.specs.Bias.{is_eighth}
use Rattle.bench_checks.proofs.codec.bias_bits.Goals as goal

is_number : (b : ℤ) (x : Float) → T (is_eighth b x) → T (not (is_nan x))
unfolding is_eighth is_nan
is_number (pos n) nan t = t
is_number (negsuc n) nan t = t
is_number b (inf s) t = tt
is_number b (fin s m e) t = tt

pub float_to_bits-result : goal.float_to_bits-result
float_to_bits-result c = is_number _ _ c.bias-eighth.ensures.exact
