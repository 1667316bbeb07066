-- The goals of `bias` that the check leaves.
use Prim.Native.Nat.{◌<◌}
use mathlib.Core.Bool.{Bool, ◌&&◌}
use lib.Dec.{T}
use lib.IntN.{ℤ}
use lib.Ieee as Ieee
use lib.Signed.{mag}
use mir.Syntax.{w8}
use mir.Val.{to_z, of_z, SFits}
use borrow.Author.Rules.{rules}
use Rattle.bytecode.specs.Bias.{is_eighth, eighth_of}
use Rattle.laws.proofs.Every.{signed_bytes, both_left, both_right}
use Rattle.bytecode.proofs.Floats.{eq_f, eq_f→eq}
use Rattle.bytecode.proofs.biases.bias.Goals as goal

-- `bias` meets its contract: antt computes the float at each of the 256 signed bytes, and tests it.
-- Assumes nothing.
-- the machine's answer
made : ℤ → Ieee.Float
made z = Ieee.div Ieee.binary32 (Ieee.of_int Ieee.binary32 (to_z w8 (of_z w8 z))) (Ieee.of_bits Ieee.binary32 1090519040)

right : ℤ → Bool
right z = eq_f (made z) (eighth_of z) && is_eighth z (made z)

all : (z : ℤ) → mag z < 128 → T (right z)
unfolding made right is_eighth eighth_of Ieee.div Ieee.of_int Ieee.of_bits Ieee.round Ieee.units Ieee.size Ieee.odd Ieee.of_fields Ieee.climb Ieee.span
all z h = signed_bytes right tt tt z h

pub returns : goal.returns
unfolding made right
returns c =
    let b = c.args.sampler.bias in
    let f : SFits w8 b = search rules in
    let t = all b f.sfits in
    record {
      float = eq_f→eq (made b) (eighth_of b) (both_left (eq_f (made b) (eighth_of b)) (is_eighth b (made b)) t);
      exact = both_right (eq_f (made b) (eighth_of b)) (is_eighth b (made b)) t;
    }
