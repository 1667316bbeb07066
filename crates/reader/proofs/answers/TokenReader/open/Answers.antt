-- The goals of `open` that the check leaves.
use native.Mathlib.Omega.{arith}
use Rattle.reader.proofs.ReadingLaws.{opens, too_short, long_enough}
use Rattle.reader.proofs.answers.TokenReader.open.Goals as goal

pub returns-then-program-lt7 : goal.returns-then-program-lt7
returns-then-program-lt7 c = opens _ _ (rw c.refusal.ensures (too_short _ (omega arith)))

pub returns : goal.returns
returns c = opens _ _ (long_enough _ (omega arith))
