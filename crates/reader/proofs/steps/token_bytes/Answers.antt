-- The goals of `token_bytes` that the check leaves.
use native.Mathlib.Omega.{arith}
use native.Mathlib.Nat.{add-sub_cancel_left}
use Rattle.reader.proofs.ReadingLaws.{no_bytes, its_bytes}
use Rattle.reader.proofs.steps.token_bytes.Goals as goal

pub returns-then-program-lt31 : goal.returns-then-program-lt31
returns-then-program-lt31 c = no_bytes _ _ (omega arith)

pub returns-then-program-token : goal.returns-then-program-token
returns-then-program-token c = no_bytes _ _ (omega arith)

pub returns : goal.returns
returns c = rw add-sub_cancel_left (its_bytes _ _ (omega arith))
