-- The goals of `placed` that the check leaves.
use Prim.Native.Nat.{◌*◌, ◌%◌}
use native.Mathlib.Omega.{arith}
use lib.Pow.{shl_exact}
use Rattle.components.proofs.written.placed.Goals as goal

pub returns : goal.returns
returns c = rw (shl_exact {a = c.args.mask % 16} 4 (c.args.register % 16 * 4) 64 (omega arith) (omega arith))
