use Rattle.std.proofs.Common.{length, vec_len, ◌≤◌}
use Rattle.bench_checks.proofs.hex.read.Given as goal

abbrev pub invariant-loop-left : goal.invariant-loop-left
invariant-loop-left l = vec_len l.bytes ≤ 65536

abbrev pub decreases-loop-left : goal.decreases-loop-left
decreases-loop-left l = length l.left
