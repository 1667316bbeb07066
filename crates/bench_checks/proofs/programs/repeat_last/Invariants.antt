use Rattle.std.proofs.Common.{◌≤◌, vec_len}
use Rattle.bench_checks.proofs.programs.repeat_last.Given as goal

abbrev pub invariant-loop : goal.invariant-loop
invariant-loop l = vec_len l.fn.bytes ≤ vec_len l.bytes
