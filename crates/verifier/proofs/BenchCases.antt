-- The cases of the paper's bench checks that are to be proved, computed.
-- Assumes nothing.
use Rattle.std.specs.Prelude.{Result}
use mathlib.Core.List.{List, map, Memᴰ}
use mathlib.Core.Path.{◌≡◌, refl, sym, ap, ◌∙◌}
use Rattle.layout.specs.Opcodes.{flow_of, row_of, shape_of_row, row_count2}
use Rattle.layout.specs.Records.{token_of}
use Rattle.bytecode.specs.Decode.{unused_part, undefined_part}
use Rattle.registers.specs.Counts.{count_of}
use Rattle.registers.specs.Limits.{limit_of}
use Rattle.layout.specs.Selections.{selectors1, selectors2, components2}
use Rattle.paths.specs.computed.Check.{check_from}
use Rattle.verifier.specs.Verdict.{verdict}
use Rattle.verifier.specs.declared.answers.Program.{Program}
use Rattle.bytecode.specs.declared.answers.Refusal.{Refusal}
use Rattle.verifier.specs.BenchCases.{Case, bench_cases, BenchChecks}

-- the check's answer to a case
abbrev answered : Case → Result Program Refusal
answered k = verdict k.edition k.bytes

all : map answered bench_cases ≡ map (λ k. k.answer) bench_cases
unfolding verdict check_from flow_of selectors1 selectors2 components2 row_count2 count_of limit_of unused_part undefined_part token_of row_of shape_of_row
all = refl

each : (k : Case) {ks : List Case} → map answered ks ≡ map (λ k. k.answer) ks → Memᴰ k ks → answered k ≡ k.answer
each k e (Memᴰ.head {x = x} p) = let q : answered x ≡ x.answer = cc in ap answered p ∙ q ∙ sym (ap (λ k. k.answer) p)
each k e (Memᴰ.tail {x = x} {xs = xs} m) = let q : map answered xs ≡ map (λ k. k.answer) xs = cc in each k q m

pub bench_checks : BenchChecks
bench_checks k m = each k all m
