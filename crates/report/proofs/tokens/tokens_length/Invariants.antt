use Rattle.std.proofs.Common.{◌*◌}
use Rattle.layout.specs.Programs.{token_count}
use Rattle.report.specs.computed.Writers.{all_lines}
use Rattle.report.specs.computed.Turn.{text_left}
use Rattle.report.proofs.Turn.{Along}
use Rattle.report.proofs.tokens.tokens_length.Given as goal

abbrev pub invariant-loop-line : goal.invariant-loop-line
invariant-loop-line l =
    Along (all_lines l.stage l.bytes) (128 * token_count l.bytes) 0 l.total (text_left l.line-iterator) l.line-iterator.left
