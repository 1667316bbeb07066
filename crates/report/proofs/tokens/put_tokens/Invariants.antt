use Rattle.std.proofs.Common.{◌≡◌, ◌*◌, ◌≤◌, ◌++◌, take, drop}
use Rattle.layout.specs.Programs.{token_count}
use Rattle.report.specs.computed.Writers.{all_lines}
use Rattle.report.specs.computed.Turn.{text_left}
use Rattle.report.proofs.Turn.{Along}
use Rattle.report.proofs.tokens.put_tokens.Given as goal

abbrev pub invariant-loop-line : goal.invariant-loop-line
invariant-loop-line l =
    record {
      along : Along (all_lines l.stage l.bytes) (128 * token_count l.bytes) l.at l.place (text_left l.line-iterator) l.line-iterator.left;
      onward : l.at ≤ l.place;
      rest : drop l.place l.out ≡ drop l.place l.fn.out;
      text : take l.place l.out ++ text_left l.line-iterator ≡ take l.at l.fn.out ++ all_lines l.stage l.bytes;
    }
