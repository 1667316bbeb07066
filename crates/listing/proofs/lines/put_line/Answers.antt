-- The goals of `put_line` that the check leaves.
use borrow.Author.Rules.{rules}
use mathlib.Core.Path.{◌≡◌}
use native.Mathlib.Omega.{arith}
use Rattle.listing.specs.Line.{line_of}
use Rattle.listing.specs.computed.Writers.{stage_number}
use Rattle.listing.proofs.Writing.{◌and◌, at_most, from_start}
use Rattle.listing.proofs.lines.put_line.Goals as goal

pub returns : goal.returns
unfolding line_of
returns c =
    let same : stage_number c.of-stage.result ≡ c.args.stage = omega (arith, c.of-stage.ensures, c.requires.stage) in
    let w = c.new-w.ensures in
    let all = c.indentation.ensures and c.opcode.ensures and c.destination.ensures and c.operand.ensures and c.operand-2.ensures and c.byte.ensures in
    rw (← same) (from_start (at_most 128 (search rules) all) w.holds w.start (search rules) c.length.ensures)
