-- The goals of `put` that the check leaves.
use borrow.Author.Rules.{rules}
use Rattle.report.proofs.Lined.{lined, has_line, is_ok_unless}
use Rattle.report.proofs.tokens.Line.put.Goals as goal

pub unwrap-requires : goal.unwrap-requires
unwrap-requires c = is_ok_unless _ (has_line _ _ _ c.args.self.nameable c.args.out.now c.args.at c.requires c.line.ensures)

pub returns : goal.returns
returns c =
    let line = c.line in
    lined _ _ _ c.args.self.nameable c.args.out.now c.args.at c.requires line.ensures line.auto.out _ c.unwrap.ensures (search rules)
