-- The goals of `put` that the check leaves.
use Rattle.report.proofs.FirstLine.{both_put}
use Rattle.report.proofs.opening.Text.put.Goals as goal

pub returns-in-Accepted : goal.returns-in-Accepted
returns-in-Accepted c =
    both_put _ _ c.in-Accepted.is c.args.self.lines c.put_first-p.ensures c.put_tokens.ensures
