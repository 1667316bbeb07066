-- The goals of `next` that the check leaves.
use borrow.Author.Rules.{rules}
use Rattle.report.proofs.Turn.{inside, low}
use Rattle.report.proofs.tokens.LinesIterator.next.Goals as goal

pub overflow_add-self : goal.overflow_add-self
overflow_add-self c =
    let w = c.args.self.now in
    let l = inside w.stage w.bytes.now w.token w.opened c.requires c.if-self-eq0.false in
    search rules

pub opened_after-requires : goal.opened_after-requires
opened_after-requires c =
    let w = c.args.self.now in
    low w.stage w.bytes.now w.token w.opened c.requires c.if-self-eq0.false c.token_at-token.ensures
