-- The goals of `answer` that the check leaves.
use borrow.Author.Rules.{rules}
use mathlib.Core.Path.{◌∙◌, sym}
use Rattle.report.proofs.Whole.{tokens_few, accepted_lines, accepted_text, refused_text}
use Rattle.report.proofs.opening.Text.answer.Goals as goal

pub overflow_cast-heading : goal.overflow_cast-heading
overflow_cast-heading c =
    search (rules, tokens_few c.args.edition c.args.bytes.now c.requires _ (sym c.check.ensures.answer ∙ c.in-Ok.is))

pub returns-in-Err : goal.returns-in-Err
returns-in-Err c = refused_text c.args.edition c.args.bytes.now c.requires _ (sym c.check.ensures.answer ∙ c.in-Err.is)

pub returns : goal.returns
returns c = accepted_text c.args.edition c.args.bytes.now c.requires _ (sym c.check.ensures.answer ∙ c.in-Ok.is)

pub invariant_of-result-2 : goal.invariant_of-result-2
invariant_of-result-2 c =
    record { lines = accepted_lines c.args.edition c.args.bytes.now c.requires _ (sym c.check.ensures.answer ∙ c.in-Ok.is) }
