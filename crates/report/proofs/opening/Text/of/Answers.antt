-- The goals of `of` that the check leaves.
use mathlib.Core.Path.{◌∙◌, sym}
use Rattle.report.proofs.Whole.{too_long, no_edition, other_byte, with_edition}
use Rattle.report.proofs.opening.Text.of.Goals as goal

pub returns-then-input-gt49160 : goal.returns-then-input-gt49160
returns-then-input-gt49160 c = too_long _ c.args.input.now c.if-input-gt49160.true

pub returns-in_default : goal.returns-in_default
returns-in_default c = no_edition _ c.args.input.now c.if-input-gt49160.false c.in_default.ensures.cases

pub returns-then-not-is_edition : goal.returns-then-not-is_edition
returns-then-not-is_edition c =
    rw c.refusal.ensures
    (other_byte c.args.input.now c.in-Some.ensures.cases.0 c.if-input-gt49160.false (sym c.is_edition.ensures ∙ c.if-not-is_edition.true))

pub returns : goal.returns
returns c =
    with_edition c.args.input.now c.in-Some.ensures.cases.0 c.if-input-gt49160.false c.edition_of.ensures (sym c.is_edition.ensures ∙ c.if-not-is_edition.false) c.answer.ensures
