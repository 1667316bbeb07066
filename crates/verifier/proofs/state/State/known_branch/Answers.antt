-- The goals of `known_branch` that the check leaves.
use mathlib.Core.Path.{◌∙◌, sym}
use Rattle.laws.proofs.Every.{neither}
use Rattle.verifier.proofs.GlanceLaw.{branch_known}
use Rattle.verifier.proofs.state.State.known_branch.Goals as goal

pub returns : goal.returns
returns c =
    let none = neither _ _ c.if-is_misplaced-opens_unwritten.false in
    branch_known _ _ _ _ (sym c.is_lawful_branch.ensures.answer ∙ c.if-not-is_lawful_branch.false) c.flow_of-flow.ensures
    (sym c.is_misplaced.ensures ∙ none.0) (sym c.opens_unwritten.ensures ∙ none.1)
