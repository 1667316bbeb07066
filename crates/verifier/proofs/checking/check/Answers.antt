-- The goals of `check` that the check leaves.
use mathlib.Core.Path.{◌∙◌, sym, ap}
use Rattle.std.specs.Prelude.{Err}
use Rattle.std.proofs.lemmas.Result.{err_from_is_err_and}
use Rattle.verifier.specs.Exact.{HeaderRight}
use Rattle.verifier.proofs.HeaderLaw.{header_refuses, header_right, tokens_answer, has_header, few_tokens}
use Rattle.verifier.proofs.ExactCheck.{checks}
use Rattle.verifier.proofs.StepsLaw.{unlisted_refused, judged}
use Rattle.verifier.proofs.checking.check.Goals as goal
use Rattle.verifier.proofs.checking.check.Goals.{In_ok-header_fault}

-- the header has no fault, where the code goes on
right : (x : In_ok-header_fault) → HeaderRight x.args.edition x.args.bytes.now
right x = header_right _ _ _ (sym x.header_fault.ensures ∙ x.in_ok-header_fault.was)

pub returns-in_err-header_fault : goal.returns-in_err-header_fault
returns-in_err-header_fault c =
    let told = err_from_is_err_and c.from_residual.result c.from_residual.ensures.1 in
    rw (told.1, told.2) (checks _ _ _ (header_refuses c.args.edition _ _ (sym c.header_fault.ensures ∙ c.in_err-header_fault.was)))

pub returns-then-opens_unlisted : goal.returns-then-opens_unlisted
returns-then-opens_unlisted c =
    let header = right (goal.at.returns-then-opens_unlisted c).In_ok-header_fault in
    let unlisted = unlisted_refused c.args.edition _ (has_header c.args.edition _ header) (sym c.opens_unlisted.ensures ∙ c.if-opens_unlisted.true) in
    checks _ _ _ (ap Err c.refusal.ensures ∙ unlisted ∙ judged c.args.edition _ (has_header c.args.edition _ header) ∙ sym (tokens_answer c.args.edition _ header))

pub check_tokens-requires-clause-in_bounds : goal.check_tokens-requires-clause-in_bounds
check_tokens-requires-clause-in_bounds c = has_header c.args.edition _ (right (goal.at.check_tokens-requires-clause-in_bounds c).In_ok-header_fault)

pub check_tokens-requires-clause-bytes_bound : goal.check_tokens-requires-clause-bytes_bound
check_tokens-requires-clause-bytes_bound c = few_tokens c.args.edition _ (right (goal.at.check_tokens-requires-clause-bytes_bound c).In_ok-header_fault)

pub returns : goal.returns
returns c =
    let header = right (goal.at.returns c).In_ok-header_fault in
    checks _ _ _ (c.check_tokens.ensures ∙ judged c.args.edition _ (has_header c.args.edition _ header) ∙ sym (tokens_answer c.args.edition _ header))
