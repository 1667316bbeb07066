-- The goals of `outright_fault` that the check leaves.
use mathlib.Core.Path.{sym, ap, ◌∙◌}
use Rattle.bytecode.proofs.DecodeLaws.{wrong_length}
use Rattle.agal_c.proofs.CallLaws.{unlisted, its_shape}
use Rattle.agal_c.proofs.flat.outright_fault.Goals as goal

pub returns-then-token-ne24-clause-told : goal.returns-then-token-ne24-clause-told
returns-then-token-ne24-clause-told c = sym (wrong_length _ c.if-token-ne24.true).answer

pub returns-else-raw-clause-told : goal.returns-else-raw-clause-told
returns-else-raw-clause-told c = unlisted c.args.token.now c.if-token-ne24.false c.fields_of.ensures c.of-raw.ensures c.if-raw.false

pub returns-then-raw-clause-listed : goal.returns-then-raw-clause-listed
returns-then-raw-clause-listed c =
    sym (ap (λ k. k.listed) (its_shape c.args.token.now c.if-token-ne24.false c.fields_of.ensures c.of-raw.ensures)) ∙ c.if-raw.true
