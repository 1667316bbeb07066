-- The goals of `decode` that the check leaves.
use mathlib.Core.Path.{◌∙◌, sym, ap}
use Rattle.layout.specs.Records.{token_of}
use Rattle.bytecode.specs.Decode.{token_fault, outcome}
use Rattle.bytecode.specs.computed.CleanFields.{is_clean}
use Rattle.std.proofs.lemmas.Result.{err_from_is_err_and}
use Rattle.bytecode.proofs.DecodeLaws.{wrong_length, with_told, no_faults, not_told, clean_none, clean_by}
use Rattle.bytecode.proofs.decoding.decode.Goals as goal
use Rattle.bytecode.proofs.decoding.decode.Goals.{then-not-is_clean+in_ok-fault_of, else-not-is_clean}

pub returns-then-bytes-ne24 : goal.returns-then-bytes-ne24
returns-then-bytes-ne24 c = rw c.refusal.ensures (wrong_length _ c.if-bytes-ne24.true)

pub returns-in_err-fault_of : goal.returns-in_err-fault_of
returns-in_err-fault_of c =
    let raw = rw c.read_fields.ensures at c.of-raw.ensures in
    let fault = ap (λ r. outcome (token_fault r.shape r.fields)) raw in
    let told = err_from_is_err_and c.from_residual.result c.from_residual.ensures.1 in
    rw (told.1, told.2) (with_told _ c.if-bytes-ne24.false _ (sym fault ∙ sym c.fault_of.ensures ∙ c.in_err-fault_of.was))

pub returns : goal.returns
returns c =
    let raw = rw c.read_fields.ensures at c.of-raw.ensures in
    let fault = ap (λ r. outcome (token_fault r.shape r.fields)) raw in
    let clean = ap (λ r. is_clean r.shape r.fields) raw in
    let token = c.token.ensures ∙ ap (λ r. token_of r.shape r.fields) raw in
    rw token
    (no_faults _ c.if-bytes-ne24.false (
    elim c.if-not-is_clean.branch [
      | then-not-is_clean+in_ok-fault_of w ↦ not_told _ _ (sym fault ∙ sym w.fault_of.ensures ∙ w.in_ok-fault_of.was)
      | else-not-is_clean w ↦
          ap (λ r. r.number) (clean_none _ _ (clean_by _ _ (sym clean ∙ sym c.is_clean.ensures ∙ w.if-not-is_clean.false)))
    ]
    ))
