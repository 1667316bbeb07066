-- The goals of `encode` that the check leaves.
use mathlib.Core.Path.{◌∙◌, sym}
use Rattle.bytecode.proofs.EncodeLaws.{not_encodable, too_short, written}
use Rattle.bytecode.proofs.encoding.encode.Goals as goal

pub returns-then-not-encodable : goal.returns-then-not-encodable
returns-then-not-encodable c = rw c.refusal.ensures (not_encodable _ _ (sym c.encodable.ensures ∙ c.if-not-encodable.true))

pub returns-then-out-lt24 : goal.returns-then-out-lt24
returns-then-out-lt24 c =
    rw c.refusal-then-out-lt24.ensures (too_short _ _ (sym c.encodable.ensures ∙ c.if-not-encodable.false) c.if-out-lt24.true)

pub returns : goal.returns
returns c =
    rw (c.write_fields.ensures, c.pack_token.ensures) (written _ _ (sym c.encodable.ensures ∙ c.if-not-encodable.false) c.if-out-lt24.false)
