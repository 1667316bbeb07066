-- The goals of `token_at` that the check leaves.
use mathlib.Core.Path.{◌∙◌}
use Rattle.reader.proofs.ReadsInOrder.{reads_token}
use Rattle.report.proofs.Lined.{is_ok_unless}
use Rattle.report.proofs.tokens.token_at.Goals as goal

pub unwrap-requires : goal.unwrap-requires
unwrap-requires c =
    is_ok_unless _ (λ r h. let e = c.read_at.ensures.answer ∙ reads_token c.args.bytes.now c.args.token _ c.requires in cc)

pub returns : goal.returns
returns c =
    let e = c.read_at.ensures.answer ∙ reads_token c.args.bytes.now c.args.token _ c.requires in
    cc
