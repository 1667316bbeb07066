-- The goal of `read_at` that the check leaves.
use Rattle.std.proofs.Common.{rules}
use Rattle.reader.proofs.ReadingLaws.{reads_placed}
use Rattle.reader.proofs.steps.read_at.Goals as goal

pub returns : goal.returns
returns c =
    reads_placed c.args.program.now c.args.token _ _ c.token_bytes.ensures c.decode.ensures.answer c.map_err.ensures.cases (search rules)
