-- The goals of `direct_unwritten` that the check leaves.
use Rattle.std.proofs.Common.{rules}
use Rattle.layout.specs.Records.{direct_of, token_of}
use Rattle.components.specs.computed.Access.{field_at, rows_at, components_at}
use Rattle.components.proofs.AccessLaws.{none_missing}
use Rattle.components.proofs.access.direct_unwritten.Goals as goal

pub returns-then-not-lacks_some : goal.returns-then-not-lacks_some
returns-then-not-lacks_some c =
    let a = c.args in
    let raw = a.raw in
    none_missing a.current (rows_at a.source raw.fields.opcode) (components_at a.source (token_of raw.shape raw.fields)) (direct_of (field_at a.source raw.fields)) (search rules)
