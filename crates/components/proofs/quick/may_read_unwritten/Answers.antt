-- The goals of `may_read_unwritten` that the check leaves.
use Rattle.std.proofs.Common.{false, rules}
use Rattle.components.proofs.QuickLaws.{ordinary_means, ordinary_none}
use Rattle.components.proofs.quick.may_read_unwritten.Goals as goal

pub returns-then-not-lacks_some : goal.returns-then-not-lacks_some
returns-then-not-lacks_some c =
    let a = c.args in
    ordinary_means a.current a.f false (ordinary_none a.current a.f (search rules) (search rules))
