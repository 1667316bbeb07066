use Rattle.std.proofs.Common.{◌-◌, ◌≡◌}
use Rattle.components.specs.computed.Written.{lacks_of}
use Rattle.components.proofs.written.Written.lacks.Given as goal

-- the rows so far lack nothing
abbrev pub invariant-loop-row : goal.invariant-loop-row
invariant-loop-row l = lacks_of l.self l.row (l.end - l.row) l.components ≡ lacks_of l.self l.register l.rows l.components
