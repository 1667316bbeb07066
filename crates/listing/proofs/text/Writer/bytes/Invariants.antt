use Rattle.std.proofs.Common.{take}
use Rattle.listing.specs.computed.Writers.{Writes}
use Rattle.listing.proofs.text.Writer.bytes.Given as goal

abbrev pub invariant-loop-byte : goal.invariant-loop-byte
invariant-loop-byte l = Writes (take l.byte-index l.bytes) l.byte-index l.initial.self l.self
