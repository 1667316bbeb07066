-- No first line has more than 49 bytes.
-- Assumes nothing.
use Prim.Native.Nat.{◌≤◌}
use native.Mathlib.Omega.{arith}
use Rattle.listing.specs.computed.Writers.{first_most}
use Rattle.listing.specs.declared.first.FirstLine.{FirstLine}
use Rattle.listing.specs.declared.first.FirstLine.TheVariants.{Accepted, Refused, NoEdition, InputTooLong}

pub first_most_lem : (first : FirstLine) → first_most first ≤ 49
first_most_lem (Accepted h) = omega arith
first_most_lem (Refused r) = omega arith
first_most_lem NoEdition = omega arith
first_most_lem InputTooLong = omega arith
