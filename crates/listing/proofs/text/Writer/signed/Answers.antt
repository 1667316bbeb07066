-- The goals of `signed` that the check leaves.
use mir.Syntax.{w8}
use mir.ValLaws.{to_z-of_z}
use Rattle.listing.proofs.Notation.{signed}
use Rattle.listing.proofs.Writing.{◌and◌}
use Rattle.listing.proofs.text.Writer.signed.Goals as goal

pub returns : goal.returns
returns c =
    let plain = to_z-of_z w8 c.args.value c.ranges.value in
    rw (signed c.args.value, ← plain, ← c.unsigned_abs.ensures.value, ← c.from.ensures) (c.when.ensures and c.decimal.ensures)
