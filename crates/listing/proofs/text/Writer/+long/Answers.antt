-- The goals of `long` that the check leaves.
use native.Mathlib.Omega.{arith}
use Rattle.listing.proofs.Notation.{one_digit, more_digits}
use Rattle.listing.proofs.Writing.{◌and◌, at_most}
use Rattle.listing.proofs.text.Writer.+long.Goals as goal

pub returns-then-n-lt10 : goal.returns-then-n-lt10
returns-then-n-lt10 t c = rw (one_digit c.args.n c.if-n-lt10.true) (at_most c.args.most c.requires.le_most c.byte.ensures)

pub returns : goal.returns
returns t c =
    rw (more_digits c.args.n c.if-n-lt10.false) (at_most c.args.most (omega (arith, c.requires.le_most)) (c.long.ensures and c.byte-2.ensures))
