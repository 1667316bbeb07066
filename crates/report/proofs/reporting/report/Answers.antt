-- The goals of `report` that the check leaves.
use mathlib.Core.Path.{subst}
use Rattle.listing.proofs.PrintLaws.{too_short}
use Rattle.report.specs.computed.Writers.{Fits}
use Rattle.report.proofs.Room.{put_printed}
use Rattle.report.proofs.Whole.{reported}
use Rattle.report.proofs.reporting.report.Goals as goal

pub returns-then-not-fits : goal.returns-then-not-fits
returns-then-not-fits c =
    let (long, short) = subst (Fits _ _) c.if-not-fits.true c.fits.ensures in
    rw c.refusal.ensures (reported c.args.input.now c.of-text.ensures (too_short _ _ long, short))

pub returns : goal.returns
returns c =
    let put = c.put in
    reported c.args.input.now c.of-text.ensures (put_printed put.ensures (subst (Fits _ _) c.if-not-fits.false c.fits.ensures) put.auto.out)
