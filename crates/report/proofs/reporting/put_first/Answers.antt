-- The goals of `put_first` that the check leaves.
use native.Mathlib.Omega.{arith}
use Rattle.listing.proofs.PrintLaws.{appended, not_refused}
use Rattle.report.proofs.Lined.{is_ok_unless}
use Rattle.report.proofs.Room.{room_for, exactly}
use Rattle.report.proofs.reporting.put_first.Goals as goal

pub unwrap-requires : goal.unwrap-requires
unwrap-requires c =
    let first = c.first_line.ensures in
    is_ok_unless _ (not_refused first.0 (omega (arith, room_for _ first.1 c.requires)))

pub returns : goal.returns
returns c =
    let first = c.first_line in
    let room = room_for _ first.ensures.1 c.requires in
    exactly (appended first.ensures.0 (omega (arith, room)) _ c.unwrap.ensures) first.ensures.1 room first.auto.out
