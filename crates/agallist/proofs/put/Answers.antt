use Rattle.std.proofs.Common.{le_trans, arith}
use Rattle.listing.proofs.PrintLaws.{appended, not_refused}
use Rattle.agallist.proofs.put.Goals as goal

pub slice_bounds-write_all-end : goal.slice_bounds-write_all-end
slice_bounds-write_all-end g c =
    let a = appended c.report.ensures.prints (le_trans c.report.ensures.short c.requires) c.in-Ok.length c.in-Ok.is in
    omega (arith, a.room, c.report.ensures.short, c.requires, c.report.auto.out)

pub returns : goal.returns
returns g c =
    let a = appended c.report.ensures.prints (le_trans c.report.ensures.short c.requires) c.in-Ok.length c.in-Ok.is in
    rw a.text at c.write_all.ensures.bytes

pub unreachable-requires : goal.unreachable-requires
unreachable-requires g c =
    not_refused c.report.ensures.prints (le_trans c.report.ensures.short c.requires) c.in-Err.field-0 c.in-Err.is
