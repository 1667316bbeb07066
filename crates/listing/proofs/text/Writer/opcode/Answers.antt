-- The goals of `opcode` that the check leaves.
use Prim.Native.Nat.{◌+◌, ◌-◌, ◌*◌}
use lib.ListN.{drop}
use native.Mathlib.Omega.{arith}
use Rattle.listing.proofs.NameLaws.{short, opcodes, opcode_name_lem}
use Rattle.listing.proofs.Writing.{at_most}
use Rattle.listing.proofs.text.Writer.opcode.Goals as goal

pub returns : goal.returns
returns c =
    let o = c.args.opcode in
    rw (← opcode_name_lem o c.requires.listed) (at_most 3 (omega (arith, short (3 * o + 3 - 3 * o) (drop (3 * o) opcodes))) c.bytes.ensures)
