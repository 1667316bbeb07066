-- The goals of `indentation` that the check leaves.
use borrow.Author.Rules.{rules}
use Prim.Native.Nat.{ℕ, ◌*◌, ◌≤◌}
use mathlib.Core.List.{List}
use lib.ListN.{replicate}
use lib.Seq.{length-take-le}
use Rattle.listing.proofs.Writing.{at_most, take-replicate}
use Rattle.listing.proofs.text.Writer.indentation.Goals as goal

abbrev spaces : List ℕ
spaces = replicate 32 32

pub returns : goal.returns
returns c =
    let width = 2 * c.args.depth in
    let narrow : width ≤ 32 = search rules in
    rw (← take-replicate width 32 32 narrow) (at_most 32 (rw (length-take-le width spaces narrow) narrow) c.copied.ensures)
