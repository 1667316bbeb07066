-- The goals of `bias` that the check leaves.
use borrow.Author.Rules.{rules}
use mir.Syntax.{w8}
use mir.ValLaws.{to_z-of_z}
use Rattle.listing.specs.Items.{bias_text}
use Rattle.listing.proofs.Writing.{◌and◌}
use Rattle.listing.proofs.text.Writer.bias.Goals as goal

pub returns : goal.returns
unfolding bias_text
returns c =
    let plain = to_z-of_z w8 c.args.s.bias (search rules) in
    c.bytes.ensures and (rw plain at c.signed.ensures)
