-- The goals of `put_destination` that the check leaves.
use mathlib.Core.Path.{◌∙◌, ap}
use lib.ListN.{length-set}
use Rattle.bytecode.specs.computed.Stored.{with_bytes}
use Rattle.bytecode.proofs.Stored.{word_stored}
use Rattle.agal_c.proofs.FieldBytes.{destination_bytes_lem}
use Rattle.agal_c.proofs.flat.put_destination.Goals as goal

pub returns : goal.returns
returns c =
    c.put_word.ensures
    ∙ word_stored _ 5 _ (simp length-set c.requires.in_bounds)
    ∙ ap (with_bytes c.args.out.now 4) (destination_bytes_lem c.args.used c.args.field c.requires.field_value)
