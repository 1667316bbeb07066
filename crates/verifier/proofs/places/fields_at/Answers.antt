-- The goals of `fields_at` that the check leaves.
use mathlib.Core.Path.{◌∙◌}
use Rattle.verifier.proofs.StepsLaw.{fields_read}
use Rattle.verifier.proofs.places.fields_at.Goals as goal

pub returns : goal.returns
returns c = let start = c in c.fields_of.ensures ∙ fields_read start.args.bytes.now start.args.token start.requires
