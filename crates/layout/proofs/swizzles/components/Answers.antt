-- The goals of `components` that the check leaves: the table's rule is one test over all 256 entries.
use borrow.Author.Rules.{rules}
use Rattle.layout.specs.Swizzles.{components_of}
use Rattle.layout.specs.declared.swizzles.TheConstants.{COMPONENTS}
use Rattle.laws.proofs.Every.{entry}
use Rattle.layout.proofs.swizzles.components.Goals as goal

pub returns : goal.returns
unfolding components_of
returns c = entry components_of COMPONENTS tt c.args.swizzle (search rules)
