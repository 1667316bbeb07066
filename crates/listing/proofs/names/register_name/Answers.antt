-- The goals of `register_name` that the check leaves.
use mathlib.Core.Path.{refl, sym}
use native.Mathlib.Omega.{arith}
use Rattle.listing.specs.Names.{register_name}
use Rattle.listing.specs.computed.Writers.{stage_number}
use Rattle.listing.proofs.NameLaws.{both_name, no_name}
use Rattle.listing.proofs.names.register_name.Goals as goal

pub returns-in-0-default-clause-name : goal.returns-in-0-default-clause-name
unfolding register_name
returns-in-0-default-clause-name c = rw c.in-0-default.is-0 (sym (both_name (stage_number c.args.stage)))

pub returns-in-1-Vertex-clause-name : goal.returns-in-1-Vertex-clause-name
unfolding register_name
returns-in-1-Vertex-clause-name c = rw (c.in-1-Vertex.is-0, c.in-1-Vertex.is-1) refl

pub returns-in-1-Fragment-clause-name : goal.returns-in-1-Fragment-clause-name
unfolding register_name
returns-in-1-Fragment-clause-name c = rw (c.in-1-Fragment.is-0, c.in-1-Fragment.is-1) refl

pub returns-in-2-Vertex-clause-name : goal.returns-in-2-Vertex-clause-name
unfolding register_name
returns-in-2-Vertex-clause-name c = rw (c.in-2-Vertex.is-0, c.in-2-Vertex.is-1) refl

pub returns-in-2-Fragment-clause-name : goal.returns-in-2-Fragment-clause-name
unfolding register_name
returns-in-2-Fragment-clause-name c = rw (c.in-2-Fragment.is-0, c.in-2-Fragment.is-1) refl

pub returns-in-3-Vertex-clause-name : goal.returns-in-3-Vertex-clause-name
unfolding register_name
returns-in-3-Vertex-clause-name c = rw (c.in-3-Vertex.is-0, c.in-3-Vertex.is-1) refl

pub returns-in-3-Fragment-clause-name : goal.returns-in-3-Fragment-clause-name
unfolding register_name
returns-in-3-Fragment-clause-name c = rw (c.in-3-Fragment.is-0, c.in-3-Fragment.is-1) refl

pub returns-in-4-default-clause-name : goal.returns-in-4-default-clause-name
unfolding register_name
returns-in-4-default-clause-name c = rw c.in-4-default.is-0 (sym (both_name (stage_number c.args.stage)))

pub returns-in-5-default-clause-name : goal.returns-in-5-default-clause-name
unfolding register_name
returns-in-5-default-clause-name c = rw c.in-5-default.is-0 (sym (both_name (stage_number c.args.stage)))

pub returns-in-6-default-clause-name : goal.returns-in-6-default-clause-name
unfolding register_name
returns-in-6-default-clause-name c = rw c.in-6-default.is-0 (sym (both_name (stage_number c.args.stage)))

pub returns-in_default-clause-name : goal.returns-in_default-clause-name
returns-in_default-clause-name c = sym (no_name _ _ (omega arith))
