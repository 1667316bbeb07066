-- The goals of `signed_byte` that the check leaves: that both readings of a byte agree is one test over all 256.
use borrow.Author.Rules.{rules}
use mir.Syntax.{w8}
use mir.Val.{to_z, of_z}
use Rattle.layout.specs.Records.{signed}
use Rattle.laws.proofs.Every.{below, eq_z→eq}
use Rattle.laws.specs.computed.Tests.{eq_z}
use Rattle.layout.proofs.unpack.signed_byte.Goals as goal

pub returns : goal.returns
unfolding signed
returns c =
    let b = c.args.byte in
    rw c.cast_signed.ensures
    (eq_z→eq (to_z w8 (of_z w8 (to_z w8 b))) (signed b) (below (λ b. eq_z (to_z w8 (of_z w8 (to_z w8 b))) (signed b)) 256 tt b (search rules)))
