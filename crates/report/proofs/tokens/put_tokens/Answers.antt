-- The goals of `put_tokens` that the check leaves.
use mathlib.Core.Path.{◌∙◌}
use native.Mathlib.Omega.{arith}
use Rattle.listing.proofs.Writing.{onwards}
use Rattle.report.proofs.Turn.{goes_on, grows}
use Rattle.report.proofs.tokens.put_tokens.Goals as goal

pub loop-line-preserved : goal.loop-line-preserved
loop-line-preserved c =
    let before = c.loop-line.invariant in
    let next = c.in-Some.ensures.steps in
    let put = c.put-place in
    let a = put.ensures.appends in
    record {
      along = goes_on _ _ _ before.along next put.ensures.ends a.room;
      onward = omega (arith, before.onward, a.onward);
      rest = a.rest ∙ onwards c.loop-line.place put.result _ _ a.onward before.rest;
      text = grows _ _ _ before.along next a before.text;
    }
