-- The goals of `pass_tokens` that the check leaves.
use Rattle.verifier.proofs.GlanceLaw.{run_none, run_more}
use Rattle.verifier.proofs.glance.pass_tokens.Goals as goal

pub loop-token-init : goal.loop-token-init
loop-token-init c = run_none _ _ _ _

pub loop-token-preserved : goal.loop-token-preserved
loop-token-preserved c =
    run_more _ _ _ _ _ c.loop-token.auto.token _ c.loop-token.invariant _ c.fields_at-f.ensures _ c.in-Some.ensures
