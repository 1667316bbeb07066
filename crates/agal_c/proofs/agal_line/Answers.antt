-- The goals of `agal_line` that the check leaves.
use Prim.Native.Nat.{◌<◌}
use mathlib.Core.Path.{◌∙◌, sym, subst}
use Rattle.std.specs.Result.{OkIff}
use Rattle.agal_c.proofs.CallLaws.{no_stage, no_depth}
use Rattle.agal_c.proofs.agal_line.Goals.{in_default-via-in-Ok+in_default, in_default-via-in_default}
use Rattle.agal_c.proofs.agal_line.Goals as goal

pub returns-in_default : goal.returns-in_default
returns-in_default c =
    let a = c.args in
    let is_flat = sym c.is_flat.ensures ∙ c.if-not-is_flat.false in
    elim c.in_default.branch [
      | in_default-via-in-Ok+in_default w ↦
          let (value, out_after) = no_depth a.flat.now a.out.now is_flat a.stage a.depth w.in_default.ensures' in
          record { value = c.refused_at-in_default.ensures ∙ value; out_after = out_after }
      | in_default-via-in_default w ↦
          let (value, out_after) = no_stage a.flat.now a.out.now is_flat a.stage a.depth (subst (λ r. OkIff r (a.stage < 256) a.stage) w.in_default.is-0 c.try_from.ensures) in
          record { value = c.refused_at-in_default.ensures ∙ value; out_after = out_after }
    ]
