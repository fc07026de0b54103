use Rattle.std.proofs.Common.{◌+◌, ◌<◌, length, get_or, sym, ap, subst, arith}
use Rattle.triangle.specs.Output.{NewIn}
use Rattle.triangle.proofs.Computed.{new_step_at}
use Rattle.triangle.proofs.Corners.{new_at}
use Rattle.triangle.proofs.write.Out.meet_new.Goals as goal

pub bounds-self-step : goal.bounds-self-step
bounds-self-step c =
    let is = c.steps-step-items.ensures.value in
    subst (λ ss. 56 + get_or ss c.loop-step.step-index 0 < 64) (sym is)
    (omega (arith, (new_step_at c.args.at.cube.bits c.args.at.of_block.byte c.loop-step.step-index (omega (arith, ap length is))).below))

pub meet-requires : goal.meet-requires
meet-requires c =
    let bs = c.args.at.scan.now.block.bytes.now in
    let is = c.steps-step-items.ensures.value in
    subst (λ ss. NewIn bs c.args.at.cube (get_or ss c.loop-step.step-index 0)) (sym is)
    (new_at bs c.args.at.cube c.args.at.of_block c.loop-step.step-index (omega (arith, ap length is)))
