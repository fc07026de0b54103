use Rattle.std.proofs.Common.{◌+◌, length, ap, arith}
use Rattle.triangle.proofs.Counting.{sums_fit, counted_more}
use Rattle.triangle.proofs.count.CountsPass.visit.Goals as goal

pub overflow_cast-self : goal.overflow_cast-self
overflow_cast-self c =
    let w = c.requires.ready in
    omega (arith, (sums_fit _ c.args.at.cube c.args.at.of_block w.0 _ w.1).0, ap length c.steps.ensures.value)

pub overflow_add-self : goal.overflow_add-self
overflow_add-self c =
    let w = c.requires.ready in
    omega (arith, (sums_fit _ c.args.at.cube c.args.at.of_block w.0 _ w.1).0, ap length c.steps.ensures.value)

pub overflow_cast-self-2 : goal.overflow_cast-self-2
overflow_cast-self-2 c =
    let w = c.requires.ready in
    omega (arith, (sums_fit _ c.args.at.cube c.args.at.of_block w.0 _ w.1).1, ap length c.triangles.ensures.value)

pub overflow_add-self-2 : goal.overflow_add-self-2
overflow_add-self-2 c =
    let w = c.requires.ready in
    omega (arith, (sums_fit _ c.args.at.cube c.args.at.of_block w.0 _ w.1).1, ap length c.triangles.ensures.value)

pub returns : goal.returns
returns c =
    let r = c.args.self.now in
    record {
      goes = λ old w.
          counted_more _ c.args.at.cube c.args.at.of_block old r w _
          (ap (λ n. r.corners + n) (ap length c.steps.ensures.value))
          (ap (λ n. r.triangles + n) (ap length c.triangles.ensures.value));
    }
