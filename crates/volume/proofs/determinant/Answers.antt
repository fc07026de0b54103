-- Each of the three products is at most 2 ^ 48 in size, so nothing is cut off. Assumes nothing.
use Rattle.std.proofs.Common.{pos, ◌+ℤ◌, ◌*ℤ◌, ◌∙◌, arith}
use Rattle.theory_volume.proofs.Steps.{worked_value}
use Rattle.volume.proofs.Words.{product_fits, two_fits, three_fits, sum_kept, sum_small}
use Rattle.volume.proofs.determinant.Goals as goal

pub overflow_mul-x : goal.overflow_mul-x
overflow_mul-x c = product_fits c.args.a.x c.crossed.result (omega arith) c.crossed.ensures.bound

pub overflow_mul-y : goal.overflow_mul-y
overflow_mul-y c = product_fits c.args.a.y c.crossed-2.result (omega arith) c.crossed-2.ensures.bound

pub overflow_mul-z : goal.overflow_mul-z
overflow_mul-z c = product_fits c.args.a.z c.crossed-3.result (omega arith) c.crossed-3.ensures.bound

pub overflow_add-result : goal.overflow_add-result
overflow_add-result c =
    two_fits c.args.a.x c.args.a.y c.args.a.z c.crossed.result c.crossed-2.result c.crossed-3.result
    (omega arith) (omega arith) (omega arith) c.crossed.ensures.bound c.crossed-2.ensures.bound c.crossed-3.ensures.bound

pub overflow_add-result-2 : goal.overflow_add-result-2
overflow_add-result-2 c =
    three_fits c.args.a.x c.args.a.y c.args.a.z c.crossed.result c.crossed-2.result c.crossed-3.result
    (omega arith) (omega arith) (omega arith) c.crossed.ensures.bound c.crossed-2.ensures.bound c.crossed-3.ensures.bound

pub returns : goal.returns
returns c =
    record {
      value =
          sum_kept c.args.a.x c.args.a.y c.args.a.z c.crossed.result c.crossed-2.result c.crossed-3.result
          (omega arith) (omega arith) (omega arith) c.crossed.ensures.bound c.crossed-2.ensures.bound c.crossed-3.ensures.bound
          ∙ (λ i.
          ((pos c.args.a.x *ℤ c.crossed.ensures.value i) +ℤ (pos c.args.a.y *ℤ c.crossed-2.ensures.value i))
          +ℤ (pos c.args.a.z *ℤ c.crossed-3.ensures.value i))
          ∙ worked_value c.args.a.x c.args.a.y c.args.a.z c.args.b.x c.args.b.y c.args.b.z
          c.args.c.x c.args.c.y c.args.c.z;
      bound =
          sum_small c.args.a.x c.args.a.y c.args.a.z c.crossed.result c.crossed-2.result c.crossed-3.result
          (omega arith) (omega arith) (omega arith) c.crossed.ensures.bound c.crossed-2.ensures.bound c.crossed-3.ensures.bound;
    }
