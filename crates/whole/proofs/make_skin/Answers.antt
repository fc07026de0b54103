-- What is built has its parts numbered and is measured; then it is finished. Assumes nothing.
use native.Mathlib.Nat.{sub-zero}
use Rattle.std.proofs.Common.{arith}
use Rattle.whole.proofs.Building.{takes}
use Rattle.whole.proofs.Finishing.{can_be_measured, finished}
use Rattle.whole.proofs.make_skin.Goals as goal

pub number_skin-count-requires : goal.number_skin-count-requires
number_skin-count-requires c =
    simp sub-zero (takes c.in_ok-counts.ensures.cases c.build.new.work (omega arith))

pub measure_skin-requires : goal.measure_skin-requires
measure_skin-requires c =
    simp sub-zero
    (record {
      bounded =
          can_be_measured c.in_ok-counts.ensures.cases (simp sub-zero at c.number_skin-count.ensures.written)
          (simp sub-zero at c.number_skin-count.auto.triangles);
    })

pub returns : goal.returns
returns c =
    simp sub-zero
    (record {
      cases =
          finished c.in_ok-counts.ensures.cases (simp sub-zero at c.number_skin-count.ensures.written)
          (simp sub-zero at c.number_skin-count.auto.triangles) c.args.parts.now (omega arith)
          (simp sub-zero at c.measure_skin.ensures.written) (omega arith) (omega arith) (omega arith)
          (λ i. let fits = simp sub-zero at (c.type_inv.triangles i) in omega arith);
    })
