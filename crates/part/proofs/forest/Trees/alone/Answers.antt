-- Each number below c is its own parent. Assumes nothing.
use Rattle.std.proofs.Common.{◌∙◌, arith, get_or-set_other, get_or-set_same, below_more}
use Rattle.part.proofs.forest.Trees.alone.Goals as goal

pub loop-c-preserved : goal.loop-c-preserved
loop-c-preserved c =
    below_more _ _
    (λ k h. get_or-set_other c.loop-c.parents c.loop-c.c k c.loop-c.c 0 (omega arith) ∙ c.loop-c.invariant k h)
    (get_or-set_same c.loop-c.parents c.loop-c.c c.loop-c.c 0 (omega arith))
