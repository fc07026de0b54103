-- A step of one way keeps what is to be put into one tree; where both have one parent, it is. Assumes nothing.
use Rattle.std.proofs.Common.{refl, ◌∙◌, length-set, arith}
use Rattle.part.proofs.Connection.{alike_refl, alike_trans}
use Rattle.part.proofs.Trees.{siblings_alike, joining_turned, joining_more}
use Rattle.part.proofs.forest.Trees.unite.Goals as goal

pub loop-self-init : goal.loop-self-init
loop-self-init c = (record { forest = c.args.self.now.forest; first = c.requires.0; second = c.requires.1; alike = alike_refl }, refl, refl)

pub loop-self-preserved-then-self-x : goal.loop-self-preserved-then-self-x
loop-self-preserved-then-self-x c = (
  joining_more c.loop-self.invariant.0 (omega arith),
  c.loop-self.invariant.1,
  length-set c.loop-self.self.parents.now _ _ ∙ c.loop-self.invariant.2,
)

pub loop-self-preserved : goal.loop-self-preserved
loop-self-preserved c = (
  joining_turned (joining_more (joining_turned c.loop-self.invariant.0) (omega arith)),
  c.loop-self.invariant.1,
  length-set c.loop-self.self.parents.now _ _ ∙ c.loop-self.invariant.2,
)

pub returns-clause-alike : goal.returns-clause-alike
returns-clause-alike c =
    let j = c.loop-self.invariant.0 in alike_trans (siblings_alike _ _ _ j.first j.second c.loop-self-test.false) j.alike
