use Rattle.block.proofs.Goodness.{taken_if_good}
use Rattle.block.proofs.taken_exactly_if_good.Goals as goal

pub returns : goal.returns
returns c = taken_if_good
