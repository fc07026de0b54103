use Rattle.checker.proofs.Verdicts.{accepted_if_good}
use Rattle.checker.proofs.accepted_exactly_if_good.Goals as goal

pub returns : goal.returns
returns c = accepted_if_good
