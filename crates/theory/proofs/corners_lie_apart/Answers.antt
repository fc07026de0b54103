use Rattle.theory.proofs.Rings.{parted}
use Rattle.theory.proofs.Placing.{no_two_at_one_place, crossed_once}
use Rattle.theory.proofs.corners_lie_apart.Goals as goal

pub returns : goal.returns
returns c = record { apart = no_two_at_one_place parted; once = crossed_once parted }
