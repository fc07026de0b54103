use Rattle.theory.proofs.Closing.{rings_from_walks}
use Rattle.theory.proofs.Rings.{closed_walks}
use Rattle.theory.proofs.corners_have_one_ring.Goals as goal

pub returns : goal.returns
returns c = rings_from_walks closed_walks
