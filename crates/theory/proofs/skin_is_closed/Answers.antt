use Rattle.theory.proofs.Closing.{rings_from_walks, closed_from_rings}
use Rattle.theory.proofs.Rings.{closed_walks}
use Rattle.theory.proofs.skin_is_closed.Goals as goal

pub returns : goal.returns
returns c = closed_from_rings (rings_from_walks closed_walks)
