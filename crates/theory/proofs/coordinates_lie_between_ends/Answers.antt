-- The statement is proofs/Coordinates.antt's. Assumes nothing.
use Rattle.theory.proofs.coordinates_lie_between_ends.Goals as goal
use Rattle.theory.proofs.Coordinates.{lie_between_ends}

pub returns : goal.returns
returns c = lie_between_ends
