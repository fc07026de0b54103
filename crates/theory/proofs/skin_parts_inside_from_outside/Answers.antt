-- Answers what `skin_parts_inside_from_outside` promises. Assumes nothing.
use Rattle.theory.proofs.skin_parts_inside_from_outside.Goals as goal
use Rattle.theory.proofs.Rings.{parted}

pub returns : goal.returns
returns c = parted
