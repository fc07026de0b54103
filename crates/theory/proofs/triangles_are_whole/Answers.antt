-- No triangle of a skin has a corner twice. Assumes nothing.
use Rattle.theory.proofs.triangles_are_whole.Goals as goal
use Rattle.theory.proofs.Whole.{whole_triangles}

pub returns : goal.returns
returns c = whole_triangles
