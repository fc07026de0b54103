-- Both lists of faces are computed, across each axis at any point. Assumes nothing.
use Rattle.std.proofs.Common.{refl}
use Rattle.theory.proofs.cubes_meet_in_faces.Goals as goal
use Rattle.theory.specs.Grid.{pt}
use Rattle.theory.specs.Faces.{x_axis, y_axis, z_axis}

pub returns : goal.returns
returns c x_axis (pt x y z) = refl
returns c y_axis (pt x y z) = refl
returns c z_axis (pt x y z) = refl
