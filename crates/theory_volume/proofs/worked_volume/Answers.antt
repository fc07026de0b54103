-- The block's skin is computed and its determinants are added up. Assumes nothing.
use Rattle.std.proofs.Common.{refl}
use Rattle.theory.specs.Grid.{same_point}
use Rattle.theory.specs.Skin.{in_piece, cube, skin}
use Rattle.theory_volume.specs.Volume.{determinant, six_volume}
use Rattle.theory_volume.proofs.worked_volume.Goals as goal

pub returns : goal.returns
unfolding same_point in_piece cube skin determinant six_volume
returns c = refl
