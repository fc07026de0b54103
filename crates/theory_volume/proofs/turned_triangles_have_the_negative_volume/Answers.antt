-- The signs are proofs/Signs.antt's. Assumes nothing.
use Rattle.theory_volume.proofs.Signs.{determinant_round, six_volume_turned}
use Rattle.theory_volume.proofs.turned_triangles_have_the_negative_volume.Goals as goal

pub returns : goal.returns
returns c = record { round = determinant_round; skins = six_volume_turned; numbered = six_volume_turned }
