-- That it is above 0 is proofs/Above.antt's. Assumes nothing.
use Rattle.theory_volume.proofs.Above.{above_zero}
use Rattle.theory_volume.proofs.enclosed_volume_is_above_zero.Goals as goal

pub returns : goal.returns
returns c = above_zero
