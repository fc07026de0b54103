-- What is enclosed is proofs/Enclosing.antt's. Assumes nothing.
use Rattle.theory_volume.proofs.Enclosing.{encloses}
use Rattle.theory_volume.proofs.skin_encloses_what_is_inside.Goals as goal

pub returns : goal.returns
returns c = encloses
