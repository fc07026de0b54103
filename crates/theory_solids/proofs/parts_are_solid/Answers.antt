-- What parts enclose is proofs/Solids.antt's. Assumes nothing.
use Rattle.theory_solids.proofs.Solids.{parts_are_solid}
use Rattle.theory_solids.proofs.parts_are_solid.Goals as goal

pub returns : goal.returns
returns c = parts_are_solid
