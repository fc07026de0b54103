-- The sums over the parts are proofs/Adding.antt's, at both sorts of corner. Assumes nothing.
use Rattle.std.proofs.Common.{eqb}
use Rattle.theory.specs.Skin.{same}
use Rattle.theory_solids.proofs.Adding.{parts_add_up}
use Rattle.theory_solids.proofs.parts_add_up.Goals as goal

pub returns : goal.returns
returns c = record { numbers = parts_add_up eqb; edges = parts_add_up same }
