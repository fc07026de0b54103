-- That each part has a triangle is proofs/Adding.antt's, at both sorts of corner. Assumes nothing.
use Rattle.std.proofs.Common.{eqb}
use Rattle.theory.specs.Skin.{same}
use Rattle.theory_solids.proofs.Adding.{parts_counted}
use Rattle.theory_solids.proofs.parts_have_triangles.Goals as goal

pub returns : goal.returns
returns c = record { numbers = parts_counted eqb; edges = parts_counted same }
