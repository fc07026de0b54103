-- The one numbering, at both sorts of corner. Assumes nothing.
use Rattle.std.proofs.Common.{eqb}
use Rattle.theory.specs.Skin.{same}
use Rattle.theory_parts.proofs.Numbering.{only_numbering}
use Rattle.theory_parts.proofs.parts_are_numbered_in_one_way.Goals as goal

pub returns : goal.returns
returns c = record { numbers = only_numbering eqb; edges = only_numbering same }
