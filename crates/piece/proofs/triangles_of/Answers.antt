use Rattle.std.proofs.Common.{map, refl}
use Rattle.piece.specs.Table.{corners_of}
use Rattle.piece.proofs.Table.{at_case_lent}
use Rattle.piece.proofs.triangles_of.Goals as goal

pub returns : goal.returns
returns c = record { value = at_case_lent (map corners_of) _ _ _ _ _ _ _ _ _ _ _ _ _ _ _ _ _ c.args.case refl }
