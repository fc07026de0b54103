-- The faces of the law are the pieces' own, by computation; the law is proofs/Law.antt's. Assumes nothing.
use Rattle.std.proofs.Common.{arith}
use Rattle.theory.proofs.faces_cancel.Goals as goal
use Rattle.theory.proofs.Law.{face_law}

pub returns : goal.returns
returns c = record { signed = record { listed = omega arith; all_listed = omega arith }; law = face_law }
