use Rattle.std.proofs.Common.{◌≡◌}
use Rattle.triangle.specs.Adding.{nothing, with_triangles}
use Rattle.triangle.proofs.Adding.{codes_before}
use Rattle.triangle.proofs.cases.Case.of.Given as goal

-- the pieces before this one are added
abbrev pub invariant-loop-piece : goal.invariant-loop-piece
invariant-loop-piece l = l.case ≡ with_triangles nothing (codes_before l.bits l.piece)
