use Rattle.std.proofs.Common.{◌≡◌, drop}
use Rattle.triangle.specs.Adding.{piece_codes, with_triangles}
use Rattle.triangle.proofs.cases.Case.add_piece.Given as goal

-- what is left to add gives what is to be added in all
abbrev pub invariant-loop-t : goal.invariant-loop-t
invariant-loop-t l =
    with_triangles l.self (drop l.t (piece_codes l.piece l.inside)) ≡ with_triangles l.fn.self (piece_codes l.piece l.inside)
