use Rattle.std.proofs.Common.{◌≡◌, ap, ◌∙◌, arith}
use Rattle.triangle.specs.Cubes.{case_in}
use Rattle.triangle.specs.Adding.{piece_codes, nothing, with_triangles}
use Rattle.triangle.proofs.Adding.{codes_before, piece_more, worked_out}
use Rattle.triangle.proofs.Tables.{case_below}
use Rattle.triangle.proofs.cases.Case.of.Goals as goal

pub add_piece-requires : goal.add_piece-requires
add_piece-requires c = omega (arith, c.names_inside.ensures.value, case_below c.args.bits c.loop-piece.piece)

pub loop-piece-preserved : goal.loop-piece-preserved
loop-piece-preserved c =
    let w = c.loop-piece.piece in
    c.add_piece.ensures.after ∙ ap (λ n. with_triangles c.loop-piece.case (piece_codes w n)) c.names_inside.ensures.value
    ∙ ap (λ k. with_triangles k (piece_codes w (case_in c.args.bits w))) c.loop-piece.invariant ∙ piece_more c.args.bits w

pub returns : goal.returns
returns c =
    let b = c.args.bits in
    let all : c.loop-piece.piece ≡ 6 = omega arith in
    record { value = c.loop-piece.invariant ∙ ap (λ w. with_triangles nothing (codes_before b w)) all ∙ worked_out b (omega arith) }
