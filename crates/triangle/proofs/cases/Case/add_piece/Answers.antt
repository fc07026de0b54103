use Rattle.std.proofs.Common.{◌+◌, ◌≤◌, map, length, drop, sym, ap, ◌∙◌, arith}
use Rattle.std.proofs.lemmas.List.{at_drop_all, length-map}
use Rattle.theory.specs.Faces.{renamed}
use Rattle.theory_numbers.specs.Numbers.{mapped}
use Rattle.piece.specs.Table.{point_of, triangles_in}
use Rattle.triangle.specs.Cases.{edge_code}
use Rattle.triangle.specs.Adding.{code_in, piece_codes, with_triangles}
use Rattle.triangle.proofs.Adding.{piece_left}
use Rattle.triangle.proofs.cases.Case.add_piece.Goals as goal

pub loop-t-preserved : goal.loop-t-preserved
loop-t-preserved c =
    let w = c.args.piece in
    let n = c.args.inside in
    ap (λ k. with_triangles k (drop (c.loop-t.t + 1) (piece_codes w n))) c.add_triangle.ensures.after
    ∙ sym (ap (with_triangles c.loop-t.self)
    (piece_left w n c.loop-t.t _ _ _ c.requires (omega (arith, c.triangle_count-t-end.ensures.value))
    (c.code_of-a.ensures.value ∙ ap (code_in w) c.corner_of.ensures.value)
    (c.code_of-b.ensures.value ∙ ap (code_in w) c.corner_of-in-loop-t.ensures.value)
    (c.code_of-c.ensures.value ∙ ap (code_in w) c.corner_of-in-loop-t-2.ensures.value)))
    ∙ c.loop-t.invariant

pub returns : goal.returns
returns c =
    let w = c.args.piece in
    let ts = triangles_in c.args.inside in
    let us = piece_codes w c.args.inside in
    let all : length us ≤ c.loop-t.t =
    omega (
      arith,
      length-map (map (renamed (point_of w)) ts) (mapped edge_code),
      length-map ts (renamed (point_of w)),
      c.triangle_count-t-end.ensures.value,
    ) in
    record { after = sym (at_drop_all (with_triangles c.loop-t.self) us c.loop-t.t all) ∙ c.loop-t.invariant }
