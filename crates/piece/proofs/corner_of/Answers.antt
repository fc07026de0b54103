use Rattle.std.proofs.Common.{rules, ◌≡◌, ◌%◌, map, ◌∙◌, ap, get_or, arith}
use Rattle.std.specs.Option.{option_map_or}
use Rattle.std.specs.List.{slice_get}
use Rattle.theory.specs.Triangle.{edge}
use Rattle.piece.specs.Table.{triangles_in, corners_of}
use Rattle.piece.proofs.Table.{names_found}
use Rattle.piece.proofs.corner_of.Goals as goal

pub returns : goal.returns
returns c =
    let ts = triangles_in c.args.case in
    let found : c.map_or-inside.result ≡ option_map_or (λ cs. get_or cs (c.args.corner % 3) (0, 0)) (slice_get (map corners_of ts) (c.args.triangle % 2)) (0, 0) = search rules in
    record { value = ap (λ p. edge p.0 p.1) found ∙ names_found ts (c.args.triangle % 2) (c.args.corner % 3) (0, 0) (omega arith) }
