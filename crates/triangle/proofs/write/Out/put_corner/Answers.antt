use Rattle.std.proofs.Common.{◌≡◌, ◌<◌, ◌≤◌, sym, ap, ◌∙◌, subst₂}
use Rattle.block.specs.Scan.{threshold, value_of}
use Rattle.triangle.specs.Cubes.{point_in}
use Rattle.triangle.proofs.Cubes.{crossing_values}
use Rattle.triangle.proofs.write.Out.put_corner.Goals as goal

pub fraction-k-requires : goal.fraction-k-requires
fraction-k-requires c =
    let bs = c.args.at.scan.now.block.bytes.now in
    let v = crossing_values bs c.args.at.cube c.args.inside c.args.outside c.requires in
    let p : value_of bs (point_in c.args.at.cube c.args.inside) ≡ c.value.result =
    ap (value_of bs) (sym c.point-p.ensures.value) ∙ sym c.value.ensures.value in
    let q : value_of bs (point_in c.args.at.cube c.args.outside) ≡ c.value-2.result =
    ap (value_of bs) (sym c.point-q.ensures.value) ∙ sym c.value-2.ensures.value in
    let t : threshold bs ≡ c.threshold.result = sym c.threshold.ensures.value in
    (subst₂ (λ a b. a < b) q t v.0, subst₂ (λ a b. a ≤ b) t p v.1)
