use Rattle.std.proofs.Common.{◌≡◌, ◌+◌, ◌*◌, sym, ap, ◌∙◌, arith}
use Rattle.std.proofs.lemmas.List.{get_or_past}
use Rattle.mesh.specs.Bytes.{number_at, triangle_count, triangles_from, triangles_in}
use Rattle.mesh.proofs.Numbers.{length_listed, get_or_listed}
use Rattle.mesh.proofs.Skin.number.Goals as goal

pub returns-then-i-triangles : goal.returns-then-i-triangles
returns-then-i-triangles c =
    let bs = c.args.self.now.bytes.now in
    let place : 12 + 6 * c.corners.result + 4 * c.args.i ≡ triangles_from bs + 4 * c.args.i = omega arith in
    record { value = c.number.ensures.value ∙ ap (number_at bs) place ∙ sym (get_or_listed (λ i. number_at bs (triangles_from bs + 4 * i)) (4 * triangle_count bs) c.args.i (omega arith)) }

pub returns-else-i-triangles : goal.returns-else-i-triangles
returns-else-i-triangles c =
    let bs = c.args.self.now.bytes.now in
    let long = length_listed (λ i. number_at bs (triangles_from bs + 4 * i)) (4 * triangle_count bs) in
    record { value = sym (get_or_past (triangles_in bs) c.args.i 0 (omega arith)) }
