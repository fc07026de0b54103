use Rattle.std.proofs.Common.{◌+◌, ◌*◌, sym, ◌∙◌, arith}
use Rattle.std.proofs.lemmas.List.{get_or_past}
use Rattle.mesh.specs.Bytes.{short_at, corner_count, coordinates_in}
use Rattle.mesh.proofs.Numbers.{length_listed, get_or_listed}
use Rattle.mesh.proofs.Skin.coordinate.Goals as goal

pub returns-then-i-corners : goal.returns-then-i-corners
returns-then-i-corners c =
    let bs = c.args.self.now.bytes.now in
    record { value = c.from.ensures ∙ c.short.ensures.value ∙ sym (get_or_listed (λ i. short_at bs (12 + 2 * i)) (3 * corner_count bs) c.args.i (omega arith)) }

pub returns-else-i-corners : goal.returns-else-i-corners
returns-else-i-corners c =
    let bs = c.args.self.now.bytes.now in
    let long = length_listed (λ i. short_at bs (12 + 2 * i)) (3 * corner_count bs) in
    record { value = sym (get_or_past (coordinates_in bs) c.args.i 0 (omega arith)) }
