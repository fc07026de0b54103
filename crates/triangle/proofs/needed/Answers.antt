use Rattle.triangle.proofs.Building.{corner_count, triangle_count, few}
use Rattle.triangle.proofs.needed.Goals as goal

pub returns : goal.returns
returns c =
    let read = c.in_ok-read.ensures.cases in
    let all = c.count.ensures.counted in
    record { cases = record { taken = read.1.verdict; corner_count = corner_count _ _ read _ all; triangle_count = triangle_count _ _ read _ all; at_most_six = few _ _ read _ all } }
