use Rattle.std.proofs.Common.{◌*◌, ap, ◌∙◌, get_or, arith, add-zero}
use Rattle.theory.specs.Grid.{pt}
use Rattle.volume.proofs.Chunks.{in_corner, each_low}
use Rattle.volume.proofs.Corners.place.Goals as goal

pub overflow_cast-result : goal.overflow_cast-result
overflow_cast-result c = omega (arith, each_low c.args.self.now.coordinates.now _ _ c.args.corner c.as_chunks.ensures.front c.requires.there c.args.self.now.low)

pub overflow_cast-result-2 : goal.overflow_cast-result-2
overflow_cast-result-2 c = omega (arith, each_low c.args.self.now.coordinates.now _ _ c.args.corner c.as_chunks.ensures.front c.requires.there c.args.self.now.low)

pub overflow_cast-result-3 : goal.overflow_cast-result-3
overflow_cast-result-3 c = omega (arith, each_low c.args.self.now.coordinates.now _ _ c.args.corner c.as_chunks.ensures.front c.requires.there c.args.self.now.low)

pub returns : goal.returns
returns c =
    let cs = c.args.self.now.coordinates.now in
    let n = c.args.corner in
    let front = c.as_chunks.ensures.front in
    let there = c.requires.there in
    let x = in_corner cs _ _ n 0 front there (omega arith) ∙ ap (λ i. get_or cs i 0) (add-zero (3 * n)) in
    let y = in_corner cs _ _ n 1 front there (omega arith) in
    let z = in_corner cs _ _ n 2 front there (omega arith) in
    record { value = λ j. pt (x j) (y j) (z j) }
