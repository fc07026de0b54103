-- The test of each coordinate is the test at each place. Assumes nothing.
use Rattle.std.proofs.Common.{nat_le, rules, tests, ◌∙◌, sym}
use Rattle.std.proofs.lemmas.Iterator.{YieldsList-from_slice}
use Rattle.std.proofs.lemmas.Iterator.Search.{all_from_yields_List}
use Rattle.theory_volume.specs.Sizes.{most_coordinate}
use Rattle.volume.proofs.Chunks.{all_low}
use Rattle.volume.proofs.Corners.low.Goals as goal

pub returns-then-all-clause-value : goal.returns-then-all-clause-value
returns-then-all-clause-value c =
    let cs = c.args.coordinates.now in
    sym c.if-all.true
    ∙ all_from_yields_List (λ x. nat_le x most_coordinate) _ _ _ c.all.ensures.ran (YieldsList-from_slice cs cc) (λ x b q k. search (rules, tests))
    ∙ all_low cs

pub returns-else-all-clause-value : goal.returns-else-all-clause-value
returns-else-all-clause-value c =
    let cs = c.args.coordinates.now in
    sym c.if-all.false
    ∙ all_from_yields_List (λ x. nat_le x most_coordinate) _ _ _ c.all.ensures.ran (YieldsList-from_slice cs cc) (λ x b q k. search (rules, tests))
    ∙ all_low cs
