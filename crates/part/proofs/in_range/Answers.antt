-- All chunks have their corners below the limit. Assumes nothing.
use Rattle.std.proofs.Common.{◌≡◌, true, rules, tests, subst, ◌↔◌, sym}
use Rattle.std.proofs.lemmas.Iterator.{YieldsList-from_slice}
use Rattle.std.proofs.lemmas.Iterator.Search.{all_from_yields_List}
use Rattle.part.specs.Taking.{InRange}
use Rattle.part.proofs.Chunks.{corners_below, range_of_chunks}
use Rattle.part.proofs.in_range.Goals as goal

pub returns : goal.returns
returns c =
    let ns = c.args.triangles.now in
    let n = c.args.corners in
    let all = all_from_yields_List (corners_below n) _ _ _ c.all.ensures.ran (YieldsList-from_slice c.as_chunks.result.0.now cc) (λ x b q k. search (rules, tests)) in
    record { value = subst (λ b. (b ≡ true) ↔ InRange ns n) (sym all) (range_of_chunks ns _ c.as_chunks.ensures.front n c.requires) }
