-- Whole, low and each triangle fine; each test that fails decides. Assumes nothing.
use Rattle.std.proofs.Common.{◌≡◌, ◌&&◌, rules, tests, sym, ap, ◌∙◌, ap₂}
use Rattle.std.proofs.lemmas.Bool.{and_left, and_right}
use Rattle.std.proofs.lemmas.Iterator.{YieldsList-from_slice}
use Rattle.std.proofs.lemmas.Iterator.Search.{all_from_yields_List}
use Rattle.std.specs.List.{list_all}
use Rattle.theory_parts.specs.Buffer.{count_in}
use Rattle.volume.specs.Measure.{each_below, whole, fine, measurable}
use Rattle.volume.proofs.Chunks.{all_fine}
use Rattle.volume.proofs.measurable.Goals as goal

pub returns-then-not-whole : goal.returns-then-not-whole
unfolding measurable
returns-then-not-whole c =
    record { value = sym (and_left (whole c.args.corners.now c.args.triangles.now) _ (sym c.if-not-whole.ensures.value)) }

pub returns-in_default : goal.returns-in_default
unfolding measurable
returns-in_default c =
    record { value = sym (and_right (whole c.args.corners.now c.args.triangles.now) _ (and_left _ _ (sym c.in_default.ensures.value))) }

pub returns : goal.returns
unfolding measurable
returns c =
    let cs = c.args.corners.now in
    let ts = c.args.triangles.now in
    let m = c.args.parts in
    let kept = c.in-Some.corners.coordinates.now in
    let all : c.all.result ≡ list_all (λ t. fine kept t m 0) c.as_chunks.result.0.now =
    all_from_yields_List (λ t. fine kept t m 0) _ _ _ c.all.ensures.ran (YieldsList-from_slice c.as_chunks.result.0.now cc) (λ x b q k. search (rules, tests)) in
    let n = count_in ts in
    record {
      value =
          all ∙ all_fine kept ts m n _ c.as_chunks.ensures.front
          ∙ ap (λ us. each_below n (fine us ts m)) (c.low.ensures.same _ c.in-Some.is)
          ∙ ap₂ (λ a b. a && (b && each_below n (fine cs ts m))) c.if-not-whole.ensures.value c.in-Some.ensures.value;
    }
