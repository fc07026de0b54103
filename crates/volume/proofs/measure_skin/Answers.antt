-- What was filled with empty parts is added up: each triangle is one of a skin, so it can be added to its part. Assumes nothing.
use Rattle.std.proofs.Common.{◌≡◌, ℕ, ◌^◌, ◌<◌, ◌≤◌, List, [], ◌∷◌, length, get_or, replicate, pos, nat_abs, sym, ap, ◌∙◌, subst, arith}
use Rattle.std.specs.Simd.{first_chunks}
use Rattle.theory_volume.specs.Sizes.{most_triangles}
use Rattle.volume.specs.declared.Part.TheVariants.{Outer}
use Rattle.theory_parts.specs.Buffer.{part_at, count_in}
use Rattle.volume.specs.Measure.{count_of, volume_of, measured, cornered, determinant_at}
use Rattle.volume.proofs.Words.{kept_as}
use Rattle.volume.proofs.Tests.{bounds}
use Rattle.volume.proofs.Chunks.{in_chunk}
use Rattle.volume.proofs.Growing.{all_measured_with, all_measured_past, none_measured, own_part, count_few, volume_small}
use Rattle.volume.proofs.measure_skin.Goals as goal
use Rattle.volume.proofs.measure_skin.Goals.{then-owner-parts, else-owner-parts}

pub loop-t-init : goal.loop-t-init
loop-t-init c =
    let cs = c.args.corners.now in
    let ts = c.args.triangles.now in
    let m = length c.args.parts.now in
    c.fill.ensures.after (λ y e. e) ∙ ap (replicate m) c.new.ensures.value ∙ none_measured cs ts m

pub invariant_of-corners : goal.invariant_of-corners
invariant_of-corners c = record { low = (bounds c.args.corners.now c.args.triangles.now c.requires.bounded).low_there }

-- a chunk of a triangle's numbers, its part and its determinant
module _ (cs ts : List ℕ) (chunks : List (List ℕ)) (i : ℕ) (e : chunks ≡ first_chunks 4 (count_in ts) ts) (l : i < count_in ts) where
  part_is : get_or (get_or chunks i []) 3 0 ≡ part_at ts i
  part_is = in_chunk (λ a b c p. p) ts _ chunks i e l

  cornered_is : cornered cs (get_or chunks i []) 0 ≡ cornered cs ts i
  cornered_is = in_chunk (λ a b c p. cornered cs (a ∷ b ∷ c ∷ p ∷ []) 0) ts _ chunks i e l

  determinant_is : determinant_at cs (get_or chunks i []) 0 ≡ determinant_at cs ts i
  determinant_is = in_chunk (λ a b c p. determinant_at cs (a ∷ b ∷ c ∷ p ∷ []) 0) ts _ chunks i e l

pub determinant-requires : goal.determinant-requires
determinant-requires c =
    let cs = c.args.corners.now in
    let ts = c.args.triangles.now in
    let l : c.loop-t.t-index < count_in ts = omega (arith, c.as_chunks.ensures.front_len) in
    record { cornered = cornered_is cs ts _ _ c.as_chunks.ensures.front l ∙ (bounds cs ts c.requires.bounded).corners _ l }

-- the triangle's part is that of a skin's triangles before it
module _ (c : goal.After-determinant) where
  here : c.loop-t.t-index < count_in c.args.triangles.now
  here = omega (arith, c.as_chunks.ensures.front_len)

  own :
      get_or c.loop-t.parts (get_or (get_or c.as_chunks.result.0.now c.loop-t.t-index []) 3 0) (Outer 0 (pos 0))
      ≡ measured c.args.corners.now c.args.triangles.now c.loop-t.t-index (part_at c.args.triangles.now c.loop-t.t-index)
  own =
      own_part _ _ _ _ (length c.args.parts.now) _ c.loop-t.invariant
      (part_is c.args.corners.now c.args.triangles.now _ _ c.as_chunks.ensures.front here) (omega (arith, c.fill.ensures.len))

  fewer : c.loop-t.t-index < most_triangles
  fewer = omega (arith, here, (bounds c.args.corners.now c.args.triangles.now c.requires.bounded).few)

  small : (j : ℕ) → j < c.loop-t.t-index → nat_abs (determinant_at c.args.corners.now c.args.triangles.now j) ≤ 2 ^ 34
  small j l = (bounds c.args.corners.now c.args.triangles.now c.requires.bounded).small j (omega (arith, here))

pub with-requires-clause-few : goal.with-requires-clause-few
with-requires-clause-few c = subst (λ q. count_of q < most_triangles) (sym (own c)) (count_few _ _ _ _ (fewer c) (small c))

pub with-requires-clause-fits : goal.with-requires-clause-fits
with-requires-clause-fits c = subst (λ q. nat_abs (volume_of q) ≤ 2 ^ 58) (sym (own c)) (volume_small _ _ _ _ (fewer c) (small c))

pub with-requires-clause-small : goal.with-requires-clause-small
with-requires-clause-small c =
    let cs = c.args.corners.now in
    let ts = c.args.triangles.now in
    let l : c.loop-t.t-index < count_in ts = omega (arith, c.as_chunks.ensures.front_len) in
    let small = (bounds cs ts c.requires.bounded).small c.loop-t.t-index l in
    subst (λ v. nat_abs v ≤ 2 ^ 34)
    (sym (kept_as _ _ (c.determinant.ensures.value ∙ determinant_is cs ts _ _ c.as_chunks.ensures.front l) small)) small

pub loop-t-preserved : goal.loop-t-preserved
loop-t-preserved c =
    let cs = c.args.corners.now in
    let ts = c.args.triangles.now in
    let i = c.loop-t.t-index in
    let m = length c.args.parts.now in
    let l : i < count_in ts = omega (arith, c.as_chunks.ensures.front_len) in
    let small_here = (bounds cs ts c.requires.bounded).small i l in
    let number = part_is cs ts _ i c.as_chunks.ensures.front l in
    elim c.if-owner-parts.branch [
      | then-owner-parts w ↦
          w.parts-is
          ∙ all_measured_with cs ts _ i m _ _ _ c.loop-t.invariant number (omega (arith, w.if-owner-parts.true, c.fill.ensures.len)) w.with.ensures.value
          (kept_as _ _ (w.determinant.ensures.value ∙ determinant_is cs ts _ i c.as_chunks.ensures.front l) small_here)
      | else-owner-parts w ↦ w.parts-is ∙ c.loop-t.invariant ∙ all_measured_past cs ts i m (omega (arith, number, w.if-owner-parts.false, c.fill.ensures.len))
    ]
