-- A part that is solid is said to be outer or inner by its volume. Assumes nothing.
use Rattle.std.proofs.Common.{◌≡◌, ℕ, zero, suc, ◌-◌, ◌<◌, ltb, List, length, pos, neg_ℤ, sym, refl, ap, ◌∙◌, subst, inl, inr, arith}
use Rattle.std.proofs.lemmas.Bool.{cond-true, lt-ltb}
use Rattle.theory.specs.Skin.{Triangle}
use Rattle.theory.specs.Places.{place}
use Rattle.theory_volume.specs.Volume.{six_volume}
use Rattle.theory_solids.specs.Solids.{from_other_end, Solid}
use Rattle.block.specs.Scan.{size_x, size_y, size_z}
use Rattle.corner.specs.Fraction.{fraction_in}
use Rattle.volume.specs.Measure.{part_of}
use Rattle.volume.specs.declared.Part.TheVariants as kind
use Rattle.whole.specs.Finished.{inside_of, PartIs}
use Rattle.whole.specs.Finished.PartIs.{outer, inner}

part_above : (n v : ℕ) → 0 < v → part_of n (pos v) ≡ kind.Outer n (pos v)
part_above n v l = cond-true (ltb 0 v) _ _ (lt-ltb 0 v l)

part_below : (n v : ℕ) → 0 < v → part_of n (neg_ℤ (pos v)) ≡ kind.Inner n (neg_ℤ (pos v))
part_below n zero l = absurd (omega arith)
part_below n (suc v) l = refl

pub solid_part :
    (bs : List ℕ) (part : List Triangle) → Solid (fraction_in bs) part (size_x bs - 1) (size_y bs - 1) (size_z bs - 1) →
    PartIs bs part (part_of (length part) (six_volume (place (fraction_in bs)) part))
solid_part bs part solid =
    let k = fraction_in bs in
    let n = length part in
    let g = solid.region.inside in
    let border = solid.region.border in
    elim solid.region.seen [
      | inl seen ↦
          let full = solid.outer g border seen in
          subst (PartIs bs part) (sym (ap (part_of n) full.volume ∙ part_above n (inside_of bs g k) full.above))
          (outer g border seen full.above)
      | inr seen ↦
          let hollow = solid.inner g border seen in
          subst (PartIs bs part) (sym (ap (part_of n) hollow.volume ∙ part_below n (inside_of bs g (from_other_end k)) hollow.above))
          (inner g border seen hollow.above)
    ]
