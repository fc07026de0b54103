-- A part's corners are corners of the skin, so what is proved of whole skins holds of its region: as it is for a part that is seen from
-- outside, with each triangle run the other way for one that is seen from inside. Assumes nothing.
use Rattle.std.proofs.Common.{◌≡◌, ℕ, ◌-◌, ◌<◌, Bool, List, [], ◌∷◌, length, ℤ, pos, ◌+ℤ◌, ◌-ℤ◌, neg_ℤ, ◌<ℤ◌, sym, refl, ap, ◌∙◌, ap₂, inl, inr, arith}
use Rattle.std.proofs.ByRecursion.{All-weaker}
use Rattle.std.proofs.lemmas.Int.{ints}
use Rattle.std.specs.List.{AllByRecursion}
use Rattle.theory.specs.Grid.{Point, Border}
use Rattle.theory.specs.Triangle.{Edge, edge, Tri, tri, sum_of, corners, has, with_corner}
use Rattle.theory.specs.Skin.{Corner, Triangle, same, skin}
use Rattle.theory.specs.Closed.{Neighbours}
use Rattle.theory.specs.Places.{Place, place, AmidStep}
use Rattle.theory.proofs.Sums.{sum_same}
use Rattle.theory.proofs.Same.{same_true, same_refl}
use Rattle.theory.proofs.Crossings.{Crossing, skin_crosses}
use Rattle.theory.proofs.Coordinates.{place_turned}
use Rattle.theory.proofs.Rings.{parted}
use Rattle.theory_parts.specs.Regions.{flip, inside_out, Outer, Inner, Region, of_part}
use Rattle.theory_parts.proofs.Joining.{first_had}
use Rattle.theory_parts.proofs.Telling.{numbered_parts_enclose}
use Rattle.theory_volume.specs.Volume.{determinant, six_volume}
use Rattle.theory_volume.proofs.Signs.{falling, rising, six_volume_parts, minus_turned}
use Rattle.theory_volume.proofs.Corners.{WithinSteps}
use Rattle.theory_volume.proofs.Enclosing.{encloses_within}
use Rattle.theory_volume.proofs.Above.{above_zero_within}
use Rattle.theory_solids.specs.Solids.{from_other_end, Filled, Hollow, IsOuter, IsInner, Solid, PartsAreSolid}
use Rattle.theory_solids.proofs.Adding.{part_most, parts_counted}

-- corners that lie at the same places give the same sum
six_volume_placed :
    {C : Type 0} (at to : C → Place) (ts : List (Tri C)) → AllByRecursion (λ t. AllByRecursion (λ c. at c ≡ to c) (corners t)) ts →
    six_volume at ts ≡ six_volume to ts
unfolding six_volume
six_volume_placed at to [] e = refl
six_volume_placed at to (tri a b c ∷ ts) e =
    λ i. determinant (e.0.0 i) (e.0.1.0 i) (e.0.1.1.0 i) +ℤ six_volume_placed at to ts e.1 i

-- triangles seen from their other sides have the negative sum
six_volume_inside_out :
    {P : Type 0} (at : Edge P → Place) (us ts : List (Tri (Edge P))) →
    ((h : Tri (Edge P) → ℕ) → sum_of h us ≡ sum_of (λ t. h (inside_out t)) ts) →
    six_volume at us ≡ neg_ℤ (six_volume (λ c. at (flip c)) ts)
six_volume_inside_out {P} at us ts turned =
    six_volume_parts at us
    ∙ ap₂ (λ u w. pos u -ℤ pos w) (turned (falling at) ∙ sum_same _ _ fall ts) (turned (rising at) ∙ sum_same _ _ rise ts)
    ∙ minus_turned (sum_of (falling (λ c. at (flip c))) ts) (sum_of (rising (λ c. at (flip c))) ts)
    ∙ ap neg_ℤ (sym (six_volume_parts (λ c. at (flip c)) ts))
  where
    fall : (t : Tri (Edge P)) → falling at (inside_out t) ≡ rising (λ c. at (flip c)) t
    fall (tri a b c) = refl

    rise : (t : Tri (Edge P)) → rising at (inside_out t) ≡ falling (λ c. at (flip c)) t
    rise (tri a b c) = refl

neighbours_back : (p q : Point) → Neighbours p q → Neighbours q p
neighbours_back p q n = (n.0, n.1, elim n.2 [ inl e ↦ inr e | inr e ↦ inl e ])

some_corner : (ts : List Triangle) → 0 < length ts → (c : Corner) × (0 < with_corner same c ts)
some_corner [] l = absurd (omega arith)
some_corner (t ∷ ts) l = let c = first_had same same_true same_refl t in (c.0, omega (arith, c.1))

above_is : (v : ℤ) (n : ℕ) → v ≡ pos n → 0 < n → pos 0 <ℤ v
above_is v n e l = omega (arith, ints)

below_is : (v : ℤ) (n : ℕ) → v ≡ neg_ℤ (pos n) → 0 < n → v <ℤ pos 0
below_is v n e l = omega (arith, ints)

not_both : (v : ℤ) → pos 0 <ℤ v → v <ℤ pos 0 → ⊥
not_both v a b = omega (arith, ints)

module _ (k : Corner → ℕ) (part : List Triangle) (x y z : ℕ) (some : 0 < length part)
    (amid : (p q : Point) → 0 < with_corner same (edge p q) part → AmidStep (k (edge p q))) where
  filled : (g : Point → Bool) → Border g x y z → Outer part g x y z → Filled k part g x y z
  filled g border outer = go (some_corner part some)
    where
      within : WithinSteps k g
      within p q n i o = amid p q ((outer.corners p q).1 (n, i, o))

      go : (c : Corner) × (0 < with_corner same c part) → Filled k part g x y z
      go (edge p q, h) =
          record {
            volume = ap (six_volume (place k)) outer.triangles ∙ encloses_within g x y z border k within;
            above = above_zero_within g x y z border k within p ((outer.corners p q).0 h).1;
          }

  hollow : (g : Point → Bool) → Border g x y z → Inner part g x y z → Hollow k part g x y z
  hollow g border inner = go (some_corner part some)
    where
      corner : (p q : Point) → Crossing g (edge p q) → 0 < with_corner same (edge q p) part
      corner p q c = (inner.corners q p).1 (neighbours_back p q c.0, c.2, c.1)

      within : WithinSteps (from_other_end k) g
      within p q n i o = let a = amid q p (corner p q (n, i, o)) in omega arith

      places : (p q : Point) → 0 < with_corner same (edge p q) part → place k (edge p q) ≡ place (from_other_end k) (edge q p)
      places p q h = let a = amid p q h in place_turned (k (edge p q)) (256 - k (edge p q)) p q (omega arith)

      placed : (c : Corner) → Crossing g c → place k (flip c) ≡ place (from_other_end k) c
      placed (edge p q) c = places q p (corner p q c)

      go : (c : Corner) × (0 < with_corner same c part) → Hollow k part g x y z
      go (edge p q, h) =
          record {
            places = places;
            volume =
                six_volume_inside_out (place k) part (skin g x y z) inner.turned
                ∙ ap neg_ℤ
                (six_volume_placed (λ c. place k (flip c)) (place (from_other_end k)) (skin g x y z)
                (All-weaker _ _ (λ t. All-weaker _ _ placed (corners t)) (skin g x y z) (skin_crosses g x y z))
                ∙ encloses_within g x y z border (from_other_end k) within);
            above = above_zero_within g x y z border (from_other_end k) within q ((inner.corners p q).0 h).2;
          }

  outer_above : IsOuter part x y z → pos 0 <ℤ six_volume (place k) part
  outer_above (g, border, o) = let r = filled g border o in above_is _ _ r.volume r.above

  inner_below : IsInner part x y z → six_volume (place k) part <ℤ pos 0
  inner_below (g, border, i) = let r = hollow g border i in below_is _ _ r.volume r.above

  solid : Region part x y z → Solid k part x y z
  solid r =
      record {
        region = r;
        outer = filled;
        inner = hollow;
        never_zero = elim r.seen [
          | inl o ↦ λ e. let a = outer_above (r.inside, r.border, o) in omega (arith, ints)
          | inr i ↦ λ e. let b = inner_below (r.inside, r.border, i) in omega (arith, ints)
        ];
        above = (
          outer_above,
          λ a. elim r.seen
              [ inl o ↦ (r.inside, r.border, o) | inr i ↦ absurd (not_both _ a (inner_below (r.inside, r.border, i))) ],
        );
        below = (
          inner_below,
          λ b. elim r.seen
              [ inl o ↦ absurd (not_both _ (outer_above (r.inside, r.border, o)) b) | inr i ↦ (r.inside, r.border, i) ],
        );
      }

pub parts_are_solid : PartsAreSolid
parts_are_solid f x y z border k range ps n numbered m l =
    solid k (of_part m (skin f x y z) ps) x y z
    ((parts_counted same (skin f x y z) ps n numbered).some m l)
    (λ p q h.
    let c = (parted f x y z border p q).0 (omega (arith, part_most (has same (edge p q)) m (skin f x y z) ps)) in
    let r = range p q c.0 c.1 c.2 in omega arith)
    (numbered_parts_enclose f x y z border ps n numbered m l)
