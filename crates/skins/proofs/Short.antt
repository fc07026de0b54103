-- Each coordinate of a block's corners fits two bytes. Assumes nothing.
use Rattle.std.proofs.Common.{◌≡◌, ℕ, zero, suc, ◌-◌, ◌<◌, ◌≤◌, List, [], ◌∷◌, map, length, get_or, None, subst, sym, arith}
use lib.ListN.{length-map}
use Rattle.std.specs.List.{flat_map, AllByRecursion}
use Rattle.std.proofs.ByRecursion.{All-from_get_or}
use Rattle.std.proofs.lemmas.List.{get_or-map}
use Rattle.theory.specs.Grid.{pt}
use Rattle.theory.specs.Triangle.{edge}
use Rattle.theory.specs.Skin.{same}
use Rattle.theory.specs.Places.{Place, place, InRange}
use Rattle.theory.proofs.Same.{same_true, same_refl}
use Rattle.theory.proofs.Crossings.{corner_of}
use Rattle.theory_numbers.proofs.Firsts.{times_at}
use Rattle.theory_numbers.proofs.Numbered.{met_had}
use Rattle.theory_volume.specs.Sizes.{most_coordinate, CoordinatesTo}
use Rattle.theory_volume.proofs.Sizes.{sums_fit}
use Rattle.block.specs.Scan.{size_x, size_y, size_z, inside, refusal_of, Taken}
use Rattle.block.proofs.Goodness.{taken}
use Rattle.corner.specs.Fraction.{fraction_in}
use Rattle.corner.specs.Buffer.{coordinates}
use Rattle.corner.proofs.Fractions.{fractions_in_range}
use Rattle.triangle.specs.Progress.{skin_of, corners_of}

placed_to : (m : ℕ) (ss : List Place) → AllByRecursion (CoordinatesTo m) ss → (i : ℕ) → get_or (flat_map coordinates ss) i 0 ≤ m
placed_to m [] all i = omega arith
placed_to m (pt x y z ∷ ss) all zero = all.0.0
placed_to m (pt x y z ∷ ss) all (suc zero) = all.0.1
placed_to m (pt x y z ∷ ss) all (suc (suc zero)) = all.0.2
placed_to m (pt x y z ∷ ss) all (suc (suc (suc i))) = placed_to m ss all.1 i

pub coordinates_short :
    (bs : List ℕ) → refusal_of bs ≡ None → (i : ℕ) → get_or (flat_map coordinates (map (place (fraction_in bs)) (corners_of bs))) i 0 < 65536
coordinates_short bs e i =
    let t : Taken bs = taken bs e in
    let range : InRange (inside bs) (fraction_in bs) = fractions_in_range bs t in
    let sized =
    sums_fit (inside bs) (size_x bs - 1) (size_y bs - 1) (size_z bs - 1) (omega (arith, t.good.x_size)) (omega (arith, t.good.y_size))
    (omega (arith, t.good.z_size)) (fraction_in bs) range in
    let at = place (fraction_in bs) in
    let no = edge (pt 0 0 0) (pt 0 0 0) in
    let each : AllByRecursion (CoordinatesTo most_coordinate) (map at (corners_of bs)) =
    All-from_get_or (CoordinatesTo most_coordinate) (map at (corners_of bs)) (pt 0 0 0) (λ n l.
    let below : n < length (corners_of bs) = rw length-map at l in
    subst (CoordinatesTo most_coordinate) (sym (get_or-map at (corners_of bs) n no (pt 0 0 0) below))
    (corner_of (λ c. CoordinatesTo most_coordinate (at c)) _ (skin_of bs) sized.coordinates
    ((met_had (get_or (corners_of bs) n no) (skin_of bs)).0 (times_at same same_true same_refl n no (corners_of bs) below)))) in
    omega (arith, placed_to most_coordinate (map at (corners_of bs)) each i)
