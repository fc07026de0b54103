-- Corners and triangles that are no larger than those of a skin can be measured. Assumes nothing.
use Rattle.std.proofs.Common.{◌≡◌, ℕ, zero, suc, ◌*◌, ◌/◌, ◌%◌, ◌^◌, ◌<◌, ◌≤◌, Bool, true, List, length, get_or, nat_abs, refl, subst, inl, inr, arith}
use Rattle.std.specs.List.{AllByRecursion}
use Rattle.std.proofs.ByRecursion.{All-from_get_or}
use Rattle.std.proofs.lemmas.Bool.{and_from, cases_eq, eq-eqb, le-leb, lt-ltb}
use Rattle.theory.specs.Triangle.{Tri, corners}
use Rattle.theory_parts.specs.Buffer.{count_in, triangles_in}
use Rattle.theory_volume.specs.Sizes.{most_coordinate, most_triangles, CoordinatesTo, Small}
use Rattle.volume.specs.Buffer.{place_in, corner_count}
use Rattle.volume.specs.Measure.{each_below, whole, low, determinant_at, cornered}
use Rattle.volume.specs.Bounded.{bounded_at, bounded}
use Rattle.whole.proofs.Front.{triangle_of_each}

each_below_all : (n : ℕ) (t : ℕ → Bool) → ((i : ℕ) → i < n → t i ≡ true) → each_below n t ≡ true
each_below_all zero t h = refl
each_below_all (suc n) t h = and_from (each_below n t) (t n) (each_below_all n t (λ i l. h i (omega arith))) (h n (omega arith))

abbrev CornersBelow : ℕ → Tri ℕ → Type 0
CornersBelow n t = AllByRecursion (λ c. c < n) (corners t)

-- n corners, none of which has a coordinate that is too large
module _ (cs : List ℕ) (n : ℕ) (long : length cs ≡ 3 * n) (coordinates : (c : ℕ) → c < n → CoordinatesTo most_coordinate (place_in cs c)) where
  low_at : (i : ℕ) → i < length cs → get_or cs i 0 ≤ most_coordinate
  low_at i l =
      let here = coordinates (i / 3) (omega arith) in
      elim (cases_eq (i % 3) 0) [
        | inl z ↦ subst (λ k. get_or cs k 0 ≤ most_coordinate) (omega arith) here.0
        | inr y ↦ elim (cases_eq (i % 3) 1) [
          | inl z ↦ subst (λ k. get_or cs k 0 ≤ most_coordinate) (omega arith) here.1
          | inr x ↦ subst (λ k. get_or cs k 0 ≤ most_coordinate) (omega arith) here.2
        ]
      ]

  pub coordinates_short : AllByRecursion (λ k. k < 65536) cs
  coordinates_short = All-from_get_or (λ k. k < 65536) cs 0 (λ i l. omega (arith, low_at i l))

  module _ (ns : List ℕ) (in_range : AllByRecursion (CornersBelow n) (triangles_in ns)) where
    cornered_at : (i : ℕ) → i < count_in ns → cornered cs ns i ≡ true
    cornered_at i l =
        let here = triangle_of_each (CornersBelow n) ns in_range i l in
        let below : (c : ℕ) → c < n → c < corner_count cs = λ c k. omega arith in
        and_from _ _ (lt-ltb _ _ (below _ here.0))
        (and_from _ _ (lt-ltb _ _ (below _ here.1.0)) (lt-ltb _ _ (below _ here.1.1.0)))

    pub small_bounded :
        length ns % 4 ≡ 0 → count_in ns ≤ most_triangles → AllByRecursion (Small (place_in cs)) (triangles_in ns) → bounded cs ns ≡ true
    unfolding bounded
    small_bounded triangles_whole few small =
        and_from (whole cs ns) _
        (and_from _ _ (eq-eqb (length cs % 3) 0 (omega arith)) (and_from _ _ (eq-eqb _ 0 triangles_whole) (le-leb _ most_triangles few)))
        (and_from _ _ (each_below_all (length cs) (low cs) (λ i l. le-leb _ most_coordinate (low_at i l)))
        (each_below_all (count_in ns) (bounded_at cs ns)
        (λ i l. and_from (cornered cs ns i) _ (cornered_at i l)
        (le-leb (nat_abs (determinant_at cs ns i)) (2 ^ 34) (triangle_of_each (Small (place_in cs)) ns small i l)))))
