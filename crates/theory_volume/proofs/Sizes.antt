-- A skin's determinants are small and not too many, so their sums fit. Assumes nothing.
use Rattle.std.proofs.Common.{◌≡◌, ℕ, zero, suc, ◌*◌, ◌^◌, ◌<◌, ◌≤◌, Bool, true, T, leb, List, [], ◌∷◌, length, take, nat_abs, sym, refl, ap, ◌∙◌, subst, le_trans, mul-le-mul_right, mul-le-mul, mul-le-mul_left, arith, leb→le}
use Rattle.std.proofs.ByRecursion.{All-weaker}
use Rattle.std.specs.List.{AllByRecursion}
use Rattle.theory.specs.Grid.{Point, pt, ◌⊕◌, Piece, pieces}
use Rattle.theory.specs.Triangle.{Tri, tri, sum_of, corners}
use Rattle.theory.specs.Skin.{Corner, Triangle, in_piece, cube, below, skin}
use Rattle.theory.specs.Faces.{renamed, sum_below}
use Rattle.theory.specs.Places.{Place, place, point_place, InRange}
use Rattle.theory.proofs.Sums.{sum_ones, sum_map, sum_skin, sum_cube, every_append, every_joined}
use Rattle.theory.proofs.Patterns.{piece_cut, in_piece_at, pattern_at}
use Rattle.theory.proofs.Bounds.{sum_le}
use Rattle.theory_volume.specs.Volume.{determinant, six_volume}
use Rattle.theory_volume.specs.Sizes.{most_cubes, most_coordinate, CoordinatesTo, Small, most_triangles, SumsFit, TwelveACube}
use Rattle.theory_volume.proofs.Corners.{Fits, in_range_within, pieces_fit, every_from_two}
use Rattle.theory_volume.proofs.Steps.{sum_size}
use Rattle.theory_volume.proofs.Cubes.{most_lowest, InCube, piece_in_cube, in_cube_small, in_cube_coordinates}

-- small triangles have a sum that is small for their number
pub six_volume_size :
    {C : Type 0} (at : C → Place) (ts : List (Tri C)) → AllByRecursion (Small at) ts → nat_abs (six_volume at ts) ≤ length ts * 2 ^ 34
unfolding six_volume
six_volume_size at [] s = omega arith
six_volume_size at (tri a b c ∷ ts) s =
    let h = sum_size (determinant (at a) (at b) (at c)) (six_volume at ts) _ _ s.0 (six_volume_size at ts s.1) in omega arith

every_take : {A : Type 0} (P : A → Type 0) (n : ℕ) (xs : List A) → AllByRecursion P xs → AllByRecursion P (take n xs)
every_take P zero xs e = tt
every_take P (suc n) [] e = tt
every_take P (suc n) (x ∷ xs) e = (e.0, every_take P n xs e.1)

length_take_most : {A : Type 0} (n : ℕ) (xs : List A) → length (take n xs) ≤ n
length_take_most zero xs = omega arith
length_take_most (suc n) [] = omega arith
length_take_most (suc n) (x ∷ xs) = let h = length_take_most n xs in omega arith

every_below_each : {A : Type 0} (P : A → Type 0) (n : ℕ) (g : ℕ → List A) → ((i : ℕ) → i < n → AllByRecursion P (g i)) → AllByRecursion P (below n g)
every_below_each P zero g a = tt
every_below_each P (suc n) g a = every_append P (below n g) (g n) (every_below_each P n g (λ i l. a i (omega arith))) (a n (omega arith))

-- what holds of the triangles of each piece of each cube within the grid holds of the skin's
every_within :
    (P : Triangle → Type 0) (f : Point → Bool) (x y z : ℕ) →
    ((u v w : ℕ) → u < x → v < y → w < z → AllByRecursion (λ o. AllByRecursion P (in_piece f (pt u v w) o)) pieces) → AllByRecursion P (skin f x y z)
unfolding skin cube
every_within P f x y z a =
    every_below_each P z _ (λ w lw. every_below_each P y _ (λ v lv. every_below_each P x _ (λ u lu.
    every_joined P (in_piece f (pt u v w)) pieces (a u v w lu lv lw))))

in_cubes :
    (k : Corner → ℕ) (f : Point → Bool) → InRange f k → (l : Point) →
    AllByRecursion (λ o. AllByRecursion (λ t. AllByRecursion (λ c. InCube l (place k c)) (corners t)) (in_piece f l o)) pieces
in_cubes k f range l = All-weaker _ _ each pieces (pieces_fit k f (in_range_within k f range) l)
  where
    each : (o : Piece) → AllByRecursion (λ t. AllByRecursion (Fits k) (corners t)) (in_piece f l o) →
        AllByRecursion (λ t. AllByRecursion (λ c. InCube l (place k c)) (corners t)) (in_piece f l o)
    each o h = every_from_two _ _ _ (λ t. every_from_two _ _ _ (λ c a b. b a) (corners t)) (in_piece f l o) h (piece_in_cube k f l o)

-- one test of the pieces' patterns: no piece has more than two triangles
few : (f : Point → Bool) (l : Point) → AllByRecursion (λ w. sum_of (λ t. 1) (in_piece f l w) ≤ 2) pieces
few f l = All-weaker _ _ one pieces (pattern_at (λ w ts. leb (sum_of (λ t. 1) ts) 2) refl (λ o. f (l ⊕ o)))
  where
    as_many : (w : Piece) → sum_of (λ t. 1) (in_piece f l w) ≡ sum_of (λ t. 1) (piece_cut (λ o. f (l ⊕ o)) w)
    as_many w = ap (sum_of (λ t. 1)) (in_piece_at f l w) ∙ sum_map (λ t. 1) (renamed (λ o. l ⊕ o)) (piece_cut (λ o. f (l ⊕ o)) w)

    one : (w : Piece) → leb (sum_of (λ t. 1) (piece_cut (λ o. f (l ⊕ o)) w)) 2 ≡ true → sum_of (λ t. 1) (in_piece f l w) ≤ 2
    one w e = subst (λ n. n ≤ 2) (sym (as_many w)) (leb→le _ 2 (subst T (sym e) tt))

few_in_cube : (f : Point → Bool) (l : Point) → sum_of (λ t. 1) (cube f l) ≤ 12
few_in_cube f l = subst (λ n. n ≤ 12) (sym (sum_cube (λ t. 1) f l)) (sum_le (λ w. sum_of (λ t. 1) (in_piece f l w)) (λ w. 2) pieces (few f l))

sum_below_most : (n m : ℕ) (h : ℕ → ℕ) → ((i : ℕ) → h i ≤ m) → sum_below n h ≤ n * m
sum_below_most zero m h e = omega arith
sum_below_most (suc n) m h e = let a = sum_below_most n m h e in let b = e n in omega arith

pub twelve_a_cube : TwelveACube
twelve_a_cube f x y z =
    let most = sum_below_most z (y * (x * 12)) _ (λ w. sum_below_most y (x * 12) _ (λ v. sum_below_most x 12 _ (λ u. few_in_cube f (pt u v w)))) in
    omega (arith, sum_ones (skin f x y z), sum_skin (λ t. 1) f x y z, most)

module _ (f : Point → Bool) (x y z : ℕ) (lx : x ≤ most_cubes) (ly : y ≤ most_cubes) (lz : z ≤ most_cubes)
    (k : Corner → ℕ) (range : InRange f k) where
  -- what follows from its corners' lying in one cube of the grid holds of every triangle
  skin_each :
      (P : Triangle → Type 0) →
      ((l : Point) → CoordinatesTo most_lowest (point_place l) → (t : Triangle) → AllByRecursion (λ c. InCube l (place k c)) (corners t) → P t) →
      AllByRecursion P (skin f x y z)
  skin_each P h =
      every_within P f x y z (λ u v w lu lv lw.
      All-weaker _ _ (λ o. All-weaker _ _ (h (pt u v w) (omega arith)) (in_piece f (pt u v w) o)) pieces (in_cubes k f range (pt u v w)))

  skin_small : AllByRecursion (Small (place k)) (skin f x y z)
  skin_small = skin_each (Small (place k)) (in_cube_small k)

  skin_coordinates : AllByRecursion (λ t. AllByRecursion (λ c. CoordinatesTo most_coordinate (place k c)) (corners t)) (skin f x y z)
  skin_coordinates =
      skin_each (λ t. AllByRecursion (λ c. CoordinatesTo most_coordinate (place k c)) (corners t)) (λ l far t.
      All-weaker _ _ (λ c. in_cube_coordinates l (place k c) far) (corners t))

  skin_count : length (skin f x y z) ≤ most_triangles
  skin_count = le_trans (twelve_a_cube f x y z) (mul-le-mul_left 12 (mul-le-mul lx (mul-le-mul ly lz)))

pub sums_fit : SumsFit
sums_fit f x y z lx ly lz k range =
    let small = skin_small f x y z lx ly lz k range in
    record {
      coordinates = skin_coordinates f x y z lx ly lz k range;
      each = small;
      count = skin_count f x y z lx ly lz k range;
      first = λ n.
          le_trans (six_volume_size (place k) (take n (skin f x y z)) (every_take _ n _ small))
          (mul-le-mul_right (2 ^ 34) (length_take_most n (skin f x y z)));
      some = six_volume_size (place k);
      fits = omega arith;
    }
