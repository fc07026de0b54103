-- How large the numbers of a skin's volume get, where a block has at most 95 cubes along each axis: all of them are far within a signed
-- number of 64 bits. Assumes nothing.
use Rattle.std.specs.Prelude.{◌≡◌, ℕ, ◌*◌, ◌^◌, ◌<◌, ◌≤◌, Bool, List, length, take, ℤ, pos, ◌+ℤ◌, ◌-ℤ◌, ◌*ℤ◌, unsigned_abs}
use Rattle.std.specs.List.{AllByRecursion}
use Rattle.theory.specs.Grid.{Point, pt}
use Rattle.theory.specs.Triangle.{Tri, tri, corners}
use Rattle.theory.specs.Skin.{Corner, Triangle, skin}
use Rattle.theory.specs.Places.{Place, place, InRange}
use Rattle.theory_volume.specs.Volume.{determinant, six_volume}

-- cubes along one axis, and a coordinate, in 256ths of a step, at most
abbrev pub most_cubes : ℕ
most_cubes = 95

abbrev pub most_coordinate : ℕ
most_coordinate = 256 * most_cubes

-- each coordinate of a place is at most m
abbrev pub CoordinatesTo : ℕ → Place → Type 0
CoordinatesTo m (pt x y z) = (x ≤ m) × (y ≤ m) × (z ≤ m)

-- the determinant of a triangle's corners is at most 2 ^ 34 in size: its corners lie in one cube
abbrev pub Small : {C : Type 0} → (C → Place) → Tri C → Type 0
Small at (tri a b c) = unsigned_abs (determinant (at a) (at b) (at c)) ≤ 2 ^ 34

-- two triangles for each of a cube's six pieces
abbrev pub most_triangles : ℕ
most_triangles = 12 * (most_cubes * (most_cubes * most_cubes))

-- What a loop over a skin's triangles needs: `first` bounds the sum of the first n, `some` that of any of them, in any order; there are no more
-- than `count`, so none of these sums comes to 2 ^ 58.
pub record Sized (k : Corner → ℕ) (ts : List Triangle) : Type 0 where
  pub coordinates : AllByRecursion (λ t. AllByRecursion (λ c. CoordinatesTo most_coordinate (place k c)) (corners t)) ts
  pub each : AllByRecursion (Small (place k)) ts
  pub count : length ts ≤ most_triangles
  pub first : (n : ℕ) → unsigned_abs (six_volume (place k) (take n ts)) ≤ n * 2 ^ 34
  pub some : (us : List Triangle) → AllByRecursion (Small (place k)) us → unsigned_abs (six_volume (place k) us) ≤ length us * 2 ^ 34
  pub fits : most_triangles * 2 ^ 34 < 2 ^ 58

-- THE SUM FITS: no running sum of determinants, over the first triangles or over some of them, comes near 2 ^ 63
abbrev pub SumsFit : Type 0
SumsFit =
    (f : Point → Bool) (x y z : ℕ) → x ≤ most_cubes → y ≤ most_cubes → z ≤ most_cubes →
    (k : Corner → ℕ) → InRange f k → Sized k (skin f x y z)

-- one coordinate of the vector product of two rows
abbrev pub crossed : ℕ → ℕ → ℕ → ℕ → ℤ
crossed e g i j = (pos e *ℤ pos j) -ℤ (pos g *ℤ pos i)

-- the determinant as it is worked out, the first row times the vector product of the others, and the size of each step
pub record DeterminantSteps (a b c d e g h i j : ℕ) : Type 0 where
  pub cross_x : unsigned_abs (crossed e g i j) ≤ 2 ^ 32
  pub cross_y : unsigned_abs (crossed g d j h) ≤ 2 ^ 32
  pub cross_z : unsigned_abs (crossed d e h i) ≤ 2 ^ 32
  pub product_x : unsigned_abs (pos a *ℤ crossed e g i j) ≤ 2 ^ 48
  pub product_y : unsigned_abs (pos b *ℤ crossed g d j h) ≤ 2 ^ 48
  pub product_z : unsigned_abs (pos c *ℤ crossed d e h i) ≤ 2 ^ 48
  pub sum : unsigned_abs ((pos a *ℤ crossed e g i j) +ℤ (pos b *ℤ crossed g d j h)) ≤ 2 ^ 49
  pub size : unsigned_abs (determinant (pt a b c) (pt d e g) (pt h i j)) ≤ 2 ^ 50
  pub value :
      ((pos a *ℤ crossed e g i j) +ℤ (pos b *ℤ crossed g d j h)) +ℤ (pos c *ℤ crossed d e h i)
      ≡ determinant (pt a b c) (pt d e g) (pt h i j)

-- EACH STEP FITS, for any coordinates of two bytes
abbrev pub StepsFit : Type 0
StepsFit =
    (a b c d e g h i j : ℕ) →
    CoordinatesTo (2 ^ 16) (pt a b c) → CoordinatesTo (2 ^ 16) (pt d e g) → CoordinatesTo (2 ^ 16) (pt h i j) →
    DeterminantSteps a b c d e g h i j

-- a skin has at most twelve triangles for each cube
abbrev pub TwelveACube : Type 0
TwelveACube = (f : Point → Bool) (x y z : ℕ) → length (skin f x y z) ≤ 12 * (x * (y * z))
