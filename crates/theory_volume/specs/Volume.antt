-- Volumes by determinants: the determinant of a triangle's three corners, and its sum over a list of triangles. For a closed skin that sum
-- is six times the enclosed volume, in 256ths of a grid step along each axis. Assumes nothing.
use Rattle.std.specs.Prelude.{◌≡◌, ℕ, ◌+◌, ◌*◌, List, [], ◌∷◌, map, ℤ, pos, ◌+ℤ◌, ◌-ℤ◌, neg_ℤ}
use Rattle.theory.specs.Grid.{pt}
use Rattle.theory.specs.Triangle.{Tri, tri}
use Rattle.theory.specs.Skin.{Corner, Triangle}
use Rattle.theory.specs.Places.{Place}

-- the products along the three falling diagonals of the rows a b c, d e g, h i j
abbrev pub diagonals : Place → Place → Place → ℕ
diagonals (pt a b c) (pt d e g) (pt h i j) = a * (e * j) + (b * (g * h) + c * (d * i))

-- the determinant of three rows: the falling diagonals less the rising ones, which fall where two rows are exchanged
unfoldable pub determinant : Place → Place → Place → ℤ
determinant p q r = pos (diagonals p q r) -ℤ pos (diagonals p r q)

-- the sum of the triangles' determinants; a triangle's corners may be of any sort that has places
unfoldable pub six_volume : {C : Type 0} → (C → Place) → List (Tri C) → ℤ
six_volume at [] = pos 0
six_volume at (tri a b c ∷ ts) = determinant (at a) (at b) (at c) +ℤ six_volume at ts

-- the same triangle, run the other way
abbrev pub turned : {C : Type 0} → Tri C → Tri C
turned (tri a b c) = tri a c b

-- TURNED INSIDE OUT: where each triangle is run the other way the sum is the negative one, for the skin's corners and for numbered ones.
-- It does not matter which two corners are exchanged, since a determinant does not change where its rows go round.
pub record TurnedInsideOut : Type 0 where
  pub round : (p q r : Place) → determinant q r p ≡ determinant p q r
  pub skins : (at : Corner → Place) (ts : List Triangle) → six_volume at (map turned ts) ≡ neg_ℤ (six_volume at ts)
  pub numbered : (at : ℕ → Place) (ts : List (Tri ℕ)) → six_volume at (map turned ts) ≡ neg_ℤ (six_volume at ts)
