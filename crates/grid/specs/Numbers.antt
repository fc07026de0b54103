-- The numbers of points and edges in a grid of a by b by c points, and how they are undone. Assumes nothing.
use Rattle.std.specs.Prelude.{◌≡◌, ℕ, ◌+◌, ◌*◌, ◌/◌, ◌%◌, ◌<◌, cond, ◌||◌, ◌↔◌, Some, None, Option, ◌==◌, nat_lt}
use Rattle.std.specs.Option.{option_zip}
use Rattle.theory.specs.Grid.{Point, pt}
use Rattle.grid.specs.declared.edge.Step.{Step}
use Rattle.grid.specs.Places.{step_number, step_in}

-- a grid has a point at least along each axis
abbrev pub sized : ℕ → ℕ → ℕ → Option (ℕ × ℕ × ℕ)
sized a b c = cond (a == 0 || (b == 0 || c == 0)) None (Some (a, b, c))

-- the number of a point: along x first, then y, then z
abbrev pub number_of : ℕ → ℕ → Point → ℕ
number_of a b (pt x y z) = x + a * (y + b * z)

-- the point that has a number
abbrev pub point_of : ℕ → ℕ → ℕ → Point
point_of a b n = pt (n % a) (n / a % b) (n / a / b)

-- the point of the grid that has a number: there is none from the number of points on
abbrev pub point_in : ℕ → ℕ → ℕ → ℕ → Option Point
point_in a b c n = cond (nat_lt n (a * (b * c))) (Some (point_of a b n)) None

-- the number of an edge: seven for each upper end
abbrev pub edge_number : ℕ → ℕ → Point × Step → ℕ
edge_number a b e = 7 * number_of a b e.0 + step_number e.1

-- the edge that has a number: there is none from seven times the number of points on
abbrev pub edge_in : ℕ → ℕ → ℕ → ℕ → Option (Point × Step)
edge_in a b c n = option_zip (point_in a b c (n / 7)) (step_in (n % 7))

-- a point of the grid
abbrev pub Within : ℕ → ℕ → ℕ → Point → Type 0
Within a b c (pt x y z) = (x < a) × (y < b) × (z < c)

-- POINTS HAVE NUMBERS: within the grid, finding a point's number and undoing it are inverse to each other; the numbers are those below the
-- number of points, and different points have different ones
pub record PointsNumbered : Type 0 where
  pub undone : (a b c n : ℕ) (p : Point) → (point_in a b c n ≡ Some p) ↔ (Within a b c p × (number_of a b p ≡ n))
  pub below : (a b c : ℕ) (p : Point) → Within a b c p → number_of a b p < a * (b * c)
  pub apart : (a b c : ℕ) (p q : Point) → Within a b c p → Within a b c q → number_of a b p ≡ number_of a b q → p ≡ q

-- EDGES HAVE NUMBERS: for edges whose upper end is within the grid, finding the number and undoing it are inverse to each other; the numbers
-- are those below seven times the number of points, and different edges have different ones
pub record EdgesNumbered : Type 0 where
  pub undone :
      (a b c n : ℕ) (e : Point × Step) → (edge_in a b c n ≡ Some e) ↔ (Within a b c e.0 × (edge_number a b e ≡ n))
  pub below : (a b c : ℕ) (e : Point × Step) → Within a b c e.0 → edge_number a b e < 7 * (a * (b * c))
  pub apart :
      (a b c : ℕ) (e f : Point × Step) → Within a b c e.0 → Within a b c f.0 → edge_number a b e ≡ edge_number a b f → e ≡ f
