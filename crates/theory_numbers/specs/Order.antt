-- In which cube a corner is met first: cubes go in the order of their lowest points, and a corner is met first in the cube whose highest
-- point is the upper end of the corner's edge. Each statement is a type; a public function's contract names it, so its proof is owed.
-- Assumes nothing.
use Rattle.std.specs.Prelude.{◌≡◌, ℕ, suc, ◌<◌, max, Bool, ◌||◌, ◌≢◌, ◌⊎◌, ◌↔◌, List, [], ◌++◌}
use Rattle.theory.specs.Grid.{Point, pt, Offset, off, highest, ◌⊕◌, Border}
use Rattle.theory.specs.Triangle.{edge, with_corner}
use Rattle.theory.specs.Skin.{Corner, Triangle, same, cube, below, skin}

-- the triangles of the cubes before the one at i, j, k: the layers below it, the rows before it in its layer, the cubes before it in its row
unfoldable pub before : (Point → Bool) → ℕ → ℕ → Point → List Triangle
before f x y (pt i j k) =
    skin f x y k ++ (below j (λ j. below x (λ i. cube f (pt i j k))) ++ below i (λ i. cube f (pt i j k)))

-- the upper end of a corner's edge: from one of its ends to the other no step goes down, so the other is the higher along each axis
abbrev pub upper : Corner → Point
upper (edge (pt a b c) (pt d e g)) = pt (max a d) (max b e) (max c g)

-- the same for two points of a cube
abbrev pub higher : Offset → Offset → Offset
higher (off a b c) (off d e g) = off (a || d) (b || e) (c || g)

-- how a loop over layers, rows and cubes goes on
pub record InOrder (f : Point → Bool) (x y : ℕ) : Type 0 where
  pub start : before f x y (pt 0 0 0) ≡ []
  pub next_cube : (i j k : ℕ) → before f x y (pt (suc i) j k) ≡ before f x y (pt i j k) ++ cube f (pt i j k)
  pub next_row : (j k : ℕ) → before f x y (pt 0 (suc j) k) ≡ before f x y (pt x j k)
  pub next_layer : (k : ℕ) → before f x y (pt 0 0 (suc k)) ≡ before f x y (pt 0 y k)
  pub end : (z : ℕ) → before f x y (pt 0 0 z) ≡ skin f x y z

-- FIRST MET: a corner of a cube is new there if its edge ends at the cube's highest point, and else a cube before has it
pub record FirstMet (f : Point → Bool) (x y i j k : ℕ) (c : Corner) : Type 0 where
  pub end : (p q : Point) → c ≡ edge p q → (upper c ≡ p) ⊎ (upper c ≡ q)
  pub new : upper c ≡ pt i j k ⊕ highest → with_corner same c (before f x y (pt i j k)) ≡ 0
  pub known : upper c ≢ pt i j k ⊕ highest → 0 < with_corner same c (before f x y (pt i j k))

abbrev pub CubesInOrder : Type 0
CubesInOrder = (f : Point → Bool) (x y : ℕ) → InOrder f x y

-- which edges between two points of a cube end at its highest point
abbrev pub EndsAtTop : Type 0
EndsAtTop = (l : Point) (a b : Offset) → (upper (edge (l ⊕ a) (l ⊕ b)) ≡ l ⊕ highest) ↔ (higher a b ≡ highest)

abbrev pub CornersFirstMet : Type 0
CornersFirstMet =
    (f : Point → Bool) (x y z i j k : ℕ) → Border f x y z → i < x → j < y → k < z →
    (c : Corner) → 0 < with_corner same c (cube f (pt i j k)) → FirstMet f x y i j k c
