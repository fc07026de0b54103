-- A cube in the code: its points, who of them is inside, and the cases of its pieces. Assumes nothing: these are definitions.
use Rattle.std.specs.Prelude.{◌≡◌, ℕ, suc, ◌+◌, ◌*◌, ◌<◌, Bool, true, false, ◌||◌, List, map, ◌==◌}
use Rattle.std.specs.Coded.{le_prop}
use Rattle.theory.specs.Grid.{Point, pt, ◌⊕◌, Amid}
use Rattle.theory.specs.Triangle.{Edge, edge, one_if}
use Rattle.theory.specs.Skin.{Corner, Triangle}
use Rattle.theory.specs.Faces.{renamed}
use Rattle.block.specs.Scan.{size_x, size_y, size_z, inside, Taken}
use Rattle.grid.specs.Places.{at}
use Rattle.piece.specs.Table.{bit, point_of, offset_at, corner_point, triangles_in}
use Rattle.triangle.specs.declared.cube.Cube.{Cube}

-- the lowest point of a cube
abbrev pub lowest_of : Cube → Point
lowest_of k = at k.lowest

-- the cube at a place, with its bits
abbrev pub cube_at : ℕ → ℕ → ℕ → ℕ → Cube
cube_at x y z bits = record { lowest = record { x = x; y = y; z = z }; bits = bits }

-- a point of a cube by its number
abbrev pub point_in : Cube → ℕ → Point
point_in k o = lowest_of k ⊕ offset_at o

-- who is inside of the points of a piece, by their names, where the bits of a number say so of the points of a cube
abbrev pub case_in : ℕ → ℕ → ℕ
case_in bits w =
    one_if (bit bits (point_of w 0))
    + (2 * one_if (bit bits (point_of w 1)) + (4 * one_if (bit bits (point_of w 2)) + 8 * one_if (bit bits (point_of w 3))))

-- all eight points of a cube are outside, or all inside
abbrev pub plain : ℕ → Bool
plain bits = bits == 0 || bits == 255

-- the four points at one x, from p on: who of them is inside
abbrev pub face_bits : (Point → Bool) → Point → ℕ
face_bits f (pt x y z) =
    2 * one_if (f (pt x y z))
    + (8 * one_if (f (pt x (suc y) z)) + (32 * one_if (f (pt x y (suc z))) + 128 * one_if (f (pt x (suc y) (suc z)))))

-- a cube of a block that was taken, with its bits
pub record OfBlock (bs : List ℕ) (k : Cube) : Type 0 where
  pub taken : Taken bs
  pub along_x : suc k.lowest.x < size_x bs
  pub along_y : suc k.lowest.y < size_y bs
  pub along_z : suc k.lowest.z < size_z bs
  pub byte : k.bits < 256
  pub bits : (o : ℕ) → o < 8 → bit k.bits o ≡ inside bs (point_in k o)

-- a point lies amid a grid in one way at most
pub amid_prop : (x y z : ℕ) (p : Point) → IsProp (Amid x y z p)
amid_prop x y z (pt u v w) = Prim.hlevel le_prop

-- the corner between two points of a cube, given by their numbers
abbrev pub corner_at : Cube → ℕ → ℕ → Corner
corner_at k i j = edge (point_in k i) (point_in k j)

-- an edge of a cube that crosses: the first point is inside and the second is not
pub record Crosses (bs : List ℕ) (k : Cube) (i j : ℕ) : Type 0 where
  pub cube : OfBlock bs k
  pub from : i < 8
  pub to : j < 8
  pub starts_inside : inside bs (point_in k i) ≡ true
  pub ends_outside : inside bs (point_in k j) ≡ false

-- an edge between two points, moved
abbrev pub on_points : {P Q : Type 0} → (P → Q) → Edge P → Edge Q
on_points g (edge a b) = edge (g a) (g b)

-- the triangles of a piece, by the table
abbrev pub piece_triangles : Cube → ℕ → List Triangle
piece_triangles k w = map (renamed (corner_point (lowest_of k) w)) (triangles_in (case_in k.bits w))
