-- A row of points or of cubes, at one y and z. Assumes nothing: these are definitions.
use Rattle.std.specs.Prelude.{◌≡◌, ℕ, suc, ◌<◌, List, length, Some, None, Option, slice_index}
use Rattle.theory.specs.Grid.{pt}
use Rattle.block.specs.Scan.{size_x, value_of, inside}
use Rattle.triangle.specs.Cubes.{cube_at, face_bits, OfBlock}

-- the values of a row of points
pub record Line (bs : List ℕ) (y z : ℕ) (values : List ℕ) : Type 0 where
  pub long : length values ≡ size_x bs
  pub value : (x : ℕ) → x < size_x bs → slice_index values x ≡ value_of bs (pt x y z)

-- who is inside of the four points at each x
abbrev pub Faces : List ℕ → ℕ → ℕ → List ℕ → Type 0
Faces bs y z faces = (x : ℕ) → x < size_x bs → slice_index faces x ≡ face_bits (inside bs) (pt x y z)

-- the bits of the cube at an x: 0 where nothing is said of the row
abbrev pub bits_at : Option (List ℕ) → ℕ → ℕ
bits_at None x = 0
bits_at (Some bits) x = slice_index bits x

-- the cubes of a row, by their bits
abbrev pub RowOf : List ℕ → ℕ → ℕ → Option (List ℕ) → Type 0
RowOf bs y z row = (x : ℕ) → suc x < size_x bs → OfBlock bs (cube_at x y z (bits_at row x))
