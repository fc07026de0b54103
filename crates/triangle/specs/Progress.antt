-- How far a skin is written, cube by cube, and what is written in the end. Assumes nothing: these are definitions.
use Rattle.std.specs.Prelude.{◌≡◌, ℕ, ◌-◌, ◌*◌, ◌^◌, ◌<◌, ◌≤◌, List, map, length}
use Rattle.theory.specs.Grid.{Point}
use Rattle.theory.specs.Skin.{Corner, Triangle, same, skin}
use Rattle.theory.specs.Places.{place}
use Rattle.theory_numbers.specs.Numbers.{renumber, corners_met, corner_list, numbered}
use Rattle.theory_numbers.specs.Order.{before}
use Rattle.block.specs.Scan.{size_x, size_y, size_z, inside}
use Rattle.corner.specs.Fraction.{fraction_in}
use Rattle.corner.specs.Buffer.{filled}
use Rattle.triangle.specs.Output.{filled_triangles, Holds}
use Rattle.triangle.specs.declared.write.Out.{Out}

-- the skin of a block, its corners in the order in which they are met, and its triangles by the numbers of these
abbrev pub skin_of : List ℕ → List Triangle
skin_of bs = skin (inside bs) (size_x bs - 1) (size_y bs - 1) (size_z bs - 1)

abbrev pub corners_of : List ℕ → List Corner
corners_of bs = corner_list (inside bs) (size_x bs - 1) (size_y bs - 1) (size_z bs - 1)

-- the triangles of the cubes before the one at a point
abbrev pub earlier : List ℕ → Point → List Triangle
earlier bs p = before (inside bs) (size_x bs - 1) (size_y bs - 1) p

-- buffers of these lengths have room for the skin, and 32 bits for its numbers
pub record Room (bs : List ℕ) (corners triangles work : ℕ) : Type 0 where
  pub for_corners : 3 * length (corners_of bs) ≤ corners
  pub for_triangles : 4 * length (skin_of bs) ≤ triangles
  pub for_work : 6 * (size_x bs * (size_y bs * size_z bs)) ≤ work
  pub corner_numbers : length (corners_of bs) < 2 ^ 32
  pub triangle_numbers : length (skin_of bs) < 2 ^ 32

abbrev pub RoomIn : List ℕ → Out → Type 0
RoomIn bs old = Room bs (length old.corners.now) (length old.triangles.now) (length old.work.now)

-- these triangles are written, by the numbers of their corners, and these corners
pub record Written (bs : List ℕ) (old o : Out) (ts : List Triangle) : Type 0 where
  pub room : RoomIn bs old
  pub holds : Holds bs old o (corners_met ts) (map (renumber same (corners_met ts)) ts)

-- THE SKIN IS WRITTEN: the places of its corners, and its triangles by numbers, at the front of the buffers, and nothing else
pub record SkinWritten (bs corners triangles corners' triangles' : List ℕ) : Type 0 where
  pub places : corners' ≡ filled (map (place (fraction_in bs)) (corners_of bs)) corners
  pub numbers : triangles' ≡ filled_triangles (numbered (inside bs) (size_x bs - 1) (size_y bs - 1) (size_z bs - 1)) triangles
