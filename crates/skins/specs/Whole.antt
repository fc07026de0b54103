-- A skin in memory of its own: that its numbers can be written, and what is promised of them. Assumes nothing.
use Rattle.std.specs.Prelude.{◌≡◌, ℕ, ◌*◌, ◌<◌, true, List, map, length, pos, None, nat_eq, slice_index, slice_index_or}
use Rattle.std.specs.List.{flat_map, AllByRecursion}
use Rattle.theory.specs.Grid.{Point}
use Rattle.theory.specs.Skin.{same}
use Rattle.theory.specs.Closed.{EachSideOnce, ThreeCorners, Ring, Neighbours}
use Rattle.theory.specs.Places.{place}
use Rattle.theory_parts.specs.Buffer.{triangles_in, parts_in}
use Rattle.theory_parts.specs.Parts.{Numbered}
use Rattle.theory_parts.specs.Regions.{of_part}
use Rattle.theory_volume.specs.Volume.{six_volume}
use Rattle.theory_buffers.specs.ByNumber.{CrossedByNumber}
use Rattle.block.specs.Scan.{size_x, size_y, size_z, inside, refusal_of}
use Rattle.corner.specs.Fraction.{fraction_in}
use Rattle.corner.specs.Buffer.{coordinates}
use Rattle.triangle.specs.Progress.{skin_of, corners_of}
use Rattle.volume.specs.Buffer.{place_in}
use Rattle.volume.specs.declared.Part.{Part}
use Rattle.mesh.specs.Written.{skin_bytes}
use Rattle.checker.specs.Verdict.{Verdict}
use Rattle.whole.specs.Finished.{numbered_of, inside_of, PartIs}
use Rattle.whole.specs.declared.Made.{Made}

-- WHAT CAN BE WRITTEN: three numbers for each corner, each of which two bytes hold, and four for each triangle
pub record Writable (corners triangles : List ℕ) (made : Made) : Type 0 where
  pub corner_count : length corners ≡ 3 * made.corners
  pub triangle_count : length triangles ≡ 4 * made.triangles
  pub coordinates_short : (i : ℕ) → slice_index corners i < 65536

-- THE SKIN OF A BLOCK, with nothing before it and nothing behind it
pub record Whole (bs corners triangles : List ℕ) (parts : List Part) (made : Made) : Type 0 where
  pub taken : refusal_of bs ≡ None
  -- its corners, its triangles in their order, its parts
  pub corners_placed : corners ≡ flat_map coordinates (map (place (fraction_in bs)) (corners_of bs))
  pub triangles_numbered : triangles_in triangles ≡ numbered_of bs
  pub parts_numbered : Numbered same (skin_of bs) (parts_in triangles) made.parts
  -- the counts are the lengths
  pub corner_count : length corners ≡ 3 * made.corners
  pub triangle_count : length triangles ≡ 4 * made.triangles
  pub part_count : length parts ≡ made.parts
  -- it is closed
  pub each_side_once : EachSideOnce nat_eq (triangles_in triangles)
  pub three_corners : AllByRecursion (ThreeCorners nat_eq) (triangles_in triangles)
  pub one_ring : (c : ℕ) → c < made.corners → Ring nat_eq c (triangles_in triangles)
  -- it parts inside from outside, place by place
  pub crossed_once : (p q : Point) → Neighbours p q → CrossedByNumber (inside bs) (place_in corners) made.corners p q
  pub no_two_at_one_place : (m n : ℕ) → m < made.corners → n < made.corners → place_in corners m ≡ place_in corners n → m ≡ n
  -- it encloses what is inside, at least 0, and above 0 if a point is inside
  pub encloses : six_volume (place_in corners) (triangles_in triangles) ≡ pos (inside_of bs (inside bs) (fraction_in bs))
  pub above_zero : (p : Point) → inside bs p ≡ true → 0 < inside_of bs (inside bs) (fraction_in bs)
  -- each part is outer or inner, with its count and its volume
  pub each_part :
      (m : ℕ) (other : Part) → m < made.parts → PartIs bs (of_part m (skin_of bs) (parts_in triangles)) (slice_index_or parts m other)
  -- and its bytes are accepted by the checker
  pub accepted : Verdict (skin_bytes corners triangles made.parts) None

-- buffers of these lengths hold the skin of a block and no more
pub record Exact (bs : List ℕ) (corners triangles work : ℕ) : Type 0 where
  pub taken : refusal_of bs ≡ None
  pub for_corners : corners ≡ 3 * length (corners_of bs)
  pub for_triangles : triangles ≡ 4 * length (skin_of bs)
  pub for_work : work ≡ 6 * (size_x bs * (size_y bs * size_z bs))
