-- THE FINISHED SKIN: what the one call from a block's bytes to its skin answers, and what the buffers hold afterwards, whatever was given.
-- Assumes nothing: these are definitions.
use Rattle.std.specs.Prelude.{◌≡◌, ℕ, ◌-◌, ◌*◌, ◌<◌, Bool, true, List, map, length, take, drop, pos, neg_ℤ, Some, None, nat_eq, slice_index_or}
use Rattle.std.specs.List.{AllByRecursion}
use Rattle.theory.specs.Grid.{Point, Border}
use Rattle.theory.specs.Triangle.{Tri}
use Rattle.theory.specs.Skin.{Corner, Triangle, same}
use Rattle.theory.specs.Closed.{EachSideOnce, ThreeCorners, Ring, Neighbours}
use Rattle.theory.specs.Places.{place}
use Rattle.theory_numbers.specs.Numbers.{numbered}
use Rattle.theory_parts.specs.Buffer.{triangles_in, parts_in}
use Rattle.theory_parts.specs.Parts.{Numbered}
use Rattle.theory_parts.specs.Regions.{of_part, Outer, Inner}
use Rattle.theory_volume.specs.Volume.{six_volume}
use Rattle.theory_volume.specs.Inside.{inside_sum}
use Rattle.theory_solids.specs.Solids.{from_other_end}
use Rattle.theory_buffers.specs.ByNumber.{CrossedByNumber}
use Rattle.block.specs.Scan.{size_x, size_y, size_z, inside}
use Rattle.block.specs.declared.refusal.Refusal.{Refusal}
use Rattle.corner.specs.Fraction.{fraction_in}
use Rattle.corner.specs.Buffer.{filled}
use Rattle.triangle.specs.Built.{verdict}
use Rattle.triangle.specs.Progress.{skin_of, corners_of}
use Rattle.volume.specs.Buffer.{place_in}
use Rattle.volume.specs.declared.Part.{Part}
use Rattle.volume.specs.declared.Part.TheVariants as kind
use Rattle.mesh.specs.Written.{skin_bytes}
use Rattle.checker.specs.Verdict.{Verdict}
use Rattle.whole.specs.declared.Made.{Made}

-- what the buffers hold of a skin: its coordinates, three for each corner, and its numbers, four for each triangle
abbrev pub coordinates : Made → List ℕ → List ℕ
coordinates r cs = take (3 * r.corners) cs

abbrev pub numbers : Made → List ℕ → List ℕ
numbers r ts = take (4 * r.triangles) ts

-- the triangles of a block's skin, by the numbers of their corners
abbrev pub numbered_of : List ℕ → List (Tri ℕ)
numbered_of bs = numbered (inside bs) (size_x bs - 1) (size_y bs - 1) (size_z bs - 1)

-- six times the volume of a region of the block, by how far along their edges its corners lie
abbrev pub inside_of : List ℕ → (Point → Bool) → (Corner → ℕ) → ℕ
inside_of bs g k = inside_sum g k (size_x bs - 1) (size_y bs - 1) (size_z bs - 1)

-- WHAT IS SAID OF A PART: it is the skin of a region that does not reach the border, seen from outside or, as a hole, from inside; with the
-- number of its triangles, and six times the volume of the region, which is above 0, or its negative for a hole
pub data PartIs (bs : List ℕ) (part : List Triangle) : Part → Type 0 where
  outer :
      (g : Point → Bool) → Border g (size_x bs - 1) (size_y bs - 1) (size_z bs - 1) →
      Outer part g (size_x bs - 1) (size_y bs - 1) (size_z bs - 1) → 0 < inside_of bs g (fraction_in bs) →
      PartIs bs part (kind.Outer (length part) (pos (inside_of bs g (fraction_in bs))))
  inner :
      (g : Point → Bool) → Border g (size_x bs - 1) (size_y bs - 1) (size_z bs - 1) →
      Inner part g (size_x bs - 1) (size_y bs - 1) (size_z bs - 1) → 0 < inside_of bs g (from_other_end (fraction_in bs)) →
      PartIs bs part (kind.Inner (length part) (neg_ℤ (pos (inside_of bs g (from_other_end (fraction_in bs))))))

-- REFUSED: the block, or a buffer that is too short, for a fixed reason, and all four buffers are as they were
pub record Refused
    (bs corners triangles work : List ℕ) (parts : List Part) (corners' triangles' work' : List ℕ) (parts' : List Part) (e : Refusal)
    : Type 0 where
  pub reason : verdict bs (length corners) (length triangles) (length work) ≡ Some e
  pub same_corners : corners' ≡ corners
  pub same_triangles : triangles' ≡ triangles
  pub same_work : work' ≡ work
  pub same_parts : parts' ≡ parts

-- FINISHED: the skin of the block is in the buffers, and is as promised
pub record Finished
    (bs corners triangles work : List ℕ) (parts : List Part) (corners' triangles' : List ℕ) (parts' : List Part) (r : Made) : Type 0 where
  -- it is the skin of the block: its corners, its triangles in their order, its parts; what the buffers hold behind them is as it was
  pub fits : verdict bs (length corners) (length triangles) (length work) ≡ None
  pub corner_count : r.corners ≡ length (corners_of bs)
  pub triangle_count : r.triangles ≡ length (skin_of bs)
  pub corners_placed : corners' ≡ filled (map (place (fraction_in bs)) (corners_of bs)) corners
  pub triangles_numbered : triangles_in (numbers r triangles') ≡ numbered_of bs
  pub triangles_beyond : drop (4 * r.triangles) triangles' ≡ drop (4 * r.triangles) triangles
  pub parts_numbered : Numbered same (skin_of bs) (parts_in (numbers r triangles')) r.parts
  pub parts_beyond : drop r.parts parts' ≡ drop r.parts parts
  -- and so it is closed: each side of a triangle is run once, and once the other way, and around each corner there is one ring
  pub each_side_once : EachSideOnce nat_eq (triangles_in (numbers r triangles'))
  pub three_corners : AllByRecursion (ThreeCorners nat_eq) (triangles_in (numbers r triangles'))
  pub one_ring : (c : ℕ) → c < r.corners → Ring nat_eq c (triangles_in (numbers r triangles'))
  -- it parts inside from outside, place by place
  pub crossed_once : (p q : Point) → Neighbours p q → CrossedByNumber (inside bs) (place_in corners') r.corners p q
  pub no_two_at_one_place : (m n : ℕ) → m < r.corners → n < r.corners → place_in corners' m ≡ place_in corners' n → m ≡ n
  -- it encloses what is inside, at least 0, and above 0 if a point is inside
  pub encloses : six_volume (place_in corners') (triangles_in (numbers r triangles')) ≡ pos (inside_of bs (inside bs) (fraction_in bs))
  pub above_zero : (p : Point) → inside bs p ≡ true → 0 < inside_of bs (inside bs) (fraction_in bs)
  -- each part that the buffer has room for is outer or inner, with its count and its volume
  pub each_part :
      (m : ℕ) (other : Part) → m < r.parts → m < length parts →
      PartIs bs (of_part m (skin_of bs) (parts_in (numbers r triangles'))) (slice_index_or parts' m other)
  -- and the bytes that are written of it are accepted by the checker
  pub accepted : Verdict (skin_bytes (coordinates r corners') (numbers r triangles') r.parts) None
