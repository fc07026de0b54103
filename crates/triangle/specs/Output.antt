-- What the buffers hold while a skin is written: the corners met so far, the triangles made so far, and in `work` the numbers of the
-- corners that a later cube may meet again. Assumes nothing: these are definitions.
use Rattle.std.specs.Prelude.{◌≡◌, ℕ, ◌+◌, ◌-◌, ◌*◌, ◌%◌, ◌^◌, ◌<◌, ◌≤◌, true, false, cond, not, List, [], ◌∷◌, ◌++◌, map, length, take, drop, bit_and, nat_le, nat_lt, slice_index, slice_set}
use denote.Ref.{at_last}
use Rattle.std.specs.List.{flat_map}
use Rattle.theory.specs.Grid.{highest, ◌⊕◌}
use Rattle.theory.specs.Triangle.{edge, Tri, tri, times}
use Rattle.theory.specs.Skin.{Corner, same}
use Rattle.theory.specs.Closed.{Neighbours}
use Rattle.theory.specs.Places.{Place, place}
use Rattle.theory_numbers.specs.Numbers.{mapped, index_of}
use Rattle.theory_numbers.specs.Order.{upper}
use Rattle.block.specs.Scan.{size_x, size_y, size_z, inside}
use Rattle.grid.specs.Numbers.{number_of}
use Rattle.piece.specs.Table.{bit}
use Rattle.corner.specs.Fraction.{fraction_in}
use Rattle.corner.specs.Buffer.{put_corner, filled}
use Rattle.triangle.specs.Slots.{step_of, slot}
use Rattle.triangle.specs.Cubes.{lowest_of, point_in, on_points, OfBlock}
use Rattle.triangle.specs.Cases.{new_edge}
use Rattle.triangle.specs.declared.cube.Cube.{Cube}
use Rattle.triangle.specs.declared.write.Out.{Out}

-- a triangle's four numbers: its corners', and 0 for its part
abbrev pub quad : Tri ℕ → List ℕ
quad (tri a b c) = a ∷ b ∷ c ∷ 0 ∷ []

-- a buffer whose first triangles are these, and the rest of which is as in old
abbrev pub filled_triangles : List (Tri ℕ) → List ℕ → List ℕ
filled_triangles ts old = flat_map quad ts ++ drop (4 * length ts) old

-- triangle n's four numbers, if the buffer has room for them
abbrev pub put_triangle : List ℕ → ℕ → Tri ℕ → List ℕ
put_triangle xs n t = cond (nat_le (4 * n + 4) (length xs)) (take (4 * n) xs ++ (quad t ++ drop (4 * n + 4) xs)) xs

-- one triangle more
abbrev pub with_triangle : Out → Tri ℕ → Out
with_triangle o t =
    record {
      corners = o.corners;
      triangles = at_last o.triangles (put_triangle o.triangles.now o.made t);
      work = o.work;
      numbers = o.numbers;
      met = o.met;
      made = (o.made + 1) % 2 ^ 32;
    }

-- one corner more, of which nothing is kept
abbrev pub with_place : Out → Place → Out
with_place o s =
    record {
      corners = at_last o.corners (cond (nat_le (3 * o.met + 3) (length o.corners.now)) (put_corner o.corners.now o.met s) o.corners.now);
      triangles = o.triangles;
      work = o.work;
      numbers = o.numbers;
      met = (o.met + 1) % 2 ^ 32;
      made = o.made;
    }

-- a number kept in `work`, unless the edge is a long diagonal
abbrev pub with_number : List ℕ → Corner → Out → ℕ → Out
with_number bs c o n =
    record {
      corners = o.corners;
      triangles = o.triangles;
      work = at_last o.work (cond (nat_lt (step_of c) 7) (slice_set o.work.now (slot bs c) n) o.work.now);
      numbers = o.numbers;
      met = o.met;
      made = o.made;
    }

-- a corner that is met for the first time
abbrev pub with_corner_met : List ℕ → Out → Corner → Out
with_corner_met bs o c = with_number bs c (with_place o (place (fraction_in bs) c)) o.met

-- the corner on the edge that leads by a step to the highest point of a cube
abbrev pub new_corner : Cube → ℕ → Corner
new_corner k s = on_points (point_in k) (new_edge k.bits s)

-- the numbers of a cube's corners by their codes exchanged
abbrev pub with_numbers : Out → List ℕ → Out
with_numbers o ns =
    record { corners = o.corners; triangles = o.triangles; work = o.work; numbers = ns; met = o.met; made = o.made }

-- the number of the next corner noted by a code
abbrev pub noted : Out → ℕ → Out
noted o c = with_numbers o (slice_set o.numbers c o.met)

-- such corners are met one after the other, and their numbers noted by their codes
abbrev pub met_by : List ℕ → Cube → List ℕ → Out → Out
met_by bs k [] o = o
met_by bs k (s ∷ ss) o = met_by bs k ss (with_corner_met bs (noted o (56 + s)) (new_corner k s))

-- a step to the highest point of a cube on whose edge a corner is first met: its other end is outside where that point is inside, and inside
-- where it is not
pub record NewIn (bs : List ℕ) (k : Cube) (s : ℕ) : Type 0 where
  pub cube : OfBlock bs k
  pub above : 0 < s
  pub below : s < 8
  pub parted : bit k.bits (7 - s) ≡ not (bit k.bits 7)
  pub upper : upper (new_corner k s) ≡ lowest_of k ⊕ highest
  pub step : step_of (new_corner k s) ≡ s

-- some triangles more
abbrev pub with_triangles : Out → List (Tri ℕ) → Out
with_triangles o [] = o
with_triangles o (t ∷ ts) = with_triangles (with_triangle o t) ts

-- a triangle by numbers, from one by codes
abbrev pub numbered_by : List ℕ → Tri ℕ → Tri ℕ
numbered_by ns = mapped (λ c. slice_index ns c)

-- where `work` has room for a block, these are the numbers that it keeps for the edges of a cube that end below its highest point: a step
-- leads to a point of a cube along no axis that the point itself is not up along
abbrev pub KnownIn : List ℕ → Cube → List ℕ → List ℕ → Type 0
KnownIn bs k work ns =
    6 * (size_x bs * (size_y bs * size_z bs)) ≤ length work → (u s : ℕ) → 0 < u → u < 7 → 0 < s → s < 7 → bit_and u s ≡ s →
    slice_index ns (8 * u + s) ≡ slice_index work (6 * number_of (size_x bs) (size_y bs) (point_in k u) + (s - 1))

-- an edge of the grid from a point inside to a point outside
abbrev pub Crossing : List ℕ → Corner → Type 0
Crossing bs (edge p q) = Neighbours p q × (inside bs p ≡ true) × (inside bs q ≡ false)

-- With `old` as the buffers before anything was written: these corners and triangles are written, one after the other, and nothing else;
-- they are the caller's own buffers; and the number of each corner stands at its slot.
pub record Holds (bs : List ℕ) (old o : Out) (met : List Corner) (ts : List (Tri ℕ)) : Type 0 where
  pub corner_count : o.met ≡ length met
  pub triangle_count : o.made ≡ length ts
  pub corners : o.corners.now ≡ filled (map (place (fraction_in bs)) met) old.corners.now
  pub triangles : o.triangles.now ≡ filled_triangles ts old.triangles.now
  pub own_corners : o.corners.ghost_name ≡ old.corners.ghost_name
  pub own_triangles : o.triangles.ghost_name ≡ old.triangles.ghost_name
  pub own_work : o.work.ghost_name ≡ old.work.ghost_name
  pub room : 6 * (size_x bs * (size_y bs * size_z bs)) ≤ length o.work.now
  pub crossing : (c : Corner) → 0 < times same c met → Crossing bs c
  pub kept : (c : Corner) → 0 < times same c met → step_of c < 7 → slice_index o.work.now (slot bs c) ≡ index_of same c met

-- a buffer that has room for so many corners, whose numbers are of 32 bits
abbrev pub RoomForCorners : Out → List Corner → Type 0
RoomForCorners old met = (3 * length met ≤ length old.corners.now) × (length met < 2 ^ 32)
