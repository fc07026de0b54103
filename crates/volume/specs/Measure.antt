-- What is measured of each part of a skin, and which skins can be measured. Assumes nothing.
use Rattle.std.specs.Prelude.{ℕ, zero, suc, ◌+◌, ◌*◌, ◌%◌, ◌^◌, ◌≤◌, Bool, true, cond, ◌&&◌, List, map, length, ℤ, pos, ◌==◌, int_lt, nat_le, nat_lt, slice_index, unsigned_abs}
use Rattle.std.specs.List.{range_with_len}
use Rattle.theory_parts.specs.Regions.{of_part}
use Rattle.theory_volume.specs.Volume.{determinant, six_volume}
use Rattle.theory_volume.specs.Sizes.{most_coordinate, most_triangles}
use Rattle.volume.specs.declared.Part.{Part}
use Rattle.volume.specs.declared.Part.TheVariants.{Outer, Inner}
use Rattle.theory_parts.specs.Buffer.{part_at, first_triangles, first_parts, count_in}
use Rattle.volume.specs.Buffer.{place_in, corner_count}

-- a part of n triangles whose determinants sum up to v: it is seen from outside exactly if v is above 0
abbrev pub part_of : ℕ → ℤ → Part
part_of n v = cond (int_lt (pos 0) v) (Outer n v) (Inner n v)

abbrev pub count_of : Part → ℕ
count_of (Outer n v) = n
count_of (Inner n v) = n

abbrev pub volume_of : Part → ℤ
volume_of (Outer n v) = v
volume_of (Inner n v) = v

-- the part p of the first n triangles
unfoldable pub measured : List ℕ → List ℕ → ℕ → ℕ → Part
measured cs ts n p =
    let part = of_part p (first_triangles ts n) (first_parts ts n) in
    part_of (length part) (six_volume (place_in cs) part)

-- the parts 0, 1, … below m of the first n triangles
abbrev pub all_measured : List ℕ → List ℕ → ℕ → ℕ → List Part
all_measured cs ts n m = map (measured cs ts n) (range_with_len 0 m)

-- what is written of a skin in m parts
abbrev pub parts_of : List ℕ → List ℕ → ℕ → List Part
parts_of cs ts m = all_measured cs ts (count_in ts) m

-- a test passes at 0, 1, … below n
abbrev pub each_below : ℕ → (ℕ → Bool) → Bool
each_below zero t = true
each_below (suc n) t = each_below n t && t n

-- whole corners, whole triangles, and no more of these than a skin can have
abbrev pub whole : List ℕ → List ℕ → Bool
whole cs ts = length cs % 3 == 0 && (length ts % 4 == 0 && nat_le (count_in ts) most_triangles)

-- the coordinate at a place of the buffer is no larger than one of a skin
abbrev pub low : List ℕ → ℕ → Bool
low cs i = nat_le (slice_index cs i) most_coordinate

abbrev pub determinant_at : List ℕ → List ℕ → ℕ → ℤ
determinant_at cs ts i =
    determinant (place_in cs (slice_index ts (4 * i))) (place_in cs (slice_index ts (4 * i + 1))) (place_in cs (slice_index ts (4 * i + 2)))

-- the triangle's corners have numbers that are in use
abbrev pub cornered : List ℕ → List ℕ → ℕ → Bool
cornered cs ts i =
    nat_lt (slice_index ts (4 * i)) (corner_count cs)
    && (nat_lt (slice_index ts (4 * i + 1)) (corner_count cs) && nat_lt (slice_index ts (4 * i + 2)) (corner_count cs))

-- the triangle's corners are there, its part is one of m, and its determinant is no larger than one of a skin, whose triangles lie each in
-- one cube
abbrev pub fine : List ℕ → List ℕ → ℕ → ℕ → Bool
fine cs ts m i = cornered cs ts i && (nat_lt (part_at ts i) m && nat_le (unsigned_abs (determinant_at cs ts i)) (2 ^ 34))

-- WHAT CAN BE MEASURED, in m parts. There are at most 12 · 95³ triangles, each with a determinant of at most 2 ^ 34 in size, so that the sums
-- stay below 2 ^ 58.
unfoldable pub measurable : List ℕ → List ℕ → ℕ → Bool
measurable cs ts m = whole cs ts && (each_below (length cs) (low cs) && each_below (count_in ts) (fine cs ts m))

-- no coordinate is too large
abbrev pub Low : List ℕ → Type 0
Low cs = (i : ℕ) → slice_index cs i ≤ most_coordinate
