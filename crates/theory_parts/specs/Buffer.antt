-- A buffer of triangles, four numbers to each: the numbers of its three corners, and the number of its part. Assumes nothing.
use Rattle.std.specs.Prelude.{ℕ, ◌+◌, ◌*◌, ◌/◌, List, map, length, slice_index}
use Rattle.std.specs.List.{range_with_len}
use Rattle.theory.specs.Triangle.{Tri, tri}

-- the triangle at a place
abbrev pub triangle_at : List ℕ → ℕ → Tri ℕ
triangle_at ns i = tri (slice_index ns (4 * i)) (slice_index ns (4 * i + 1)) (slice_index ns (4 * i + 2))

-- the number of its part
abbrev pub part_at : List ℕ → ℕ → ℕ
part_at ns i = slice_index ns (4 * i + 3)

-- the first n of them
abbrev pub first_triangles : List ℕ → ℕ → List (Tri ℕ)
first_triangles ns n = map (triangle_at ns) (range_with_len 0 n)

abbrev pub first_parts : List ℕ → ℕ → List ℕ
first_parts ns n = map (part_at ns) (range_with_len 0 n)

-- all of them
abbrev pub count_in : List ℕ → ℕ
count_in ns = length ns / 4

abbrev pub triangles_in : List ℕ → List (Tri ℕ)
triangles_in ns = first_triangles ns (count_in ns)

abbrev pub parts_in : List ℕ → List ℕ
parts_in ns = first_parts ns (count_in ns)
