-- How much of a piece is inside: a table in whole numbers, and its sum over all pieces, which is what the skin encloses. Assumes nothing.
use Rattle.std.specs.Prelude.{◌≡◌, ℕ, ◌+◌, ◌-◌, ◌*◌, ◌<◌, Bool, true, false, pos}
use Rattle.theory.specs.Grid.{Point, pt, same_point, ◌⊕◌, Piece, way, pieces, Border}
use Rattle.theory.specs.Triangle.{Edge, edge, sum_of}
use Rattle.theory.specs.Skin.{Corner, skin}
use Rattle.theory.specs.Faces.{over_cubes}
use Rattle.theory.specs.Places.{place, InRange}
use Rattle.theory_volume.specs.Volume.{six_volume}

-- six times the volume of a whole piece
abbrev pub whole : ℕ
whole = 256 * (256 * 256)

-- what is left of an edge beyond a corner that lies k 256ths of the way along it; k is at most 256, so nothing is cut off here or below
abbrev pub rest : ℕ → ℕ
rest k = 256 - k

-- one point inside: the tetrahedron of that point and of the corners on its three edges, by how far these lie along them
abbrev pub one_inside : ℕ → ℕ → ℕ → ℕ
one_inside j k l = j * (k * l)

-- a and b inside, c and d outside, with ac for the corner from a to c: the tetrahedra (a, ac, ad, bd), (a, ac, bd, bc) and (a, b, bc, bd).
-- The corners' quadrilateral is cut from ac to bd, as the table of triangles cuts it.
abbrev pub two_inside : ℕ → ℕ → ℕ → ℕ → ℕ
two_inside ac ad bc bd = ac * (ad * rest bd) + (ac * (bd * rest bc) + 256 * (bc * bd))

-- three points inside: the piece without the tetrahedron of the fourth point and of the corners on its three edges
abbrev pub three_inside : ℕ → ℕ → ℕ → ℕ
three_inside j k l = whole - rest j * (rest k * rest l)

-- six times the volume of a piece's inside part, by who of its points 0 to 3 is inside; k says how far along their edges the corners lie
abbrev pub inside_part : {P : Type 0} → (Edge P → ℕ) → Bool → Bool → Bool → Bool → P → P → P → P → ℕ
inside_part k false false false false p0 p1 p2 p3 = 0
inside_part k true false false false p0 p1 p2 p3 = one_inside (k (edge p0 p1)) (k (edge p0 p2)) (k (edge p0 p3))
inside_part k false true false false p0 p1 p2 p3 = one_inside (k (edge p1 p0)) (k (edge p1 p3)) (k (edge p1 p2))
inside_part k false false true false p0 p1 p2 p3 = one_inside (k (edge p2 p0)) (k (edge p2 p1)) (k (edge p2 p3))
inside_part k false false false true p0 p1 p2 p3 = one_inside (k (edge p3 p0)) (k (edge p3 p2)) (k (edge p3 p1))
inside_part k true true false false p0 p1 p2 p3 = two_inside (k (edge p0 p2)) (k (edge p0 p3)) (k (edge p1 p2)) (k (edge p1 p3))
inside_part k true false true false p0 p1 p2 p3 = two_inside (k (edge p0 p1)) (k (edge p0 p3)) (k (edge p2 p1)) (k (edge p2 p3))
inside_part k false true true false p0 p1 p2 p3 = two_inside (k (edge p1 p0)) (k (edge p1 p3)) (k (edge p2 p0)) (k (edge p2 p3))
inside_part k true false false true p0 p1 p2 p3 = two_inside (k (edge p0 p1)) (k (edge p0 p2)) (k (edge p3 p1)) (k (edge p3 p2))
inside_part k false true false true p0 p1 p2 p3 = two_inside (k (edge p1 p0)) (k (edge p1 p2)) (k (edge p3 p0)) (k (edge p3 p2))
inside_part k false false true true p0 p1 p2 p3 = two_inside (k (edge p2 p0)) (k (edge p2 p1)) (k (edge p3 p0)) (k (edge p3 p1))
inside_part k true true true false p0 p1 p2 p3 = three_inside (k (edge p0 p3)) (k (edge p1 p3)) (k (edge p2 p3))
inside_part k true true false true p0 p1 p2 p3 = three_inside (k (edge p0 p2)) (k (edge p3 p2)) (k (edge p1 p2))
inside_part k true false true true p0 p1 p2 p3 = three_inside (k (edge p0 p1)) (k (edge p2 p1)) (k (edge p3 p1))
inside_part k false true true true p0 p1 p2 p3 = three_inside (k (edge p1 p0)) (k (edge p3 p0)) (k (edge p2 p0))
inside_part k true true true true p0 p1 p2 p3 = whole

-- the same by a test of who is inside
abbrev pub inside_by : {P : Type 0} → (Edge P → ℕ) → (P → Bool) → P → P → P → P → ℕ
inside_by k f p0 p1 p2 p3 = inside_part k (f p0) (f p1) (f p2) (f p3) p0 p1 p2 p3

-- the inside part of one piece of the cube whose lowest point is p
unfoldable pub inside_piece : (Point → Bool) → (Corner → ℕ) → Point → Piece → ℕ
inside_piece f k p (way false a b c d) = inside_by k f (p ⊕ a) (p ⊕ b) (p ⊕ c) (p ⊕ d)
inside_piece f k p (way true a b c d) = inside_by k f (p ⊕ a) (p ⊕ b) (p ⊕ d) (p ⊕ c)

-- six times the volume of all that is inside
unfoldable pub inside_sum : (Point → Bool) → (Corner → ℕ) → ℕ → ℕ → ℕ → ℕ
inside_sum f k x y z = over_cubes x y z (λ p. sum_of (inside_piece f k p) pieces)

-- THE SKIN ENCLOSES WHAT IS INSIDE: the triangles' determinants sum up to six times the volume of all the pieces' inside parts. It is the
-- sum of whole numbers, so it is at least 0.
abbrev pub Encloses : Type 0
Encloses =
    (f : Point → Bool) (x y z : ℕ) → Border f x y z → (k : Corner → ℕ) → InRange f k →
    six_volume (place k) (skin f x y z) ≡ pos (inside_sum f k x y z)

-- where a point is inside the skin encloses more than nothing
abbrev pub AboveZero : Type 0
AboveZero =
    (f : Point → Bool) (x y z : ℕ) → Border f x y z → (k : Corner → ℕ) → InRange f k →
    (p : Point) → f p ≡ true → 0 < inside_sum f k x y z

-- the point 1 1 1 alone inside, with its corners halfway along their edges: as much as three whole pieces
abbrev pub WorkedVolume : Type 0
WorkedVolume = six_volume (place (λ c. 128)) (skin (same_point (pt 1 1 1)) 2 2 2) ≡ pos 50331648
