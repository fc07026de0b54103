-- The pieces and the table of triangles by numbers. Assumes nothing.
use Rattle.std.specs.Prelude.{◌≡◌, ℕ, ◌+◌, ◌*◌, ◌/◌, ◌%◌, ◌^◌, Bool, true, false, List, [], ◌∷◌, map, Some, ◌==◌, slice_index, slice_index_or}
use Rattle.std.specs.List.{slice_get, AllByRecursion}
use Rattle.theory.specs.Grid.{Point, Offset, off, ◌⊕◌, Piece, way, pieces}
use Rattle.theory.specs.Triangle.{Edge, edge, Tri, tri, one_if, corners}
use Rattle.theory.specs.Skin.{cut_by, in_piece}
use Rattle.theory.specs.Faces.{renamed}
use Rattle.piece.specs.declared.Pair.{Pair}

-- a point of a cube as a number: bit 0 is one step along x, bit 1 along y, bit 2 along z
abbrev pub offset_number : Offset → ℕ
offset_number (off a b c) = one_if a + (2 * one_if b + 4 * one_if c)

-- the points of a piece by their names 0 to 3, so with the last two exchanged where the flag is set
abbrev pub named : Piece → List Offset
named (way false a b c d) = a ∷ b ∷ c ∷ d ∷ []
named (way true a b c d) = a ∷ b ∷ d ∷ c ∷ []

-- the points of the six pieces by name, as numbers
abbrev pub numbered_pieces : List (List ℕ)
numbered_pieces = map (λ w. map offset_number (named w)) pieces

-- the point of a name in a piece; both are counted round
abbrev pub point_of : ℕ → ℕ → ℕ
point_of w n = slice_index (slice_index_or numbered_pieces (w % 6) []) (n % 4)

-- a case has four bits, one for each name: it is set where the point of that name is inside
abbrev pub bit : ℕ → ℕ → Bool
bit n i = n / 2 ^ i % 2 == 1

-- the triangles of a piece in a case, by names
abbrev pub triangles_in : ℕ → List (Tri (Edge ℕ))
triangles_in n = cut_by (bit n) 0 1 2 3

-- what stands where a piece has no triangle
abbrev pub unused : Edge ℕ
unused = edge 0 0

abbrev pub no_triangle : Tri (Edge ℕ)
no_triangle = tri unused unused unused

-- a pair of names as a corner
abbrev pub as_edge : Pair → Edge ℕ
as_edge p = edge p.inside p.outside

-- a corner by its two names, and a triangle by its three corners
abbrev pub names_of : Edge ℕ → ℕ × ℕ
names_of (edge p q) = (p, q)

abbrev pub corners_of : Tri (Edge ℕ) → List (ℕ × ℕ)
corners_of t = map names_of (corners t)

-- a corner of a triangle in a list
abbrev pub corner_in : List (Tri (Edge ℕ)) → ℕ → ℕ → Edge ℕ
corner_in ts k i = slice_index_or (corners (slice_index_or ts k no_triangle)) i unused

-- a corner of a triangle in a case; triangles are counted round, and so are corners
abbrev pub corner_of : ℕ → ℕ → ℕ → Edge ℕ
corner_of n k i = corner_in (triangles_in n) (k % 2) (i % 3)

-- the point of a cube that has a number
abbrev pub offset_at : ℕ → Offset
offset_at n = off (bit n 0) (bit n 1) (bit n 2)

-- the point of a name in a piece of the cube whose lowest point is p
abbrev pub corner_point : Point → ℕ → ℕ → Point
corner_point p w i = p ⊕ offset_at (point_of w i)

-- THE TABLE CUTS EACH PIECE: where the bits of a case say which points of a piece are inside, the triangles of the case, with points for
-- names, are those of the piece
abbrev pub CutByTable : Type 0
CutByTable =
    (f : Point → Bool) (p : Point) (w n : ℕ) (piece : Piece) → slice_get pieces w ≡ Some piece →
    AllByRecursion (λ i. bit n i ≡ f (corner_point p w i)) (0 ∷ 1 ∷ 2 ∷ 3 ∷ []) →
    in_piece f p piece ≡ map (renamed (corner_point p w)) (triangles_in n)
