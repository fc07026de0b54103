-- The points of the grid, the points of one cube, and the six pieces that a cube is cut into. Assumes nothing: these are definitions.
use Rattle.std.specs.Prelude.{◌≡◌, ℕ, suc, ◌<◌, Bool, true, false, ◌&&◌, List, [], ◌∷◌, ◌==◌}

infixl 60 ◌⊕◌
-- a point of the grid, by its places along x, y and z
pub data Point : Type 0 where
  pt : ℕ → ℕ → ℕ → Point

unfoldable pub same_point : Point → Point → Bool
same_point (pt x y z) (pt u v w) = x == u && (y == v && z == w)

-- a point of a cube, by whether it lies one step beyond the cube's lowest point along x, along y, along z
pub data Offset : Type 0 where
  off : Bool → Bool → Bool → Offset

abbrev pub lowest : Offset
lowest = off false false false

abbrev pub +x : Offset
+x = off true false false

abbrev pub +y : Offset
+y = off false true false

abbrev pub +z : Offset
+z = off false false true

abbrev pub +xy : Offset
+xy = off true true false

abbrev pub +xz : Offset
+xz = off true false true

abbrev pub +yz : Offset
+yz = off false true true

abbrev pub highest : Offset
highest = off true true true

abbrev pub raised : Bool → ℕ → ℕ
raised false n = n
raised true n = suc n

-- the point of the cube whose lowest point is p
abbrev pub ◌⊕◌ : Point → Offset → Point
pt x y z ⊕ off a b c = pt (raised a x) (raised b y) (raised c z)

-- A piece (a tetrahedron of the Kuhn subdivision): the four points on a way from the cube's lowest point to its highest, one step along
-- each axis. They are named 0 to 3 along the way, or, where the flag is set, with 2 and 3 exchanged: each piece then has the determinant 1.
pub data Piece : Type 0 where
  way : Bool → Offset → Offset → Offset → Offset → Piece

-- the six orders of the axes: x y z, x z y, y x z, y z x, z x y, z y x
abbrev pub pieces : List Piece
pieces =
    way false lowest +x +xy highest
    ∷ way true lowest +x +xz highest
    ∷ way true lowest +y +xy highest
    ∷ way false lowest +y +yz highest
    ∷ way false lowest +z +xz highest
    ∷ way true lowest +z +yz highest
    ∷ []

-- strictly between the first and the last points of a grid of x by y by z cubes
abbrev pub Amid : ℕ → ℕ → ℕ → Point → Type 0
Amid x y z (pt u v w) = ((0 < u) × (u < x)) × ((0 < v) × (v < y)) × ((0 < w) × (w < z))

-- nothing on the border of the grid, or past it, is inside
abbrev pub Border : (Point → Bool) → ℕ → ℕ → ℕ → Type 0
Border f x y z = (p : Point) → f p ≡ true → Amid x y z p
