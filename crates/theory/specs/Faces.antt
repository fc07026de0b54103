-- The faces of pieces: how pieces and cubes meet in them, which side of the skin runs in one, and the law by which sums over them cancel.
-- Each statement is a type; a public function's contract names it, so its proof is owed. Assumes nothing.
use Rattle.std.specs.Prelude.{◌≡◌, ℕ, zero, suc, ◌+◌, Bool, true, false, cond, ◌&&◌, ◌||◌, List, [], ◌∷◌, ◌++◌, map, ℤ, pos, ◌+ℤ◌, ◌-ℤ◌, ◌*ℤ◌}
use Rattle.std.specs.Bool.{beq}
use Rattle.std.specs.List.{flat_map, filter, AllByRecursion}
use Rattle.theory.specs.Grid.{Point, pt, Offset, off, +x, +y, +z, ◌⊕◌, Piece, way, pieces, Border}
use Rattle.theory.specs.Triangle.{Edge, edge, Tri, tri, sum_of, one_if, sides_of}
use Rattle.theory.specs.Skin.{cut, cut_by}

-- three points of a piece; their order runs against the clock as seen from outside the piece, or with it
pub data Face (P : Type 0) : Type 0 where
  face : P → P → P → Face P

-- the four faces of a piece by its points 0 to 3, each against the clock
abbrev pub faces : {P : Type 0} → P → P → P → P → List (Face P)
faces p0 p1 p2 p3 = face p1 p2 p3 ∷ face p0 p3 p2 ∷ face p0 p1 p3 ∷ face p0 p2 p1 ∷ []

abbrev pub faces_of : Piece → List (Face Offset)
faces_of (way false a b c d) = faces a b c d
faces_of (way true a b c d) = faces a b d c

-- the same face, run the other way
abbrev pub turn : {P : Type 0} → Face P → Face P
turn (face p q r) = face p r q

abbrev pub same_offset : Offset → Offset → Bool
same_offset (off a b c) (off d e g) = beq a d && (beq b e && beq c g)

-- the same three points, run the same way
abbrev pub same_run : Face Offset → Face Offset → Bool
same_run (face a b c) (face p q r) =
    (same_offset a p && (same_offset b q && same_offset c r))
    || ((same_offset a q && (same_offset b r && same_offset c p)) || (same_offset a r && (same_offset b p && same_offset c q)))

-- how many faces of a list are the given one, run the given way
abbrev pub runs : Face Offset → List (Face Offset) → ℕ
runs t ts = sum_of (λ u. one_if (same_run t u)) ts

pub data Axis : Type 0 where
  x_axis y_axis z_axis : Axis

abbrev pub step : Axis → Offset
step x_axis = +x
step y_axis = +y
step z_axis = +z

abbrev pub along : Axis → Offset → Bool
along x_axis (off a b c) = a
along y_axis (off a b c) = b
along z_axis (off a b c) = c

-- the face lies in the lower (false) or the upper (true) square of the cube across an axis
abbrev pub in_square : Axis → Bool → Face Offset → Bool
in_square d b (face p q r) = beq b (along d p) && (beq b (along d q) && beq b (along d r))

abbrev pub in_some_square : Face Offset → Bool
in_some_square t =
    (in_square x_axis false t || in_square x_axis true t)
    || ((in_square y_axis false t || in_square y_axis true t) || (in_square z_axis false t || in_square z_axis true t))

abbrev pub all_faces : List (Face Offset)
all_faces = flat_map faces_of pieces

-- PIECES MEET IN COMMON FACES: each face of a piece is a face of no other piece run the same way, and of exactly one other run the other
-- way, or of none if it lies in a square of the cube
abbrev pub PiecesMeet : Type 0
PiecesMeet = AllByRecursion (λ t. (runs t all_faces ≡ 1) × (runs (turn t) all_faces ≡ cond (in_some_square t) 0 1)) all_faces

abbrev pub carried : Point → Face Offset → Face Point
carried p (face a b c) = face (p ⊕ a) (p ⊕ b) (p ⊕ c)

-- TWO NEIGHBOURING CUBES CUT THEIR COMMON SQUARE ALIKE: the faces in the lower square of the next cube along an axis are those in the
-- upper square of this one, each run the other way
abbrev pub CubesMeet : Type 0
CubesMeet =
    (d : Axis) (p : Point) →
    map (carried (p ⊕ step d)) (filter (in_square d false) all_faces) ≡ map turn (map (carried p) (filter (in_square d true) all_faces))

abbrev pub ahead : Bool → Bool → ℤ
ahead b a = pos (one_if b) -ℤ pos (one_if a)

-- the determinant of the rows 1 − 0, 2 − 0, 3 − 0
abbrev pub determinant : Offset → Offset → Offset → Offset → ℤ
determinant (off a b c) (off a1 b1 c1) (off a2 b2 c2) (off a3 b3 c3) =
    ((ahead a1 a *ℤ ((ahead b2 b *ℤ ahead c3 c) -ℤ (ahead c2 c *ℤ ahead b3 b)))
    -ℤ (ahead b1 b *ℤ ((ahead a2 a *ℤ ahead c3 c) -ℤ (ahead c2 c *ℤ ahead a3 a))))
    +ℤ (ahead c1 c *ℤ ((ahead a2 a *ℤ ahead b3 b) -ℤ (ahead b2 b *ℤ ahead a3 a)))

abbrev pub TurnedRight : Piece → Type 0
TurnedRight (way false a b c d) = determinant a b c d ≡ pos 1
TurnedRight (way true a b c d) = determinant a b d c ≡ pos 1

-- each piece's points 0 to 3 stand as the origin and one step along each axis do
abbrev pub PiecesTurned : Type 0
PiecesTurned = AllByRecursion TurnedRight pieces

-- the side that the skin has in a face, by the face's three points and who of them is inside
abbrev pub seam : {P : Type 0} → Bool → Bool → Bool → P → P → P → List (Edge P × Edge P)
seam false false false p q r = []
seam true false false p q r = (edge p r, edge p q) ∷ []
seam false true false p q r = (edge q p, edge q r) ∷ []
seam false false true p q r = (edge r q, edge r p) ∷ []
seam false true true p q r = (edge q p, edge r p) ∷ []
seam true false true p q r = (edge r q, edge p q) ∷ []
seam true true false p q r = (edge p r, edge q r) ∷ []
seam true true true p q r = []

abbrev pub seam_in : {P : Type 0} → (P → Bool) → Face P → List (Edge P × Edge P)
seam_in f (face p q r) = seam (f p) (f q) (f r) p q r

-- the four points of a piece, by their names
pub data Name : Type 0 where
  n0 n1 n2 n3 : Name

abbrev pub same_name : Name → Name → Bool
same_name n0 n0 = true
same_name n0 n1 = false
same_name n0 n2 = false
same_name n0 n3 = false
same_name n1 n0 = false
same_name n1 n1 = true
same_name n1 n2 = false
same_name n1 n3 = false
same_name n2 n0 = false
same_name n2 n1 = false
same_name n2 n2 = true
same_name n2 n3 = false
same_name n3 n0 = false
same_name n3 n1 = false
same_name n3 n2 = false
same_name n3 n3 = true

abbrev pub of_face : Face Name → Name → Bool
of_face (face p q r) n = same_name n p || (same_name n q || same_name n r)

abbrev pub on_edge_of : Face Name → Edge Name → Bool
on_edge_of t (edge p q) = of_face t p && of_face t q

-- both corners of a side lie on edges of the face
abbrev pub side_in : Face Name → Edge Name × Edge Name → Bool
side_in t s = on_edge_of t s.0 && on_edge_of t s.1

abbrev pub reversed : {C : Type 0} → C × C → C × C
reversed s = (s.1, s.0)

abbrev pub renamed : {P Q : Type 0} → (P → Q) → Tri (Edge P) → Tri (Edge Q)
renamed g (tri (edge a b) (edge c d) (edge e h)) = tri (edge (g a) (g b)) (edge (g c) (g d)) (edge (g e) (g h))

-- FACES DECIDE: whatever points a piece has, it is cut as its four names are; the sides that its triangles have in one of its faces are
-- those of `seam`, which knows the three points of the face and who of them is inside, and no more; a face that is run the other way
-- has the side the other way
pub record FacesDecide : Type 0 where
  pub by_name :
      (f : Name → Bool) (g : Name → Point) →
      cut (f n0) (f n1) (f n2) (f n3) (g n0) (g n1) (g n2) (g n3) ≡ map (renamed g) (cut_by f n0 n1 n2 n3)
  pub by_face :
      (f : Name → Bool) →
      AllByRecursion (λ t. filter (side_in t) (flat_map sides_of (cut_by f n0 n1 n2 n3)) ≡ seam_in f t) (faces n0 n1 n2 n3)
  pub turned : (f : Point → Bool) (t : Face Point) → seam_in f (turn t) ≡ map reversed (seam_in f t)

-- The faces of a piece with their points in the order of the way: both pieces at a face then write it alike, and only the sign differs.
-- These run against the clock as seen from outside the piece …
abbrev pub against : Piece → List (Face Offset)
against (way false a b c d) = face b c d ∷ face a b d ∷ []
against (way true a b c d) = face a c d ∷ face a b c ∷ []

-- … and these with it
abbrev pub with_clock : Piece → List (Face Offset)
with_clock (way false a b c d) = face a c d ∷ face a b c ∷ []
with_clock (way true a b c d) = face b c d ∷ face a b d ∷ []

abbrev pub sum_below : ℕ → (ℕ → ℕ) → ℕ
sum_below zero h = 0
sum_below (suc n) h = sum_below n h + h n

-- the sum over all cubes, by their lowest points
abbrev pub over_cubes : ℕ → ℕ → ℕ → (Point → ℕ) → ℕ
over_cubes x y z h = sum_below z (λ k. sum_below y (λ j. sum_below x (λ i. h (pt i j k))))

-- the sum over some faces of all pieces of the cube whose lowest point is p
abbrev pub over_faces : (Face Point → ℕ) → (Piece → List (Face Offset)) → Point → ℕ
over_faces g some p = sum_of (λ t. g (carried p t)) (flat_map some pieces)

-- THE FACE LAW: whatever number g a face has, if it is 0 for faces with no point inside, the faces that run against the clock and those
-- that run with it have the same sum over all pieces of the grid
abbrev pub FaceLaw : Type 0
FaceLaw =
    (f : Point → Bool) (x y z : ℕ) → Border f x y z →
    (g : Face Point → ℕ) → ((p q r : Point) → f p ≡ false → f q ≡ false → f r ≡ false → g (face p q r) ≡ 0) →
    over_cubes x y z (over_faces g against) ≡ over_cubes x y z (over_faces g with_clock)

-- the faces of that law are the pieces' faces, and each of those is one of them
pub record FacesSigned : Type 0 where
  pub listed : AllByRecursion (λ w. AllByRecursion (λ t. runs t (faces_of w) ≡ 1) (against w ++ map turn (with_clock w))) pieces
  pub all_listed : AllByRecursion (λ w. AllByRecursion (λ t. runs t (against w ++ map turn (with_clock w)) ≡ 1) (faces_of w)) pieces
