-- The skin between the points that are inside and those that are not: the table of triangles for one piece, then the pieces of a cube,
-- then the cubes in the order of their lowest points. Assumes nothing: these are definitions.
use Rattle.std.specs.Prelude.{ℕ, zero, suc, Bool, true, false, ◌&&◌, List, [], ◌∷◌, ◌++◌}
use Rattle.std.specs.List.{flat_map}
use Rattle.theory.specs.Grid.{Point, pt, same_point, Piece, way, pieces, ◌⊕◌}
use Rattle.theory.specs.Triangle.{Edge, edge, Tri, tri}

abbrev pub Corner : Type 0
Corner = Edge Point

abbrev pub Triangle : Type 0
Triangle = Tri Corner

unfoldable pub same : Corner → Corner → Bool
same (edge p q) (edge r s) = same_point p r && same_point q s

-- The table: the triangles in a piece, whose four points stand as the origin and one step along each axis do. The first four say who is
-- inside. It is stated over any sort of point, so that it is one table for points, offsets and names.
abbrev pub cut : {P : Type 0} → Bool → Bool → Bool → Bool → P → P → P → P → List (Tri (Edge P))
cut false false false false p0 p1 p2 p3 = []
cut true false false false p0 p1 p2 p3 = tri (edge p0 p1) (edge p0 p2) (edge p0 p3) ∷ []
cut false true false false p0 p1 p2 p3 = tri (edge p1 p0) (edge p1 p3) (edge p1 p2) ∷ []
cut false false true false p0 p1 p2 p3 = tri (edge p2 p0) (edge p2 p1) (edge p2 p3) ∷ []
cut false false false true p0 p1 p2 p3 = tri (edge p3 p0) (edge p3 p2) (edge p3 p1) ∷ []
cut true true false false p0 p1 p2 p3 = tri (edge p0 p2) (edge p0 p3) (edge p1 p3) ∷ tri (edge p0 p2) (edge p1 p3) (edge p1 p2) ∷ []
cut true false true false p0 p1 p2 p3 = tri (edge p0 p1) (edge p2 p3) (edge p0 p3) ∷ tri (edge p0 p1) (edge p2 p1) (edge p2 p3) ∷ []
cut false true true false p0 p1 p2 p3 = tri (edge p1 p0) (edge p1 p3) (edge p2 p3) ∷ tri (edge p1 p0) (edge p2 p3) (edge p2 p0) ∷ []
cut true false false true p0 p1 p2 p3 = tri (edge p0 p1) (edge p0 p2) (edge p3 p2) ∷ tri (edge p0 p1) (edge p3 p2) (edge p3 p1) ∷ []
cut false true false true p0 p1 p2 p3 = tri (edge p1 p0) (edge p3 p2) (edge p1 p2) ∷ tri (edge p1 p0) (edge p3 p0) (edge p3 p2) ∷ []
cut false false true true p0 p1 p2 p3 = tri (edge p2 p0) (edge p2 p1) (edge p3 p1) ∷ tri (edge p2 p0) (edge p3 p1) (edge p3 p0) ∷ []
cut true true true false p0 p1 p2 p3 = tri (edge p0 p3) (edge p1 p3) (edge p2 p3) ∷ []
cut true true false true p0 p1 p2 p3 = tri (edge p0 p2) (edge p3 p2) (edge p1 p2) ∷ []
cut true false true true p0 p1 p2 p3 = tri (edge p0 p1) (edge p2 p1) (edge p3 p1) ∷ []
cut false true true true p0 p1 p2 p3 = tri (edge p1 p0) (edge p3 p0) (edge p2 p0) ∷ []
cut true true true true p0 p1 p2 p3 = []

-- the table at four points, by a test of who is inside
abbrev pub cut_by : {P : Type 0} → (P → Bool) → P → P → P → P → List (Tri (Edge P))
cut_by f p0 p1 p2 p3 = cut (f p0) (f p1) (f p2) (f p3) p0 p1 p2 p3

-- the triangles in one piece of the cube whose lowest point is p
unfoldable pub in_piece : (Point → Bool) → Point → Piece → List Triangle
in_piece f p (way false a b c d) = cut_by f (p ⊕ a) (p ⊕ b) (p ⊕ c) (p ⊕ d)
in_piece f p (way true a b c d) = cut_by f (p ⊕ a) (p ⊕ b) (p ⊕ d) (p ⊕ c)

unfoldable pub cube : (Point → Bool) → Point → List Triangle
cube f p = flat_map (in_piece f p) pieces

-- the lists at 0, 1, … below n, one after the other
abbrev pub below : {A : Type 0} → ℕ → (ℕ → List A) → List A
below zero h = []
below (suc n) h = below n h ++ h n

-- the whole skin, of x by y by z cubes: x goes fastest, then y, then z
unfoldable pub skin : (Point → Bool) → ℕ → ℕ → ℕ → List Triangle
skin f x y z = below z (λ k. below y (λ j. below x (λ i. cube f (pt i j k))))
