-- Corners, triangles, their sides, and what stands around a corner. A triangle is stated over any sort of corner, with a test of
-- sameness: the skin's corners are edges of the grid, a file's are numbers. Assumes nothing: these are definitions.
use Rattle.std.specs.Prelude.{ℕ, ◌+◌, Bool, cond, ◌&&◌, ◌||◌, List, [], ◌∷◌}
use Rattle.std.specs.List.{flat_map}

-- an edge from a point inside to a point outside: a corner of the skin (a vertex of the mesh) lies on it
pub data Edge (P : Type 0) : Type 0 where
  edge : P → P → Edge P

-- a triangle by its corners, against the clock as seen from outside
pub data Tri (C : Type 0) : Type 0 where
  tri : C → C → C → Tri C

-- the sum of a weight over a list
abbrev pub sum_of : {A : Type 0} → (A → ℕ) → List A → ℕ
sum_of h [] = 0
sum_of h (x ∷ xs) = h x + sum_of h xs

-- 1 where a test passes: counts are sums of it
abbrev pub one_if : Bool → ℕ
one_if b = cond b 1 0

module _ {C : Type 0} (same : C → C → Bool) where
  -- how many of a triangle's three sides run from c to d (a side is a half-edge)
  unfoldable pub side : C → C → Tri C → ℕ
  side c d (tri a b e) =
      one_if (same a c && same b d) + (one_if (same b c && same e d) + one_if (same e c && same a d))

  -- how many triangles have the side from c to d
  abbrev pub sides : C → C → List (Tri C) → ℕ
  sides c d ts = sum_of (side c d) ts

  unfoldable pub has : C → Tri C → ℕ
  has c (tri a b e) = one_if (same a c || (same b c || same e c))

  -- how many triangles have the corner c
  abbrev pub with_corner : C → List (Tri C) → ℕ
  with_corner c ts = sum_of (has c) ts

  -- how often c stands in a list
  abbrev pub times : C → List C → ℕ
  times c cs = sum_of (λ d. one_if (same d c)) cs

  -- how often the step from d to e stands in a list of steps
  abbrev pub steps : C → C → List (C × C) → ℕ
  steps d e ss = sum_of (λ s. one_if (same s.0 d && same s.1 e)) ss

  -- a triangle that has c, read from c as (c, d, e): the step from d to e
  unfoldable pub read_from : C → Tri C → List (C × C)
  read_from c (tri a b e) =
      cond (same a c) ((b, e) ∷ []) (cond (same b c) ((e, a) ∷ []) (cond (same e c) ((a, b) ∷ []) []))

  -- the triangles that have c, read from c
  abbrev pub around : C → List (Tri C) → List (C × C)
  around c ts = flat_map (read_from c) ts

-- the steps of a walk from d through a list of corners to e
abbrev pub walk : {C : Type 0} → C → List C → C → List (C × C)
walk d [] e = (d, e) ∷ []
walk d (x ∷ xs) e = (d, x) ∷ walk x xs e

abbrev pub corners : {C : Type 0} → Tri C → List C
corners (tri a b e) = a ∷ b ∷ e ∷ []

-- the three sides of a triangle
abbrev pub sides_of : {C : Type 0} → Tri C → List (C × C)
sides_of (tri a b e) = (a, b) ∷ (b, e) ∷ (e, a) ∷ []

module _ {C : Type 0} (same : C → C → Bool) where
  abbrev pub without : C → List C → List C
  without c [] = []
  without c (d ∷ ds) = cond (same d c) (without c ds) (d ∷ without c ds)

  -- each corner once, where it is met first
  abbrev pub firsts : List C → List C
  firsts [] = []
  firsts (c ∷ cs) = c ∷ without c (firsts cs)
