-- The region of a part: a part of a skin is itself the skin of a region, seen from outside or from inside. Each statement is a type; a
-- public function's contract names it, so its proof is owed. Assumes nothing.
use Rattle.std.specs.Prelude.{◌≡◌, ℕ, ◌<◌, Bool, true, false, cond, not, ◌⊎◌, ◌↔◌, List, [], ◌∷◌, ◌==◌}
use Rattle.std.specs.List.{filter, AllByRecursion}
use Rattle.theory.specs.Grid.{Point, Border}
use Rattle.theory.specs.Triangle.{Edge, edge, Tri, tri, sum_of, with_corner}
use Rattle.theory.specs.Skin.{Corner, Triangle, same, skin}
use Rattle.theory.specs.Closed.{Neighbours}
use Rattle.theory_parts.specs.Parts.{Stands, Joined, Numbered}

-- a test of corners has one value at the three corners of a triangle
abbrev pub Agree : {C : Type 0} → (C → Bool) → Tri C → Type 0
Agree S (tri a b e) = (S a ≡ S b) × (S b ≡ S e)

-- its value at the first of them
abbrev pub on : {C : Type 0} → (C → Bool) → Tri C → Bool
on S (tri a b e) = S a

-- S tells the corners of one part from all others: it agrees on each triangle, passes at some triangle, and each triangle at which it
-- passes is joined to that one
pub record OnePart (S : Corner → Bool) (ts : List Triangle) : Type 0 where
  pub agree : AllByRecursion (Agree S) ts
  pub place : ℕ
  pub triangle : Triangle
  pub stands : Stands ts place triangle
  pub passes : on S triangle ≡ true
  pub together : (i : ℕ) (t : Triangle) → Stands ts i t → on S t ≡ true → Joined same ts place i

-- the triangle seen from its other side: each corner is written with its points exchanged, and the triangle is run the other way
abbrev pub flip : {P : Type 0} → Edge P → Edge P
flip (edge p q) = edge q p

abbrev pub inside_out : {P : Type 0} → Tri (Edge P) → Tri (Edge P)
inside_out (tri a b e) = tri (flip a) (flip e) (flip b)

-- INSIDE OUT: if inside and outside are exchanged, each triangle of the skin is seen from its other side, whatever is summed. (As a list
-- the two triangles of a piece change places.)
abbrev pub Turned : Type 0
Turned =
    (g : Point → Bool) (x y z : ℕ) (h : Triangle → ℕ) →
    sum_of h (skin (λ p. not (g p)) x y z) ≡ sum_of (λ t. h (inside_out t)) (skin g x y z)

module _ (part : List Triangle) (g : Point → Bool) (x y z : ℕ) where
  -- the part is the skin of the region g
  pub record Outer : Type 0 where
    pub triangles : part ≡ skin g x y z
    pub corners : (p q : Point) → (0 < with_corner same (edge p q) part) ↔ (Neighbours p q × (g p ≡ true) × (g q ≡ false))

  -- the part is the skin of the region g turned inside out: the region is a hole
  pub record Inner : Type 0 where
    pub triangles : part ≡ skin (λ p. not (g p)) x y z
    pub turned : (h : Triangle → ℕ) → sum_of h part ≡ sum_of (λ t. h (inside_out t)) (skin g x y z)
    pub corners : (p q : Point) → (0 < with_corner same (edge p q) part) ↔ (Neighbours p q × (g p ≡ false) × (g q ≡ true))

-- what a part encloses: a region, not empty, that does not reach the border; the part's corners are the grid steps between the region and
-- its complement, all written region first (outer) or all written region last (inner)
pub record Region (part : List Triangle) (x y z : ℕ) : Type 0 where
  pub inside : Point → Bool
  pub border : Border inside x y z
  pub point : Point
  pub within : inside point ≡ true
  pub seen : Outer part inside x y z ⊎ Inner part inside x y z

-- EACH PART ENCLOSES A REGION
abbrev pub PartsEnclose : Type 0
PartsEnclose =
    (f : Point → Bool) (x y z : ℕ) → Border f x y z → (S : Corner → Bool) → OnePart S (skin f x y z) →
    Region (filter (on S) (skin f x y z)) x y z

-- the triangles of the part m, by the numbers of the triangles' parts
abbrev pub of_part : {A : Type 0} → ℕ → List A → List ℕ → List A
of_part m [] ps = []
of_part m (t ∷ ts) [] = []
of_part m (t ∷ ts) (p ∷ ps) = cond (p == m) (t ∷ of_part m ts ps) (of_part m ts ps)

-- the same of the parts of a skin by their numbers
abbrev pub NumberedPartsEnclose : Type 0
NumberedPartsEnclose =
    (f : Point → Bool) (x y z : ℕ) → Border f x y z → (ps : List ℕ) (n : ℕ) → Numbered same (skin f x y z) ps n →
    (m : ℕ) → m < n → Region (of_part m (skin f x y z) ps) x y z
