-- The parts of a list of triangles: the triangles that hang together by common sides, and the parts' numbers. Stated over any sort of
-- corner with a test of sameness, as triangles are. Each statement is a type; a public function's contract names it, so its proof is owed.
-- Assumes nothing.
use Rattle.std.specs.Prelude.{◌≡◌, ℕ, zero, suc, ◌+◌, ◌<◌, Bool, ◌⊎◌, ◌↔◌, List, [], ◌∷◌, length, slice_index}
use Rattle.theory.specs.Triangle.{Tri, side, has, with_corner}
use Rattle.theory.specs.Closed.{Ring}

-- the smallest equivalence that holds wherever R does
pub data Connected {A : Type 0} (R : A → A → Type 0) : A → A → Type 0 where
  itself : (a : A) → Connected R a a
  step : {a b : A} → R a b → Connected R a b
  back : {a b : A} → Connected R a b → Connected R b a
  onward : {a b c : A} → Connected R a b → Connected R b c → Connected R a c

-- x stands at place i of a list
abbrev pub Stands : {A : Type 0} → List A → ℕ → A → Type 0
Stands [] i x = ⊥
Stands (y ∷ ys) zero x = y ≡ x
Stands (y ∷ ys) (suc i) x = Stands ys i x

-- Numbers given in turn: n parts have begun, and each triangle belongs to one of them, or is the first of the part n; m is how many parts
-- there are in the end.
abbrev pub InTurn : ℕ → List ℕ → ℕ → Type 0
InTurn n [] m = n ≡ m
InTurn n (p ∷ ps) m = ((p < n) × InTurn n ps m) ⊎ ((p ≡ n) × InTurn (suc n) ps m)

module _ {C : Type 0} (same : C → C → Bool) where
  -- how many sides of a triangle run between two corners, either way
  abbrev pub between : C → C → Tri C → ℕ
  between c d t = side same c d t + side same d c t

  -- the triangles at the places i and j have a common side
  pub record ShareSide (ts : List (Tri C)) (i j : ℕ) : Type 0 where
    pub this : Tri C
    pub that : Tri C
    pub this_stands : Stands ts i this
    pub that_stands : Stands ts j that
    pub from : C
    pub to : C
    pub side_of_this : 0 < between from to this
    pub side_of_that : 0 < between from to that

  -- the triangles at the places i and j have a common corner
  pub record ShareCorner (ts : List (Tri C)) (i j : ℕ) : Type 0 where
    pub this : Tri C
    pub that : Tri C
    pub this_stands : Stands ts i this
    pub that_stands : Stands ts j that
    pub corner : C
    pub of_this : 0 < has same corner this
    pub of_that : 0 < has same corner that

  -- c and d are corners of one triangle
  pub record ShareTriangle (ts : List (Tri C)) (c d : C) : Type 0 where
    pub place : ℕ
    pub triangle : Tri C
    pub stands : Stands ts place triangle
    pub has_c : 0 < has same c triangle
    pub has_d : 0 < has same d triangle

  -- A PART: one can go from the triangle at the place i to the one at j by common sides
  abbrev pub Joined : List (Tri C) → ℕ → ℕ → Type 0
  Joined ts = Connected (ShareSide ts)

  -- one can go from the corner c to the corner d from corner to corner of a triangle
  abbrev pub Linked : List (Tri C) → C → C → Type 0
  Linked ts = Connected (ShareTriangle ts)

  -- ps are the numbers of the triangles' parts, and n is how many parts there are: parts are numbered by their first triangle
  pub record Numbered (ts : List (Tri C)) (ps : List ℕ) (n : ℕ) : Type 0 where
    pub long : length ps ≡ length ts
    pub alike : (i j : ℕ) → i < length ts → j < length ts → (slice_index ps i ≡ slice_index ps j) ↔ Joined ts i j
    pub in_turn : InTurn 0 ps n

  -- around each corner of the triangles there is one ring
  abbrev pub Ringed : List (Tri C) → Type 0
  Ringed ts = (c : C) → 0 < with_corner same c ts → Ring same c ts

  -- ONE NUMBERING: the triangles alone say which part has which number
  abbrev pub OnlyNumbering : Type 0
  OnlyNumbering = (ts : List (Tri C)) (ps qs : List ℕ) (m n : ℕ) → Numbered ts ps m → Numbered ts qs n → (ps ≡ qs) × (m ≡ n)

  -- NO TWO PARTS SHARE A CORNER: where there are rings, two triangles with a common corner can be joined by common sides …
  abbrev pub CornersJoin : Type 0
  CornersJoin = (ts : List (Tri C)) → Ringed ts → (i j : ℕ) → ShareCorner ts i j → Joined ts i j

  -- … and so they have one number
  abbrev pub NoCornerInTwoParts : Type 0
  NoCornerInTwoParts =
      (ts : List (Tri C)) (ps : List ℕ) (n : ℕ) → Ringed ts → Numbered ts ps n →
      (i j : ℕ) → ShareCorner ts i j → slice_index ps i ≡ slice_index ps j

  -- PARTS BY CORNERS: where there are rings, triangles are joined by sides exactly if their corners are linked, whichever two are asked
  abbrev pub JoinedAsLinked : Type 0
  JoinedAsLinked =
      (ts : List (Tri C)) → Ringed ts → (i j : ℕ) (t u : Tri C) → Stands ts i t → Stands ts j u →
      (c d : C) → 0 < has same c t → 0 < has same d u → Joined ts i j ↔ Linked ts c d
