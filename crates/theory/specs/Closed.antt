-- What is promised of a skin: it is closed, around each of its corners is one ring, and it parts what is inside from what is not.
-- Each statement is a type; a public function's contract names it, so its proof is owed. Assumes nothing.
use Rattle.std.specs.Prelude.{◌≡◌, ℕ, ◌<◌, ◌≤◌, Bool, true, false, ◌≢◌, ◌⊎◌, ◌↔◌, List, [], ◌∷◌}
use Rattle.std.specs.List.{AllByRecursion}
use Rattle.theory.specs.Grid.{Point, Offset, lowest, ◌⊕◌, Border}
use Rattle.theory.specs.Triangle.{edge, Tri, tri, sum_of, sides, with_corner, times, steps, around, walk}
use Rattle.theory.specs.Skin.{Corner, same, skin}

module _ {C : Type 0} (same : C → C → Bool) where
  -- a side that some triangle has, exactly one triangle has, and exactly one has its reverse
  abbrev pub EachSideOnce : List (Tri C) → Type 0
  EachSideOnce ts = (c d : C) → (sides same c d ts ≤ 1) × (sides same c d ts ≡ sides same d c ts)

  -- the three corners of a triangle are different
  abbrev pub ThreeCorners : Tri C → Type 0
  ThreeCorners (tri a b e) = (same a b ≡ false) × (same b e ≡ false) × (same e a ≡ false)

-- One ring around the corner c: with d₀ = first and d₁ … dₙ = others, all different, the triangles that have c, read from c, are
-- (c, d₀, d₁), (c, d₁, d₂), …, (c, dₙ, d₀), each once, and no others. `weighs` says so of any weight of the steps; counts are one.
pub record Ring {C : Type 0} (same : C → C → Bool) (c : C) (ts : List (Tri C)) : Type 0 where
  pub first : C
  pub others : List C
  pub apart : (d : C) → times same d (first ∷ others) ≤ 1
  pub reads : (d e : C) → steps same d e (around same c ts) ≡ steps same d e (walk first others first)
  pub weighs : (h : C × C → ℕ) → sum_of h (around same c ts) ≡ sum_of h (walk first others first)

-- two points are the ends of an edge of the grid: from one to the other it is one step along one, two or three axes at a time
abbrev pub Neighbours : Point → Point → Type 0
Neighbours p q = (o : Offset) × (o ≢ lowest) × ((q ≡ p ⊕ o) ⊎ (p ≡ q ⊕ o))

-- THE MAIN PROMISE: the skin is closed, and has one outside
abbrev pub Closed : Type 0
Closed = (f : Point → Bool) (x y z : ℕ) → Border f x y z → EachSideOnce same (skin f x y z)

-- no triangle has a corner twice
abbrev pub WholeTriangles : Type 0
WholeTriangles = (f : Point → Bool) (x y z : ℕ) → AllByRecursion (ThreeCorners same) (skin f x y z)

-- around each corner of the skin there is one ring
abbrev pub OneRing : Type 0
OneRing =
    (f : Point → Bool) (x y z : ℕ) → Border f x y z → (c : Corner) → 0 < with_corner same c (skin f x y z) → Ring same c (skin f x y z)

-- the corners of the skin are the edges of the grid from a point inside to a point outside: all of these, and nothing else
abbrev pub Parted : Type 0
Parted =
    (f : Point → Bool) (x y z : ℕ) → Border f x y z → (p q : Point) →
    (0 < with_corner same (edge p q) (skin f x y z)) ↔ (Neighbours p q × (f p ≡ true) × (f q ≡ false))

-- where nothing is inside there is no triangle
abbrev pub NothingOpen : Type 0
NothingOpen = (f : Point → Bool) (x y z : ℕ) → ((p : Point) → f p ≡ false) → skin f x y z ≡ []
