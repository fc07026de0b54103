-- Where corners lie: each strictly within its own grid step, no two at one place, one on each step that the skin crosses and none on any
-- other. Each statement is a type; a public function's contract names it, so its proof is owed. Assumes nothing.
use Rattle.std.specs.Prelude.{◌≡◌, ℕ, ◌+◌, ◌-◌, ◌*◌, ◌<◌, ◌≤◌, min, max, Bool, true, false, ◌≢◌, ◌⊎◌}
use Rattle.theory.specs.Grid.{Point, pt, Border}
use Rattle.theory.specs.Triangle.{edge, with_corner}
use Rattle.theory.specs.Skin.{Corner, same, skin}
use Rattle.theory.specs.Closed.{Neighbours}

-- a place, by its coordinates in whole numbers of 1/256 of a grid step
abbrev pub Place : Type 0
Place = Point

-- one coordinate, k 256ths of the way from u to v: 256 u + k (v − u)
abbrev pub between : ℕ → ℕ → ℕ → ℕ
between k u v = 256 * u + k * v - k * u

abbrev pub place_at : ℕ → Point → Point → Place
place_at k (pt x y z) (pt u v w) = pt (between k x u) (between k y v) (between k z w)

-- the place of a corner: k 256ths of the way from its inside point to its outside point
abbrev pub place : (Corner → ℕ) → Corner → Place
place k (edge p q) = place_at (k (edge p q)) p q

-- the place of a point of the grid
abbrev pub point_place : Point → Place
point_place (pt x y z) = pt (256 * x) (256 * y) (256 * z)

-- the place s lies on the step from p to q, ends included
abbrev pub On : Point → Point → Place → Type 0
On p q s = (j : ℕ) × (j ≤ 256) × (s ≡ place_at j p q)

-- j 256ths of the way are strictly between the ends of a step
abbrev pub AmidStep : ℕ → Type 0
AmidStep j = (1 ≤ j) × (j ≤ 255)

-- COORDINATES GIVE BACK THE STEP: a place strictly within two steps of the grid lies on one step, run the same way or the other way round
abbrev pub StepKnown : Type 0
StepKnown =
    (p q r s : Point) (j i : ℕ) → Neighbours p q → Neighbours r s → AmidStep j → AmidStep i → place_at j p q ≡ place_at i r s →
    ((p ≡ r) × (q ≡ s) × (j ≡ i)) ⊎ ((p ≡ s) × (q ≡ r) × (j + i ≡ 256))

-- a place strictly within a step lies on it, and at no point of the grid
abbrev pub StrictlyWithin : Type 0
StrictlyWithin =
    (p q : Point) (j : ℕ) → Neighbours p q → AmidStep j → On p q (place_at j p q) × ((r : Point) → place_at j p q ≢ point_place r)

-- as long as k is at most 256, `between` never subtracts more than there is, and lies between its ends
pub record BetweenEnds (k u v : ℕ) : Type 0 where
  pub exact : between k u v + k * u ≡ 256 * u + k * v
  pub above : 256 * min u v ≤ between k u v
  pub below : between k u v ≤ 256 * max u v

abbrev pub LieBetweenEnds : Type 0
LieBetweenEnds = (k u v : ℕ) → k ≤ 256 → BetweenEnds k u v

-- a step may be run from either end
abbrev pub EitherEnd : Type 0
EitherEnd = (p q : Point) (s : Place) → On p q s → On q p s

-- k is 1 to 254 on each edge of the grid from a point inside to a point outside; it may differ from edge to edge
abbrev pub InRange : (Point → Bool) → (Corner → ℕ) → Type 0
InRange f k = (p q : Point) → Neighbours p q → f p ≡ true → f q ≡ false → (1 ≤ k (edge p q)) × (k (edge p q) ≤ 254)

module _ (f : Point → Bool) (x y z : ℕ) where
  abbrev pub OfSkin : Corner → Type 0
  OfSkin c = 0 < with_corner same c (skin f x y z)

  module _ (k : Corner → ℕ) (p q : Point) where
    -- the corner c of the skin lies on the step from p to q, and no other does
    pub record Only (c : Corner) : Type 0 where
      pub of_skin : OfSkin c
      pub lies : On p q (place k c)
      pub only : (d : Corner) → OfSkin d → On p q (place k d) → d ≡ c

    -- the step from p to q is crossed as its ends say
    pub record Crossed : Type 0 where
      pub leaving : f p ≡ true → f q ≡ false → Only (edge p q)
      pub entering : f p ≡ false → f q ≡ true → Only (edge q p)
      pub alike : f p ≡ f q → (c : Corner) → OfSkin c → On p q (place k c) → ⊥

-- no two corners of the skin are at one place
abbrev pub NoTwoAtOnePlace : Type 0
NoTwoAtOnePlace =
    (f : Point → Bool) (x y z : ℕ) → Border f x y z → (k : Corner → ℕ) → InRange f k →
    (c d : Corner) → OfSkin f x y z c → OfSkin f x y z d → place k c ≡ place k d → c ≡ d

-- WHO IS PARTED FROM WHOM, BY PLACES: a step of the grid with one end inside has exactly one corner of the skin on it, any other step none
abbrev pub CrossedOnce : Type 0
CrossedOnce =
    (f : Point → Bool) (x y z : ℕ) → Border f x y z → (k : Corner → ℕ) → InRange f k →
    (p q : Point) → Neighbours p q → Crossed f x y z k p q
