-- Corners numbered from 0 in the order in which triangles meet them, and what that numbering keeps of a skin.
-- Each statement is a type; a public function's contract names it, so its proof is owed. Assumes nothing.
use Rattle.std.specs.Prelude.{◌≡◌, ℕ, suc, ◌*◌, ◌<◌, ◌≤◌, Bool, cond, ◌↔◌, List, [], ◌∷◌, ◌++◌, map, length, nat_eq, slice_index_or}
use Rattle.std.specs.List.{flat_map, AllByRecursion}
use Rattle.theory.specs.Grid.{Point, Border}
use Rattle.theory.specs.Triangle.{Tri, tri, with_corner, times, corners, firsts}
use Rattle.theory.specs.Skin.{Corner, Triangle, same, skin}
use Rattle.theory.specs.Closed.{EachSideOnce, ThreeCorners, Ring}

-- a triangle with each corner replaced by another
abbrev pub mapped : {C D : Type 0} → (C → D) → Tri C → Tri D
mapped m (tri a b e) = tri (m a) (m b) (m e)

module _ {C : Type 0} (same : C → C → Bool) where
  -- how many stand before the first that is c; the length if none is
  abbrev pub index_of : C → List C → ℕ
  index_of c [] = 0
  index_of c (d ∷ ds) = cond (same d c) 0 (suc (index_of c ds))

  -- a triangle with each corner replaced by its index in a list
  abbrev pub renumber : List C → Tri C → Tri ℕ
  renumber cs = mapped (λ c. index_of c cs)

  -- the corners met so far, with c put behind them unless it is there already
  abbrev pub meet : List C → C → List C
  meet [] c = c ∷ []
  meet (d ∷ ds) c = cond (same d c) (d ∷ ds) (d ∷ meet ds c)

  -- one after the other
  abbrev pub meet_all : List C → List C → List C
  meet_all met [] = met
  meet_all met (c ∷ cs) = meet_all (meet met c) cs

-- the corners of some triangles, each once, where it is met first: a corner's number is its index there
abbrev pub corners_met : List Triangle → List Corner
corners_met ts = firsts same (flat_map corners ts)

-- the corners of a skin
abbrev pub corner_list : (Point → Bool) → ℕ → ℕ → ℕ → List Corner
corner_list f x y z = corners_met (skin f x y z)

-- the triangles of a skin, by the numbers of their corners
abbrev pub numbered : (Point → Bool) → ℕ → ℕ → ℕ → List (Tri ℕ)
numbered f x y z = map (renumber same (corner_list f x y z)) (skin f x y z)

-- EACH CORNER ONCE: the corners of the skin, and nothing else, stand in the list, each once; a corner and its number lead to each other
pub record NumberedOnce (f : Point → Bool) (x y z : ℕ) : Type 0 where
  pub once : (c : Corner) → times same c (corner_list f x y z) ≤ 1
  pub listed : (c : Corner) → (0 < times same c (corner_list f x y z)) ↔ (0 < with_corner same c (skin f x y z))
  pub number_below : (c : Corner) → 0 < with_corner same c (skin f x y z) → index_of same c (corner_list f x y z) < length (corner_list f x y z)
  pub corner_at :
      (c other : Corner) → 0 < with_corner same c (skin f x y z) → slice_index_or (corner_list f x y z) (index_of same c (corner_list f x y z)) other ≡ c
  pub number_at :
      (n : ℕ) (other : Corner) → n < length (corner_list f x y z) → index_of same (slice_index_or (corner_list f x y z) n other) (corner_list f x y z) ≡ n

-- NUMBERED AS THEY ARE MET: who puts each corner behind those met so far, unless it is there, and goes from triangle to triangle, has the
-- list above in the end, and each triangle's numbers at once: they do not change with what is met later
pub record AsTheyAreMet : Type 0 where
  pub in_the_end : (cs : List Corner) → meet_all same [] cs ≡ firsts same cs
  pub known : (met : List Corner) (c : Corner) → 0 < times same c met → meet same met c ≡ met
  pub new : (met : List Corner) (c : Corner) → times same c met ≡ 0 → meet same met c ≡ met ++ c ∷ []
  pub new_number : (met : List Corner) (c : Corner) → times same c met ≡ 0 → index_of same c (meet same met c) ≡ length met
  pub kept :
      (met cs : List Corner) (c : Corner) → 0 < times same c met → index_of same c (meet_all same met cs) ≡ index_of same c met
  pub next : (ts : List Triangle) (t : Triangle) → meet_all same (corners_met ts) (corners t) ≡ corners_met (ts ++ t ∷ [])
  pub final :
      (ts : List Triangle) (t : Triangle) (us : List Triangle) →
      renumber same (meet_all same (corners_met ts) (corners t)) t ≡ renumber same (corners_met (ts ++ t ∷ us)) t
  pub so_far :
      (ts us : List Triangle) → map (renumber same (corners_met (ts ++ us))) ts ≡ map (renumber same (corners_met ts)) ts

-- NUMBERS ARE CLOSED: what is promised of the skin holds of its triangles by numbers, and the numbers that occur are those below the
-- number of corners
pub record NumbersClosed (f : Point → Bool) (x y z : ℕ) : Type 0 where
  pub closed : EachSideOnce nat_eq (numbered f x y z)
  pub whole : AllByRecursion (ThreeCorners nat_eq) (numbered f x y z)
  pub occurs : (n : ℕ) → (0 < with_corner nat_eq n (numbered f x y z)) ↔ (n < length (corner_list f x y z))
  pub ring : (n : ℕ) → n < length (corner_list f x y z) → Ring nat_eq n (numbered f x y z)

abbrev pub CornersNumberedOnce : Type 0
CornersNumberedOnce = (f : Point → Bool) (x y z : ℕ) → NumberedOnce f x y z

abbrev pub NumberedSkinsClosed : Type 0
NumberedSkinsClosed = (f : Point → Bool) (x y z : ℕ) → Border f x y z → NumbersClosed f x y z

-- AT MOST SIX: there are at most six corners for each cube
abbrev pub AtMostSix : Type 0
AtMostSix = (f : Point → Bool) (x y z : ℕ) → Border f x y z → length (corner_list f x y z) ≤ 6 * (x * y * z)
