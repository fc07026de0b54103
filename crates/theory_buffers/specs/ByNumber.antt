-- A skin as it stands in buffers: corners are numbers, each with a place, and triangles are triples of numbers. What is promised of a skin
-- holds of it in this form. Each statement is a type; a public function's contract names it, so its proof is owed. Assumes nothing.
use Rattle.std.specs.Prelude.{◌≡◌, ℕ, ◌<◌, ◌≤◌, Bool, true, ◌≢◌, List, length, pos, nat_eq}
use Rattle.std.specs.List.{AllByRecursion}
use Rattle.theory.specs.Grid.{Point, Border}
use Rattle.theory.specs.Triangle.{corners}
use Rattle.theory.specs.Skin.{Corner, same, skin}
use Rattle.theory.specs.Closed.{Neighbours}
use Rattle.theory.specs.Places.{Place, place, On, InRange, OfSkin}
use Rattle.theory_numbers.specs.Numbers.{index_of, corner_list, numbered}
use Rattle.theory_parts.specs.Parts.{Numbered}
use Rattle.theory_parts.specs.Regions.{of_part}
use Rattle.theory_volume.specs.Volume.{six_volume}
use Rattle.theory_volume.specs.Inside.{inside_sum}
use Rattle.theory_volume.specs.Sizes.{most_cubes, most_coordinate, most_triangles, CoordinatesTo, Small}

-- the corner n, of so many, lies on the step from p to q, and no other does
pub record OnlyCorner (at : ℕ → Place) (count : ℕ) (p q : Point) (n : ℕ) : Type 0 where
  pub counted : n < count
  pub lies : On p q (at n)
  pub only : (m : ℕ) → m < count → On p q (at m) → m ≡ n

-- the step from p to q goes through exactly one corner if one end is inside and the other is not, and through none otherwise
pub record CrossedByNumber (f : Point → Bool) (at : ℕ → Place) (count : ℕ) (p q : Point) : Type 0 where
  pub parted : f p ≢ f q → (n : ℕ) × OnlyCorner at count p q n
  pub alike : f p ≡ f q → (n : ℕ) → n < count → On p q (at n) → ⊥

module _ (f : Point → Bool) (k : Corner → ℕ) (x y z : ℕ) (at : ℕ → Place) where
  -- each corner of the skin lies at its number's place
  abbrev pub Placed : Type 0
  Placed = (c : Corner) → OfSkin f x y z c → at (index_of same c (corner_list f x y z)) ≡ place k c

  -- what is promised of the skin, in numbers and places
  pub record ByNumber : Type 0 where
    pub in_range : AllByRecursion (λ t. AllByRecursion (λ c. c < length (corner_list f x y z)) (corners t)) (numbered f x y z)
    pub apart : (m n : ℕ) → m < length (corner_list f x y z) → n < length (corner_list f x y z) → at m ≡ at n → m ≡ n
    pub crossed : (p q : Point) → Neighbours p q → CrossedByNumber f at (length (corner_list f x y z)) p q
    pub encloses : six_volume at (numbered f x y z) ≡ pos (inside_sum f k x y z)
    pub above_zero : (p : Point) → f p ≡ true → 0 < inside_sum f k x y z

  -- nothing is larger than what is measured
  pub record SizedByNumber : Type 0 where
    pub coordinates : (n : ℕ) → n < length (corner_list f x y z) → CoordinatesTo most_coordinate (at n)
    pub small : AllByRecursion (Small at) (numbered f x y z)
    pub count : length (numbered f x y z) ≤ most_triangles

  -- parts by numbers are parts of the skin, each with its count of triangles and its volume
  pub record PartsByNumber (ps : List ℕ) (n : ℕ) : Type 0 where
    pub of_skin : Numbered same (skin f x y z) ps n
    pub counts : (m : ℕ) → length (of_part m (numbered f x y z) ps) ≡ length (of_part m (skin f x y z) ps)
    pub volumes : (m : ℕ) → six_volume at (of_part m (numbered f x y z) ps) ≡ six_volume (place k) (of_part m (skin f x y z) ps)

-- EVERY SKIN BY NUMBERS is as promised
abbrev pub SkinsByNumber : Type 0
SkinsByNumber =
    (f : Point → Bool) (x y z : ℕ) → Border f x y z → (k : Corner → ℕ) → InRange f k →
    (at : ℕ → Place) → Placed f k x y z at → ByNumber f k x y z at

-- no skin of at most 95 cubes along each axis is too large
abbrev pub SkinsSizedByNumber : Type 0
SkinsSizedByNumber =
    (f : Point → Bool) (x y z : ℕ) → x ≤ most_cubes → y ≤ most_cubes → z ≤ most_cubes → (k : Corner → ℕ) → InRange f k →
    (at : ℕ → Place) → Placed f k x y z at → SizedByNumber f k x y z at

-- PARTS FOUND BY NUMBERS ALONE are the parts of the skin
abbrev pub SkinsPartedByNumber : Type 0
SkinsPartedByNumber =
    (f : Point → Bool) (x y z : ℕ) → (k : Corner → ℕ) → (at : ℕ → Place) → Placed f k x y z at →
    (ps : List ℕ) (n : ℕ) → Numbered nat_eq (numbered f x y z) ps n → PartsByNumber f k x y z at ps n
