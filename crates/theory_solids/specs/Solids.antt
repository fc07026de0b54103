-- What each part of a skin encloses: its triangles' determinants sum up to six times the volume of its region, above 0 where the part is
-- seen from outside and below 0 where it is seen from inside. Each statement is a type; a public function's contract names it, so its proof
-- is owed. Assumes nothing.
use Rattle.std.specs.Prelude.{◌≡◌, ℕ, ◌-◌, ◌<◌, Bool, ◌≢◌, ◌↔◌, List, pos, neg_ℤ, ◌<ℤ◌}
use Rattle.theory.specs.Grid.{Point, Border}
use Rattle.theory.specs.Triangle.{edge, with_corner}
use Rattle.theory.specs.Skin.{Corner, Triangle, same, skin}
use Rattle.theory.specs.Places.{place, InRange}
use Rattle.theory_parts.specs.Parts.{Numbered}
use Rattle.theory_parts.specs.Regions.{Outer, Inner, Region, of_part}
use Rattle.theory_volume.specs.Volume.{six_volume}
use Rattle.theory_volume.specs.Inside.{inside_sum}

-- how far along its edge a corner lies, as told from the edge's other end
abbrev pub from_other_end : (Corner → ℕ) → Corner → ℕ
from_other_end k (edge p q) = 256 - k (edge q p)

module _ (k : Corner → ℕ) (part : List Triangle) (g : Point → Bool) (x y z : ℕ) where
  -- the part has six times the volume of the region g
  pub record Filled : Type 0 where
    pub volume : six_volume (place k) part ≡ pos (inside_sum g k x y z)
    pub above : 0 < inside_sum g k x y z

  -- The part has six times the volume of the region g, but negative. The part's corners are written region last, so for the region they
  -- are told from the other end; their places stay.
  pub record Hollow : Type 0 where
    pub places : (p q : Point) → 0 < with_corner same (edge p q) part → place k (edge p q) ≡ place (from_other_end k) (edge q p)
    pub volume : six_volume (place k) part ≡ neg_ℤ (pos (inside_sum g (from_other_end k) x y z))
    pub above : 0 < inside_sum g (from_other_end k) x y z

module _ (part : List Triangle) (x y z : ℕ) where
  -- the part is the skin of a region that does not reach the border, seen from outside …
  abbrev pub IsOuter : Type 0
  IsOuter = (g : Point → Bool) × Border g x y z × Outer part g x y z

  -- … or from inside
  abbrev pub IsInner : Type 0
  IsInner = (g : Point → Bool) × Border g x y z × Inner part g x y z

-- What the volume of a part tells: `outer` and `inner` hold of any region that the part is the skin of, and `region` is one. The volume is
-- never 0, and its sign says from where the part is seen.
pub record Solid (k : Corner → ℕ) (part : List Triangle) (x y z : ℕ) : Type 0 where
  pub region : Region part x y z
  pub outer : (g : Point → Bool) → Border g x y z → Outer part g x y z → Filled k part g x y z
  pub inner : (g : Point → Bool) → Border g x y z → Inner part g x y z → Hollow k part g x y z
  pub never_zero : six_volume (place k) part ≢ pos 0
  pub above : IsOuter part x y z ↔ (pos 0 <ℤ six_volume (place k) part)
  pub below : IsInner part x y z ↔ (six_volume (place k) part <ℤ pos 0)

-- EACH PART IS SOLID
abbrev pub PartsAreSolid : Type 0
PartsAreSolid =
    (f : Point → Bool) (x y z : ℕ) → Border f x y z → (k : Corner → ℕ) → InRange f k →
    (ps : List ℕ) (n : ℕ) → Numbered same (skin f x y z) ps n →
    (m : ℕ) → m < n → Solid k (of_part m (skin f x y z) ps) x y z
