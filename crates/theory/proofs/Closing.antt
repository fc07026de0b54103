-- A skin around each of whose corners the triangles are read along a closed walk has one ring there, and is closed. Assumes nothing.
use Rattle.std.proofs.Common.{◌≡◌, ℕ, ◌<◌, Bool, List}
use Rattle.theory.specs.Grid.{Point, Border}
use Rattle.theory.specs.Triangle.{sum_of, with_corner, around, walk}
use Rattle.theory.specs.Skin.{Corner, same, skin}
use Rattle.theory.specs.Closed.{Closed, OneRing}
use Rattle.theory.proofs.Same.{same_true, same_refl}
use Rattle.theory.proofs.Around.{ring, sides_balance}
use Rattle.theory.proofs.Whole.{whole_triangles}
use Rattle.theory.proofs.Once.{side_at_most_once}

-- the triangles at each corner, read from it, are the steps of a closed walk: any weight has the same sum over both
abbrev pub ClosedWalks : Type 0
ClosedWalks =
    (f : Point → Bool) (x y z : ℕ) → Border f x y z → (c : Corner) → 0 < with_corner same c (skin f x y z) →
    (first : Corner) × (others : List Corner)
    × ((h : Corner × Corner → ℕ) → sum_of h (around same c (skin f x y z)) ≡ sum_of h (walk first others first))

pub rings_from_walks : ClosedWalks → OneRing
rings_from_walks r f x y z b c on =
    let g = r f x y z b c on in
    ring same same_true same_refl c (skin f x y z) (whole_triangles f x y z) g.0 g.1 g.2 (side_at_most_once f x y z c)

pub closed_from_rings : OneRing → Closed
closed_from_rings r f x y z b c d =
    (side_at_most_once f x y z c d, sides_balance same same_true same_refl c (skin f x y z) (whole_triangles f x y z) (r f x y z b c) d)
