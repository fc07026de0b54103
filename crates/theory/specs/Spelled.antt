-- The same skin spelled out cube by cube, the border case by case, and the crossing of each edge: other words for the same things, shown
-- to be the same. Assumes nothing.
use Rattle.std.specs.Prelude.{◌≡◌, ℕ, zero, suc, ◌+◌, ◌<◌, ◌≤◌, Bool, true, false, ◌⊎◌, ◌↔◌, List, [], ◌++◌}
use Rattle.theory.specs.Grid.{Point, pt, Border}
use Rattle.theory.specs.Triangle.{edge, with_corner}
use Rattle.theory.specs.Skin.{Triangle, same, cut_by, skin}

-- the six pieces of a cube, written out
unfoldable pub spelled_cube : (Point → Bool) → ℕ → ℕ → ℕ → List Triangle
spelled_cube f x y z =
    cut_by f (pt x y z) (pt (suc x) y z) (pt (suc x) (suc y) z) (pt (suc x) (suc y) (suc z))
    ++ cut_by f (pt x y z) (pt (suc x) y z) (pt (suc x) (suc y) (suc z)) (pt (suc x) y (suc z))
    ++ cut_by f (pt x y z) (pt x (suc y) z) (pt (suc x) (suc y) (suc z)) (pt (suc x) (suc y) z)
    ++ cut_by f (pt x y z) (pt x (suc y) z) (pt x (suc y) (suc z)) (pt (suc x) (suc y) (suc z))
    ++ cut_by f (pt x y z) (pt x y (suc z)) (pt (suc x) y (suc z)) (pt (suc x) (suc y) (suc z))
    ++ cut_by f (pt x y z) (pt x y (suc z)) (pt (suc x) (suc y) (suc z)) (pt x (suc y) (suc z))

unfoldable pub row : (Point → Bool) → ℕ → ℕ → ℕ → List Triangle
row f zero y z = []
row f (suc x) y z = row f x y z ++ spelled_cube f x y z

unfoldable pub layer : (Point → Bool) → ℕ → ℕ → ℕ → List Triangle
layer f x zero z = []
layer f x (suc y) z = layer f x y z ++ row f x y z

unfoldable pub spelled_skin : (Point → Bool) → ℕ → ℕ → ℕ → List Triangle
spelled_skin f x y zero = []
spelled_skin f x y (suc z) = spelled_skin f x y z ++ layer f x y z

pub record SpelledOut : Type 0 where
  pub skins : (f : Point → Bool) (x y z : ℕ) → skin f x y z ≡ spelled_skin f x y z
  pub borders :
      (f : Point → Bool) (x y z : ℕ) →
      Border f x y z ↔ ((u v w : ℕ) → ((u ≡ 0) ⊎ (v ≡ 0)) ⊎ ((w ≡ 0) ⊎ (x ≤ u)) ⊎ ((y ≤ v) ⊎ (z ≤ w)) → f (pt u v w) ≡ false)
  -- every step by one, two or three axes from a point inside to one outside, up or down, carries a corner
  pub crossings :
      (f : Point → Bool) (x y z u v w a b c : ℕ) → Border f x y z → a ≤ 1 → b ≤ 1 → c ≤ 1 → 0 < a + (b + c) →
      (f (pt u v w) ≡ true → f (pt (u + a) (v + b) (w + c)) ≡ false →
      0 < with_corner same (edge (pt u v w) (pt (u + a) (v + b) (w + c))) (skin f x y z))
      × (f (pt u v w) ≡ false → f (pt (u + a) (v + b) (w + c)) ≡ true →
      0 < with_corner same (edge (pt (u + a) (v + b) (w + c)) (pt u v w)) (skin f x y z))
