-- Small blocks whose skins are worked out from the definitions. Assumes nothing.
use Rattle.std.specs.Prelude.{◌≡◌, ℕ, Bool, false, List, [], ◌∷◌, length}
use Rattle.std.specs.List.{flat_map, AllByRecursion}
use Rattle.theory.specs.Grid.{Point, pt, same_point}
use Rattle.theory.specs.Triangle.{corners, firsts}
use Rattle.theory.specs.Skin.{same, skin}

-- who is inside, how many cubes there are along each axis, and how many triangles and corners the skin has
pub record Block : Type 0 where
  pub inside : Point → Bool
  pub x : ℕ
  pub y : ℕ
  pub z : ℕ
  pub triangle_count : ℕ
  pub corner_count : ℕ

abbrev pub worked : List Block
worked =
    record { inside = λ p. false; x = 1; y = 1; z = 1; triangle_count = 0; corner_count = 0 }
    ∷ record { inside = same_point (pt 1 1 1); x = 2; y = 2; z = 2; triangle_count = 24; corner_count = 14 }
    ∷ []

abbrev pub Right : Block → Type 0
Right b =
    (length (skin b.inside b.x b.y b.z) ≡ b.triangle_count)
    × (length (firsts same (flat_map corners (skin b.inside b.x b.y b.z))) ≡ b.corner_count)

abbrev pub WorkedOut : Type 0
WorkedOut = AllByRecursion Right worked
