-- What is counted of a skin. Assumes nothing: these are definitions.
use Rattle.std.specs.Prelude.{◌≡◌, ℕ, List, length}
use Rattle.theory.specs.Skin.{Triangle}
use Rattle.theory_numbers.specs.Numbers.{corners_met}
use Rattle.triangle.specs.declared.Counts.{Counts}

-- these triangles are counted, and their corners, each once
pub record Counted (bs : List ℕ) (old r : Counts) (ts : List Triangle) : Type 0 where
  pub corners : r.corners ≡ length (corners_met ts)
  pub triangles : r.triangles ≡ length ts
