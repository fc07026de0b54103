-- Which skins can be measured as far as there is room for their parts. Assumes nothing.
use Rattle.std.specs.Prelude.{ℕ, ◌^◌, Bool, ◌&&◌, List, length, nat_le, unsigned_abs}
use Rattle.theory_parts.specs.Buffer.{count_in}
use Rattle.volume.specs.Measure.{each_below, whole, low, determinant_at, cornered}

-- the triangle's corners are there, and its determinant is no larger than one of a skin, whose triangles lie each in one cube
abbrev pub bounded_at : List ℕ → List ℕ → ℕ → Bool
bounded_at cs ts i = cornered cs ts i && nat_le (unsigned_abs (determinant_at cs ts i)) (2 ^ 34)

-- what can be measured in as many parts as there is room for: the same as in m parts, but for the parts' numbers
unfoldable pub bounded : List ℕ → List ℕ → Bool
bounded cs ts = whole cs ts && (each_below (length cs) (low cs) && each_below (count_in ts) (bounded_at cs ts))
