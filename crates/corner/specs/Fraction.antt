-- How far along its edge a corner lies, by the values at the two ends. Assumes nothing.
use Rattle.std.specs.Prelude.{ℕ, ◌+◌, ◌-◌, ◌*◌, ◌/◌, List}
use Rattle.theory.specs.Triangle.{edge}
use Rattle.theory.specs.Skin.{Corner}
use Rattle.theory.specs.Places.{InRange}
use Rattle.block.specs.Scan.{threshold, value_of, inside, Taken}

-- in 256ths of the way from the inside point, of value u, to the outside point, of value v, with the threshold t:
-- 1 + ⌊254 (2 (u − t) + 1) / (2 (u − v))⌋
abbrev pub fraction_of : ℕ → ℕ → ℕ → ℕ
fraction_of u v t = 1 + 254 * (2 * (u - t) + 1) / (2 * (u - v))

-- the same for a corner, by the bytes of a block
abbrev pub fraction_in : List ℕ → Corner → ℕ
fraction_in bs (edge p q) = fraction_of (value_of bs p) (value_of bs q) (threshold bs)

-- in a block that was taken, the fraction of every edge from a point inside to one outside is 1 to 254
abbrev pub FractionsInRange : Type 0
FractionsInRange = (bs : List ℕ) → Taken bs → InRange (inside bs) (fraction_in bs)
