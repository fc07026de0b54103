-- A buffer of corners: three coordinates for each, in the order of their numbers. Assumes nothing.
use Rattle.std.specs.Prelude.{◌≡◌, ℕ, ◌+◌, ◌*◌, List, [], ◌∷◌, ◌++◌, length, take, drop}
use Rattle.std.specs.List.{flat_map}
use Rattle.theory.specs.Grid.{pt}
use Rattle.theory.specs.Places.{Place, place_at}
use Rattle.grid.specs.declared.edge.Point.{Point}
use Rattle.grid.specs.Places.{at}

-- the place k 256ths of the way from the inside point to the outside point
abbrev pub place_between : ℕ → Point → Point → Place
place_between k p q = place_at k (at p) (at q)

abbrev pub coordinates : Place → List ℕ
coordinates (pt x y z) = x ∷ y ∷ z ∷ []

-- corner n's three numbers are the place's, and all others are as they were
abbrev pub put_corner : List ℕ → ℕ → Place → List ℕ
put_corner cs n s = take (3 * n) cs ++ (coordinates s ++ drop (3 * n + 3) cs)

-- a buffer whose first corners are these, and the rest of which is as in cs
abbrev pub filled : List Place → List ℕ → List ℕ
filled ss cs = flat_map coordinates ss ++ drop (3 * length ss) cs

-- one corner more, written under the next number
abbrev pub FilledInOrder : Type 0
FilledInOrder = (cs : List ℕ) (ss : List Place) (s : Place) → put_corner (filled ss cs) (length ss) s ≡ filled (ss ++ s ∷ []) cs
