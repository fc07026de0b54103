-- What the corners' buffer of a skin holds: three coordinates for each corner. Assumes nothing.
use Rattle.std.specs.Prelude.{ℕ, ◌+◌, ◌*◌, ◌/◌, List, length, slice_index}
use Rattle.theory.specs.Grid.{pt}
use Rattle.theory.specs.Places.{Place}

-- where the corner with a number lies
abbrev pub place_in : List ℕ → ℕ → Place
place_in cs c = pt (slice_index cs (3 * c)) (slice_index cs (3 * c + 1)) (slice_index cs (3 * c + 2))

abbrev pub corner_count : List ℕ → ℕ
corner_count cs = length cs / 3
