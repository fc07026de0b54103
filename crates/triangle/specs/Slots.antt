-- Where `work` keeps the number of a corner: by the upper end of its edge, and the step that leads there. Assumes nothing: these are
-- definitions.
use Rattle.std.specs.Prelude.{ℕ, ◌+◌, ◌-◌, ◌*◌, not, List, ◌==◌}
use Rattle.theory.specs.Grid.{pt}
use Rattle.theory.specs.Triangle.{edge, one_if}
use Rattle.theory.specs.Skin.{Corner}
use Rattle.theory_numbers.specs.Order.{upper}
use Rattle.block.specs.Scan.{size_x, size_y}
use Rattle.grid.specs.Numbers.{number_of}

abbrev pub apart : ℕ → ℕ → ℕ
apart a d = one_if (not (a == d))

-- along which axes an edge goes: bit 0 for x, bit 1 for y, bit 2 for z
abbrev pub step_of : Corner → ℕ
step_of (edge (pt a b c) (pt d e g)) = apart a d + (2 * apart b e + 4 * apart c g)

-- Six slots for each upper end, one for each step but 7. An edge along all three axes is the long diagonal of a cube, which no other cube
-- has: its corner's number need not be kept.
abbrev pub slot : List ℕ → Corner → ℕ
slot bs c = 6 * number_of (size_x bs) (size_y bs) (upper c) + (step_of c - 1)
