-- Answers what `corners_are_at_most_six_a_cube` promises. Assumes nothing.
use Rattle.theory_numbers.proofs.Six.{at_most_six}
use Rattle.theory_numbers.proofs.corners_are_at_most_six_a_cube.Goals as goal

pub returns : goal.returns
returns c = at_most_six
