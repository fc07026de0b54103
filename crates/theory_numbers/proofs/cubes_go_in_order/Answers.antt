-- Answers what `cubes_go_in_order` promises. Assumes nothing.
use Rattle.theory_numbers.proofs.Order.{in_order}
use Rattle.theory_numbers.proofs.cubes_go_in_order.Goals as goal

pub returns : goal.returns
returns c = in_order
