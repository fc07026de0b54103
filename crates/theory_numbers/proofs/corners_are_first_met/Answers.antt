-- Answers what `corners_are_first_met` promises. Assumes nothing.
use Rattle.theory_numbers.proofs.Crossed.{ends_at_top}
use Rattle.theory_numbers.proofs.Order.{first_met}
use Rattle.theory_numbers.proofs.corners_are_first_met.Goals as goal

pub returns : goal.returns
returns c = record { top = ends_at_top; met = first_met }
