-- Answers what `numbers_stay` promises. Assumes nothing.
use Rattle.theory_numbers.proofs.Meeting.{as_they_are_met}
use Rattle.theory_numbers.proofs.numbers_stay.Goals as goal

pub returns : goal.returns
returns c = as_they_are_met
