-- Answers what `corners_are_numbered_once` promises. Assumes nothing.
use Rattle.theory_numbers.proofs.Numbered.{numbered_once}
use Rattle.theory_numbers.proofs.corners_are_numbered_once.Goals as goal

pub returns : goal.returns
returns c = numbered_once
