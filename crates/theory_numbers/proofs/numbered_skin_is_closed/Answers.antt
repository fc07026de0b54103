-- Answers what `numbered_skin_is_closed` promises. Assumes nothing.
use Rattle.theory_numbers.proofs.Numbered.{numbers_closed}
use Rattle.theory_numbers.proofs.numbered_skin_is_closed.Goals as goal

pub returns : goal.returns
returns c = numbers_closed
