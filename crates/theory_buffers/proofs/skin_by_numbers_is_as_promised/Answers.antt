-- Answers what `skin_by_numbers_is_as_promised` promises. Assumes nothing.
use Rattle.theory_buffers.proofs.ByNumber.{skins_by_number}
use Rattle.theory_buffers.proofs.skin_by_numbers_is_as_promised.Goals as goal

pub returns : goal.returns
returns c = skins_by_number
