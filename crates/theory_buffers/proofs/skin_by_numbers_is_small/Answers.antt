-- Answers what `skin_by_numbers_is_small` promises. Assumes nothing.
use Rattle.theory_buffers.proofs.ByNumber.{skins_sized_by_number}
use Rattle.theory_buffers.proofs.skin_by_numbers_is_small.Goals as goal

pub returns : goal.returns
returns c = skins_sized_by_number
