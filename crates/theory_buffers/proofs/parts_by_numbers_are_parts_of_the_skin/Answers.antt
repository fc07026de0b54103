-- Answers what `parts_by_numbers_are_parts_of_the_skin` promises. Assumes nothing.
use Rattle.theory_buffers.proofs.ByNumber.{skins_parted_by_number}
use Rattle.theory_buffers.proofs.parts_by_numbers_are_parts_of_the_skin.Goals as goal

pub returns : goal.returns
returns c = skins_parted_by_number
