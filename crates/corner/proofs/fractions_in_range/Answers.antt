-- The statement is proofs/Fractions.antt's. Assumes nothing.
use Rattle.corner.proofs.Fractions.{fractions_in_range}
use Rattle.corner.proofs.fractions_in_range.Goals as goal

pub returns : goal.returns
returns c = fractions_in_range
