use Rattle.theory.proofs.Rings.{parted}
use Rattle.theory.proofs.Spelling.{spelled_out}
use Rattle.theory.proofs.skin_is_as_spelled_out.Goals as goal

pub returns : goal.returns
returns c = spelled_out parted
