-- Each block's skin is computed and counted. Assumes nothing.
use Rattle.std.proofs.Common.{arith}
use Rattle.theory.proofs.worked_blocks.Goals as goal
use Rattle.theory.specs.Grid.{same_point}
use Rattle.theory.specs.Skin.{same, in_piece, cube, skin}

pub returns : goal.returns
unfolding same_point same in_piece cube skin
returns c = omega arith
