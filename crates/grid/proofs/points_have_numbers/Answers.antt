use Rattle.grid.proofs.Undone.{points_numbered}
use Rattle.grid.proofs.points_have_numbers.Goals as goal

pub returns : goal.returns
returns c = points_numbered
