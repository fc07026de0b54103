use Rattle.grid.proofs.Undone.{edges_numbered}
use Rattle.grid.proofs.edges_have_numbers.Goals as goal

pub returns : goal.returns
returns c = edges_numbered
