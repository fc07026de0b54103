use Rattle.grid.proofs.Ends.{ends_joined}
use Rattle.grid.proofs.edges_have_ends.Goals as goal

pub returns : goal.returns
returns c = ends_joined
