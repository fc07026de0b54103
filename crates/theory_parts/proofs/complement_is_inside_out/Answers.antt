-- The complement has the same skin inside out. Assumes nothing.
use Rattle.theory_parts.proofs.Turning.{turned}
use Rattle.theory_parts.proofs.complement_is_inside_out.Goals as goal

pub returns : goal.returns
returns c = turned
