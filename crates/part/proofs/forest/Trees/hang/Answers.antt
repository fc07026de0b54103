-- The former parent is left to unite, unless the corner was a root. Assumes nothing.
use Rattle.std.proofs.Common.{arith}
use Rattle.part.proofs.Trees.{moved_alike, moved_root}
use Rattle.part.proofs.forest.Trees.hang.Goals as goal

pub returns-then-parent-corner-clause-alike : goal.returns-then-parent-corner-clause-alike
returns-then-parent-corner-clause-alike c = moved_root _ c.args.to c.args.corner (omega arith) c.if-parent-corner.true

pub returns-else-parent-corner-clause-alike : goal.returns-else-parent-corner-clause-alike
returns-else-parent-corner-clause-alike c = moved_alike _ c.args.to c.args.corner (omega arith)
