use Rattle.std.proofs.Common.{ap}
use Rattle.theory.specs.Triangle.{corners}
use Rattle.checker.proofs.Chunks.{triangle_read}
use Rattle.checker.proofs.chains.corners_at.Goals as goal

pub returns : goal.returns
returns c = ap corners (triangle_read c.args.numbers.now c.as_chunks.result.0.now c.as_chunks.ensures.front c.args.i c.requires)
