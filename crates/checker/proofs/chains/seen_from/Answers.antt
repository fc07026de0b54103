use Rattle.std.proofs.Common.{rules}
use Rattle.checker.specs.Chained.{seen_from}
use Rattle.checker.proofs.chains.seen_from.Goals as goal

pub returns-then-a-corner : goal.returns-then-a-corner
unfolding seen_from
returns-then-a-corner c = search rules

pub returns-then-b-corner : goal.returns-then-b-corner
unfolding seen_from
returns-then-b-corner c = search rules

pub returns-else-b-corner : goal.returns-else-b-corner
unfolding seen_from
returns-else-b-corner c = search rules
