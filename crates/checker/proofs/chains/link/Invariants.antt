use Rattle.std.proofs.Common.{◌≤◌}
use Rattle.theory_parts.specs.Buffer.{count_in}
use Rattle.checker.specs.Chained.{Chained}
use Rattle.checker.proofs.chains.link.Given as goal

abbrev pub invariant-loop-i : goal.invariant-loop-i
invariant-loop-i l = (l.i ≤ count_in l.numbers) × Chained l.numbers l.heads l.nexts l.i

abbrev pub decreases-loop-i : goal.decreases-loop-i
decreases-loop-i l = l.i
