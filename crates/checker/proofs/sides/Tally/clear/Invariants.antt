use Rattle.std.proofs.Common.{◌≡◌}
use Rattle.checker.proofs.Counting.{LeftOut, LeftIn}
use Rattle.checker.proofs.Walking.{Along}
use Rattle.checker.proofs.sides.Tally.clear.Given as goal

-- what is left of the counts comes from triangles that are still to come
abbrev pub invariant-loop-step : goal.invariant-loop-step
invariant-loop-step l = record {
  chains_are : l.self.chains.now ≡ l.initial.self.chains.now;
  along : Along l.initial.self.chains.now l.corner l.step-iterator;
  out : LeftOut l.initial.self.chains.now.numbers.now l.corner l.step-iterator.at l.self.outs.now;
  into : LeftIn l.initial.self.chains.now.numbers.now l.corner l.step-iterator.at l.self.ins.now;
}
