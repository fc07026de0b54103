use Rattle.std.proofs.Common.{◌≡◌}
use Rattle.checker.specs.Passes.{CountsOut, CountsIn}
use Rattle.checker.proofs.Walking.{Along}
use Rattle.checker.proofs.sides.Tally.count.Given as goal

-- the triangles before the one that the walk is at are counted
abbrev pub invariant-loop-step : goal.invariant-loop-step
invariant-loop-step l = record {
  chains_are : l.self.chains.now ≡ l.initial.self.chains.now;
  along : Along l.initial.self.chains.now l.corner l.step-iterator;
  out : CountsOut l.initial.self.chains.now.numbers.now l.corner l.step-iterator.at l.self.outs.now;
  into : CountsIn l.initial.self.chains.now.numbers.now l.corner l.step-iterator.at l.self.ins.now;
}
