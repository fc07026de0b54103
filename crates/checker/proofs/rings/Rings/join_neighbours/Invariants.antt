use Rattle.std.proofs.Common.{◌≡◌, eqb}
use Rattle.theory.specs.Triangle.{has}
use Rattle.checker.specs.Passes.{before, Joined}
use Rattle.checker.proofs.Walking.{Along}
use Rattle.checker.proofs.rings.Rings.join_neighbours.Given as goal

-- the triangles before the one that the walk is at are joined and counted
abbrev pub invariant-loop-step : goal.invariant-loop-step
invariant-loop-step l = record {
  chains_are : l.self.chains.now ≡ l.initial.self.chains.now;
  along : Along l.initial.self.chains.now l.corner l.step-iterator;
  joined : Joined l.initial.self.chains.now.numbers.now l.corner l.step-iterator.at l.self.follow.now;
  many : l.around ≡ before l.initial.self.chains.now.numbers.now l.step-iterator.at (has eqb l.corner);
}
