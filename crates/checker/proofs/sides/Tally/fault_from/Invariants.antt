use Rattle.theory_parts.specs.Buffer.{triangle_at, triangles_in}
use Rattle.checker.specs.Verdict.{All}
use Rattle.checker.specs.Passes.{MatchedFrom}
use Rattle.checker.proofs.Walking.{Along}
use Rattle.checker.proofs.sides.Tally.fault_from.Given as goal

-- no triangle before the one that the walk is at has a side from the corner in fault
abbrev pub invariant-loop-step : goal.invariant-loop-step
invariant-loop-step l = record {
  along : Along l.self.chains.now l.corner l.step-iterator;
  fine : All (λ k. MatchedFrom (triangles_in l.self.chains.now.numbers.now) l.corner (triangle_at l.self.chains.now.numbers.now k)) l.step-iterator.at;
}
