use Rattle.std.proofs.Common.{◌≡◌, ℕ, ◌<◌, ◌≤◌}
use Rattle.theory_parts.specs.Buffer.{triangle_at, count_in, triangles_in}
use Rattle.checker.specs.Verdict.{Matched, All}
use Rattle.checker.specs.Passes.{Clear, MatchedFrom}
use Rattle.checker.proofs.sides.check_sides.Given as goal

-- the sides from the corners before this one are matched in all triangles before `worst`, which has a side in fault
abbrev pub invariant-loop-corner : goal.invariant-loop-corner
invariant-loop-corner l = record {
  chains_are : l.tally.chains.now ≡ l.chains;
  out : Clear l.tally.outs.now;
  into : Clear l.tally.ins.now;
  most : l.worst ≤ count_in l.chains.numbers.now;
  fault : l.worst < count_in l.chains.numbers.now → Matched (triangles_in l.chains.numbers.now) (triangle_at l.chains.numbers.now l.worst) → ⊥;
  fine : (d : ℕ) → d < l.corner → All (λ k. MatchedFrom (triangles_in l.chains.numbers.now) d (triangle_at l.chains.numbers.now k)) l.worst;
}
