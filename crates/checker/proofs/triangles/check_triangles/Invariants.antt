use Rattle.theory_parts.specs.Buffer.{triangle_at}
use Rattle.checker.specs.Verdict.{Sound, All}
use Rattle.checker.proofs.triangles.check_triangles.Given as goal

-- the triangles before i are sound
abbrev pub invariant-loop-i : goal.invariant-loop-i
invariant-loop-i l = All (λ i. Sound l.corners (triangle_at l.numbers i)) l.i
