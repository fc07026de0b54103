use Rattle.mesh.specs.Bytes.{part_count, triangles_in as numbers_in}
use Rattle.theory_parts.specs.Buffer.{parts_in}
use Rattle.checker.specs.Verdict.{All}
use Rattle.checker.specs.Passes.{SameNumber}
use Rattle.checker.proofs.parts.compare_parts.Given as goal

-- the numbers of the triangles before i are the same
abbrev pub invariant-loop-i : goal.invariant-loop-i
invariant-loop-i l = All (SameNumber (numbers_in l.skin.bytes.now) (part_count l.skin.bytes.now) (parts_in l.numbers) l.parts) l.i
