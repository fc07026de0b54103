-- The triangles before i hold the numbers of their first corners, which came in turn if none was seen that did not. Assumes nothing.
use Rattle.std.proofs.Common.{◌≡◌, ℕ, ◌*◌, ◌<◌, ◌≤◌, IfSome, length, get_or}
use Rattle.theory_parts.specs.Parts.{InTurn}
use Rattle.theory_parts.specs.Buffer.{part_at, first_parts}
use Rattle.part.specs.Passes.{SameCorners}
use Rattle.part.proofs.write_numbers.Given as goal

abbrev pub invariant-loop-i : goal.invariant-loop-i
invariant-loop-i l =
    SameCorners l.initial.triangles l.triangles
    × ((k : ℕ) → k < l.i → part_at l.triangles k ≡ get_or l.numbers (get_or l.initial.triangles (4 * k) 0) 0)
    × IfSome l.count (λ n. InTurn 0 (first_parts l.triangles l.i) n × (n ≤ length l.numbers))
