-- The triangles before i are numbered. Assumes nothing.
use Rattle.part.proofs.Turns.{Turn}
use Rattle.part.proofs.give_numbers.Given as goal

abbrev pub invariant-loop-i : goal.invariant-loop-i
invariant-loop-i l = Turn l.initial.triangles l.triangles l.numbers l.count l.i
