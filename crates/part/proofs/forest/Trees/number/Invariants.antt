-- The corners below c are numbered. Assumes nothing.
use Rattle.part.proofs.Trees.{Numbering}
use Rattle.part.proofs.forest.Trees.number.Given as goal

abbrev pub invariant-loop-c : goal.invariant-loop-c
invariant-loop-c l = Numbering l.initial.parents l.parents l.c l.count
