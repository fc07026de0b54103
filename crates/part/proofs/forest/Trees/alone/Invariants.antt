-- Each number below c is a root. Assumes nothing.
use Rattle.std.proofs.Common.{◌≡◌, ℕ, ◌<◌}
use Rattle.part.specs.Forest.{parent}
use Rattle.part.proofs.forest.Trees.alone.Given as goal

abbrev pub invariant-loop-c : goal.invariant-loop-c
invariant-loop-c l = (a : ℕ) → a < l.c → parent l.parents a ≡ a
