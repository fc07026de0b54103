-- The corners of the triangles before a chunk are united. Assumes nothing.
use Rattle.std.proofs.Common.{◌≡◌, length}
use Rattle.part.specs.Forest.{Alike, Link}
use Rattle.part.specs.Passes.{Spoke}
use Rattle.part.proofs.number_corners.Given as goal

abbrev pub invariant-loop-a : goal.invariant-loop-a
invariant-loop-a l =
    Alike (Link l.trees.parents.now) (Spoke l.triangles l.a-index)
    × (l.trees.parents.ghost_name ≡ l.initial.trees.parents.ghost_name)
    × (length l.trees.parents.now ≡ length l.initial.trees.parents.now)
