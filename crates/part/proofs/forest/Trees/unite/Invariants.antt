-- The two ways up are to be put into one tree; the corner that one has come to, or its parent, falls. Assumes nothing.
use Rattle.std.proofs.Common.{◌≡◌, ◌+◌, length}
use Rattle.part.specs.Forest.{parent}
use Rattle.part.proofs.Trees.{Joining}
use Rattle.part.proofs.forest.Trees.unite.Given as goal

abbrev pub invariant-loop-self : goal.invariant-loop-self
invariant-loop-self l =
    Joining l.initial.self.parents.now l.self.parents.now l.a l.b l.x l.y
    × (l.self.parents.ghost_name ≡ l.initial.self.parents.ghost_name)
    × (length l.self.parents.now ≡ length l.initial.self.parents.now)

abbrev pub decreases-loop-self : goal.decreases-loop-self
decreases-loop-self l = (l.x + parent l.self.parents.now l.x) + (l.y + parent l.self.parents.now l.y)
