use Rattle.theory.specs.Grid.{pt}
use Rattle.triangle.specs.Passes.{GoesOn}
use Rattle.triangle.proofs.scan.Scan.walk_layer.Given as goal

-- the rows before this one are gone over
abbrev pub invariant-loop-y : goal.invariant-loop-y
invariant-loop-y g l = GoesOn g.P.Pass.has l.self.block.bytes.now (pt 0 0 l.z) (pt 0 l.y l.z) l.fn.pass l.pass
