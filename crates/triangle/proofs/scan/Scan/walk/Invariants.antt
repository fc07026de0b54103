use Rattle.theory.specs.Grid.{pt}
use Rattle.triangle.specs.Passes.{GoesOn}
use Rattle.triangle.proofs.scan.Scan.walk.Given as goal

-- the layers before this one are gone over
abbrev pub invariant-loop-z : goal.invariant-loop-z
invariant-loop-z g l = GoesOn g.P.Pass.has l.self.block.bytes.now (pt 0 0 0) (pt 0 0 l.z) l.fn.pass l.pass
