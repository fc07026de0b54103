use Rattle.theory.specs.Grid.{pt}
use Rattle.triangle.specs.Passes.{GoesOn}
use Rattle.triangle.proofs.scan.Scan.walk_row.Given as goal

-- the cubes before this one are gone over
abbrev pub invariant-loop-x : goal.invariant-loop-x
invariant-loop-x g l = GoesOn g.P.Pass.has l.self.block.bytes.now (pt 0 l.y l.z) (pt l.x l.y l.z) l.fn.pass l.pass
