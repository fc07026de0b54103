use Rattle.std.proofs.Common.{◌≡◌, None}
use Rattle.theory.specs.Grid.{pt}
use Rattle.block.specs.Scan.{byte_of, row, faults}
use Rattle.block.proofs.Block.check_row.Given as goal

-- the points before x are in order
abbrev pub invariant-loop-x : goal.invariant-loop-x
invariant-loop-x l = faults l.self.bytes.now (row l.x l.y l.z) (byte_of l.self.bytes.now (pt 0 l.y l.z)) ≡ None
