use Rattle.std.proofs.Common.{◌≡◌, None}
use Rattle.theory.specs.Grid.{pt}
use Rattle.block.specs.Scan.{size_x, byte_of, layer, faults}
use Rattle.block.proofs.Block.check_layer.Given as goal

-- the rows before y are in order
abbrev pub invariant-loop-y : goal.invariant-loop-y
invariant-loop-y l = faults l.self.bytes.now (layer (size_x l.self.bytes.now) l.y l.z) (byte_of l.self.bytes.now (pt 0 0 l.z)) ≡ None
