use Rattle.std.proofs.Common.{◌≡◌, None}
use Rattle.theory.specs.Skin.{below}
use Rattle.block.specs.Scan.{size_x, size_y, layer, faults}
use Rattle.block.proofs.Block.check_values.Given as goal

-- the layers before z are in order
abbrev pub invariant-loop-z : goal.invariant-loop-z
invariant-loop-z l = faults l.self.bytes.now (below l.z (layer (size_x l.self.bytes.now) (size_y l.self.bytes.now))) 4 ≡ None
