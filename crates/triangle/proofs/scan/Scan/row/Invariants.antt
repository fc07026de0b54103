use Rattle.std.proofs.Common.{◌≡◌, ℕ, ◌+◌, ◌/◌, ◌<◌, length, get_or}
use Rattle.block.specs.Scan.{size_x}
use Rattle.triangle.proofs.scan.Scan.row.Given as goal

-- the bits of the cubes before this one are worked out
abbrev pub invariant-loop-x : goal.invariant-loop-x
invariant-loop-x l = record {
  long : length l.cube-items + 1 ≡ size_x l.self.block.bytes.now;
  bits : (k : ℕ) → k < l.x → get_or l.cube-items k 0 ≡ get_or l.faces k 0 / 2 + get_or l.faces (k + 1) 0;
}
