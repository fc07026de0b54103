use Rattle.std.proofs.Common.{◌≡◌, ℕ, ◌<◌, length, get_or}
use Rattle.theory.specs.Grid.{pt}
use Rattle.block.specs.Scan.{size_x, inside}
use Rattle.triangle.specs.Cubes.{face_bits}
use Rattle.triangle.proofs.scan.Scan.faces.Given as goal

-- the faces before this one are worked out
abbrev pub invariant-loop-x : goal.invariant-loop-x
invariant-loop-x l = record {
  long : length l.face-items ≡ size_x l.self.block.bytes.now;
  faces : (k : ℕ) → k < l.x → get_or l.face-items k 0 ≡ face_bits (inside l.self.block.bytes.now) (pt k l.y l.z);
}
