use Rattle.std.proofs.Common.{◌≡◌, ℕ, ◌+◌, ◌<◌, length, slice_index}
use Rattle.mesh.proofs.bytes_at.Given as goal

abbrev pub invariant-loop-k : goal.invariant-loop-k
invariant-loop-k g l = record {
  long : length l.byte-items ≡ g.row.N;
  read : (j : ℕ) → j < l.k → slice_index l.byte-items j ≡ slice_index l.bytes (l.at + j);
}
