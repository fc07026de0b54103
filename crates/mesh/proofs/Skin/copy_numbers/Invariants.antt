use Rattle.std.proofs.Common.{◌≡◌, ℕ, ◌+◌, ◌*◌, ◌<◌, get_or}
use Rattle.mesh.specs.Bytes.{number_at, triangles_from}
use Rattle.mesh.proofs.Skin.copy_numbers.Given as goal

abbrev pub invariant-loop-i : goal.invariant-loop-i
invariant-loop-i l = (k : ℕ) → k < l.i → get_or l.numbers k 0 ≡ number_at l.self.bytes.now (triangles_from l.self.bytes.now + 4 * k)
