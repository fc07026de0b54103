use Rattle.std.proofs.Common.{◌≡◌, ◌*◌, ◌++◌, take, drop}
use Rattle.std.specs.List.{flat_map}
use Rattle.mesh.specs.Written.{low_bytes}
use Rattle.mesh.proofs.put_low_bytes.Given as goal

-- the numbers before i are written, and the rest of the buffer is as it was
abbrev pub invariant-loop-i : goal.invariant-loop-i
invariant-loop-i g l = l.out ≡ flat_map (low_bytes g.row.N) (take l.i l.numbers) ++ drop (g.row.N * l.i) l.initial.out
