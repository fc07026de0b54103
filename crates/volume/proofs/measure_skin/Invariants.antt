use Rattle.std.proofs.Common.{◌≡◌, length}
use Rattle.volume.specs.Measure.{all_measured}
use Rattle.volume.proofs.measure_skin.Given as goal

-- the triangles before t are added up
abbrev pub invariant-loop-t : goal.invariant-loop-t
invariant-loop-t l = l.parts ≡ all_measured l.fn.corners l.fn.triangles l.t-index (length l.fn.parts)
