-- What can be measured in so many parts is bounded. Assumes nothing.
use Rattle.std.proofs.Common.{sym, length}
use Rattle.volume.proofs.Tests.{measurable_bounded}
use Rattle.volume.proofs.measure.Goals as goal

pub measure_skin-requires : goal.measure_skin-requires
measure_skin-requires c = record { bounded = measurable_bounded c.args.corners.now c.args.triangles.now (length c.args.parts.now) (sym c.if-not-measurable.ensures.value) }
