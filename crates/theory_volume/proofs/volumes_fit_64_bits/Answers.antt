-- The sizes are those of proofs/Sizes.antt and proofs/Steps.antt. Assumes nothing.
use Rattle.theory_volume.proofs.Sizes.{twelve_a_cube, sums_fit}
use Rattle.theory_volume.proofs.Steps.{steps_fit}
use Rattle.theory_volume.proofs.volumes_fit_64_bits.Goals as goal

pub returns : goal.returns
returns c = record { count = twelve_a_cube; sums = sums_fit; steps = steps_fit }
