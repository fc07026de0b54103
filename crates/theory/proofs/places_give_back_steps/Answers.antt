-- The three statements are proofs/Coordinates.antt's. Assumes nothing.
use Rattle.theory.proofs.places_give_back_steps.Goals as goal
use Rattle.theory.proofs.Coordinates.{step_known, strictly_within, either_end}

pub returns : goal.returns
returns c = record { known = step_known; within = strictly_within; turned = either_end }
