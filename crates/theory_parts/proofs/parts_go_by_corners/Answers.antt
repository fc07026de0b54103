-- Joined is linked, at both sorts of corner. Assumes nothing.
use Rattle.std.proofs.Common.{eqb, refl}
use Rattle.std.proofs.lemmas.Bool.{eqb-true, eq-eqb}
use Rattle.theory.specs.Skin.{same}
use Rattle.theory.proofs.Same.{same_true, same_refl}
use Rattle.theory_parts.proofs.Joining.{joined_as_linked}
use Rattle.theory_parts.proofs.parts_go_by_corners.Goals as goal

pub returns : goal.returns
returns c =
    record { numbers = joined_as_linked eqb eqb-true (λ n. eq-eqb n n refl); edges = joined_as_linked same same_true same_refl }
