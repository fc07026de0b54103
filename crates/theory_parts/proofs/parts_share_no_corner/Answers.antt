-- Triangles with a common corner are joined, at both sorts of corner. Assumes nothing.
use Rattle.std.proofs.Common.{eqb, refl}
use Rattle.std.proofs.lemmas.Bool.{eqb-true, eq-eqb}
use Rattle.theory.specs.Skin.{same}
use Rattle.theory.proofs.Same.{same_true, same_refl}
use Rattle.theory_parts.proofs.Joining.{corners_join, no_corner_in_two_parts}
use Rattle.theory_parts.proofs.parts_share_no_corner.Goals as goal

pub returns : goal.returns
returns c =
    record {
      numbers = (corners_join eqb eqb-true (λ n. eq-eqb n n refl), no_corner_in_two_parts eqb eqb-true (λ n. eq-eqb n n refl));
      edges = (corners_join same same_true same_refl, no_corner_in_two_parts same same_true same_refl);
    }
