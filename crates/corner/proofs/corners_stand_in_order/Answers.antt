-- The corners before the next one are three numbers each, so they end where it begins. Assumes nothing.
use Rattle.std.proofs.Common.{◌≡◌, ◌+◌, ◌*◌, List, [], ◌∷◌, ◌++◌, length, drop, sym, refl, ap, ◌∙◌, ap₂, append_assoc, arith, length-append, take_at}
use Rattle.std.proofs.lemmas.List.{flat_map_more}
use Rattle.std.proofs.lemmas.Slice.{drop-append-drop}
use Rattle.std.specs.List.{flat_map}
use Rattle.theory.specs.Grid.{pt}
use Rattle.theory.specs.Places.{Place}
use Rattle.corner.specs.Buffer.{coordinates}
use Rattle.corner.proofs.corners_stand_in_order.Goals as goal

length_coordinates : (ss : List Place) → length (flat_map coordinates ss) ≡ 3 * length ss
length_coordinates [] = refl
length_coordinates (pt x y z ∷ ss) = let e = length_coordinates ss in omega arith

pub returns : goal.returns
returns c cs ss s =
    let before = flat_map coordinates ss in
    let n = 3 * length ss in
    let long = length_coordinates ss in
    let more : n + 3 ≡ 3 * length (ss ++ s ∷ []) = omega (arith, length-append ss (s ∷ [])) in
    ap₂ (λ l r. l ++ (coordinates s ++ r)) (take_at before (drop n cs) n long) (drop-append-drop n cs before (n + 3) (omega arith) long ∙ ap (λ m. drop m cs) more)
    ∙ sym (append_assoc before (coordinates s) _)
    ∙ ap (λ l. l ++ drop (3 * length (ss ++ s ∷ [])) cs) (flat_map_more coordinates [] ss s)
