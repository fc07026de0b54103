use Rattle.std.proofs.Common.{rules, ◌≡◌, ◌∙◌, ◌&&◌, List, [], ◌∷◌, refl, ap, ℕ, nat_lt}
use borrow.Author.Tests.{tests}
use Rattle.std.specs.List.{list_all}
use Rattle.std.proofs.lemmas.Iterator.{YieldsList-from_slice}
use Rattle.std.proofs.lemmas.Iterator.Search.{all_from_yields_List}
use Rattle.mesh.specs.Written.{all_below}
use Rattle.mesh.proofs.all_short.Goals as goal

below_all : (bound : ℕ) (xs : List ℕ) → list_all (λ x. nat_lt x bound) xs ≡ all_below bound xs
below_all bound [] = refl
below_all bound (x ∷ xs) = ap (λ b. nat_lt x bound && b) (below_all bound xs)

pub returns : goal.returns
returns c =
    all_from_yields_List (λ x. nat_lt x 65536) _ _ c.all.result c.all.ensures.ran (YieldsList-from_slice c.args.coordinates.now cc) (λ x b q k. search (rules, tests))
    ∙ below_all 65536 c.args.coordinates.now
