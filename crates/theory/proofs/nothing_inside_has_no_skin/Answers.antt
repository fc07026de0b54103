-- Where nothing is inside, each piece is cut as four points outside are, and has no triangle. Assumes nothing.
use Rattle.std.proofs.Common.{◌≡◌, ℕ, zero, suc, false, List, [], ◌++◌, refl, ap, ◌∙◌, ap₂}
use mathlib.Core.Path.{fun_ext}
use Rattle.theory.proofs.nothing_inside_has_no_skin.Goals as goal
use Rattle.theory.specs.Skin.{in_piece, cube, below, skin}

below_empty : {A : Type 0} (n : ℕ) (h : ℕ → List A) → ((i : ℕ) → h i ≡ []) → below n h ≡ []
below_empty zero h e = refl
below_empty (suc n) h e = ap₂ ◌++◌ (below_empty n h e) (e n)

skin_empty : (x y z : ℕ) → skin (λ _. false) x y z ≡ []
unfolding skin cube in_piece
skin_empty x y z = below_empty z _ (λ k. below_empty y _ (λ j. below_empty x _ (λ i. refl)))

pub returns : goal.returns
returns c f x y z e = ap (λ g. skin g x y z) (fun_ext e) ∙ skin_empty x y z
