-- A piece whose points change sides has the same triangles, seen from the other side. Assumes nothing.
use Rattle.std.proofs.Common.{◌≡◌, ℕ, Bool, true, false, not, [], sym, refl, ap, ◌∙◌, arith}
use mathlib.Core.Path.{fun_ext}
use Rattle.std.proofs.lemmas.List.{nil_from_length}
use Rattle.theory.specs.Grid.{Point, Piece, way, ◌⊕◌, pieces}
use Rattle.theory.specs.Triangle.{Edge, Tri, sum_of}
use Rattle.theory.specs.Skin.{Triangle, cut, in_piece}
use Rattle.theory.specs.Faces.{over_cubes}
use Rattle.theory.proofs.Sums.{sum_same, sum_ones, sum_skin, sum_cube}
use Rattle.theory.proofs.Pieces.{Four, four, each, cut_four}
use Rattle.theory_parts.specs.Regions.{inside_out, Turned}

cut_turned :
    {P : Type 0} (h : Tri (Edge P) → ℕ) (a b c d : Bool) (p0 p1 p2 p3 : P) →
    sum_of h (cut (not a) (not b) (not c) (not d) p0 p1 p2 p3) ≡ sum_of (λ t. h (inside_out t)) (cut a b c d p0 p1 p2 p3)
cut_turned h false false false false p0 p1 p2 p3 = refl
cut_turned h true false false false p0 p1 p2 p3 = refl
cut_turned h false true false false p0 p1 p2 p3 = refl
cut_turned h false false true false p0 p1 p2 p3 = refl
cut_turned h false false false true p0 p1 p2 p3 = refl
cut_turned h true true false false p0 p1 p2 p3 = omega arith
cut_turned h true false true false p0 p1 p2 p3 = omega arith
cut_turned h false true true false p0 p1 p2 p3 = omega arith
cut_turned h true false false true p0 p1 p2 p3 = omega arith
cut_turned h false true false true p0 p1 p2 p3 = omega arith
cut_turned h false false true true p0 p1 p2 p3 = omega arith
cut_turned h true true true false p0 p1 p2 p3 = refl
cut_turned h true true false true p0 p1 p2 p3 = refl
cut_turned h true false true true p0 p1 p2 p3 = refl
cut_turned h false true true true p0 p1 p2 p3 = refl
cut_turned h true true true true p0 p1 p2 p3 = refl

piece_turned :
    (g : Point → Bool) (h : Triangle → ℕ) (l : Point) (w : Piece) →
    sum_of h (in_piece (λ p. not (g p)) l w) ≡ sum_of (λ t. h (inside_out t)) (in_piece g l w)
unfolding in_piece
piece_turned g h l (way false a b c d) = cut_turned h (g (l ⊕ a)) (g (l ⊕ b)) (g (l ⊕ c)) (g (l ⊕ d)) _ _ _ _
piece_turned g h l (way true a b c d) = cut_turned h (g (l ⊕ a)) (g (l ⊕ b)) (g (l ⊕ d)) (g (l ⊕ c)) _ _ _ _

-- where a piece has no triangle, it has none with inside and outside exchanged
pub cut_none : {P : Type 0} (b : Four Bool) (q : Four P) → cut_four b q ≡ [] → cut_four (each not b) q ≡ []
cut_none (four a b c d) (four p0 p1 p2 p3) e =
    nil_from_length _ (sym (sum_ones _) ∙ cut_turned (λ t. 1) a b c d p0 p1 p2 p3 ∙ ap (sum_of (λ t. 1)) e)

pub turned : Turned
turned g x y z h =
    sum_skin h (λ p. not (g p)) x y z
    ∙ ap (over_cubes x y z) (fun_ext (λ l.
    sum_cube h (λ p. not (g p)) l ∙ sum_same _ _ (piece_turned g h l) pieces ∙ sym (sum_cube (λ t. h (inside_out t)) g l)))
    ∙ sym (sum_skin (λ t. h (inside_out t)) g x y z)
