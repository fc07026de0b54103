-- No triangle of a skin has a corner twice: one test of the pieces' patterns says so. Assumes nothing.
use Rattle.std.proofs.Common.{◌≡◌, Bool, true, not, ◌&&◌, List, [], ◌∷◌, map, sym, refl, ◌∙◌, subst}
use Rattle.std.proofs.ByRecursion.{All-weaker}
use Rattle.std.proofs.lemmas.Bool.{and_parts, not-true}
use Rattle.std.specs.List.{AllByRecursion}
use Rattle.theory.specs.Grid.{Point, Offset, ◌⊕◌, Piece, pieces}
use Rattle.theory.specs.Triangle.{Edge, edge, Tri, tri}
use Rattle.theory.specs.Skin.{same, in_piece}
use Rattle.theory.specs.Faces.{renamed}
use Rattle.theory.specs.Closed.{ThreeCorners, WholeTriangles}
use Rattle.theory.proofs.Sums.{every_skin}
use Rattle.theory.proofs.Same.{all, all_every}
use Rattle.theory.proofs.Patterns.{piece_cut, same_edge, in_piece_at, same_at, whoever, pattern_at}

three : Tri (Edge Offset) → Bool
three (tri a b e) = not (same_edge a b) && (not (same_edge b e) && not (same_edge e a))

three_everywhere : all (whoever (all three)) pieces ≡ true
unfolding three
three_everywhere = refl

three_at : (p : Point) (t : Tri (Edge Offset)) → three t ≡ true → ThreeCorners same (renamed (λ o. p ⊕ o) t)
unfolding three
three_at p (tri (edge a b) (edge c d) (edge e g)) h =
    let u = and_parts (not (same_edge (edge a b) (edge c d))) _ h in
    let v = and_parts (not (same_edge (edge c d) (edge e g))) _ u.1 in (
      same_at p (edge a b) (edge c d) ∙ not-true _ u.0,
      same_at p (edge c d) (edge e g) ∙ not-true _ v.0,
      same_at p (edge e g) (edge a b) ∙ not-true _ v.1,
    )

every_map : {A B : Type 0} (P : B → Type 0) (g : A → B) (xs : List A) → AllByRecursion (λ x. P (g x)) xs → AllByRecursion P (map g xs)
every_map P g [] h = tt
every_map P g (x ∷ xs) h = (h.0, every_map P g xs h.1)

pub whole_triangles : WholeTriangles
whole_triangles f x y z =
    every_skin (ThreeCorners same) f x y z
    (λ p. All-weaker _ _ (one p) pieces (pattern_at (λ w. all three) three_everywhere (λ o. f (p ⊕ o))))
  where
    one : (p : Point) (w : Piece) → all three (piece_cut (λ o. f (p ⊕ o)) w) ≡ true → AllByRecursion (ThreeCorners same) (in_piece f p w)
    one p w h =
        subst (AllByRecursion (ThreeCorners same)) (sym (in_piece_at f p w))
        (every_map (ThreeCorners same) (renamed (λ o. p ⊕ o)) _
        (All-weaker _ _ (three_at p) _ (all_every three (piece_cut (λ o. f (p ⊕ o)) w) h)))
