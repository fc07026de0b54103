-- A piece's triangles as closed data: over the offsets of its points they are the same wherever the cube stands, so one computed test
-- over the six pieces and the sixteen patterns of who is inside speaks of every skin. Assumes nothing.
use Rattle.std.proofs.Common.{◌≡◌, ℕ, suc, Bool, true, false, ◌&&◌, eqb, List, map, refl, ap₂, arith}
use mathlib.Core.Bool.{beq}
use Rattle.std.proofs.ByRecursion.{All-weaker}
use Rattle.std.proofs.lemmas.Bool.{eq-eqb, ne_eqb}
use Rattle.std.specs.List.{AllByRecursion}
use Rattle.theory.specs.Grid.{Point, pt, same_point, Offset, off, raised, ◌⊕◌, Piece, way, pieces}
use Rattle.theory.specs.Triangle.{Edge, edge, Tri}
use Rattle.theory.specs.Skin.{Corner, same, cut, in_piece}
use Rattle.theory.specs.Faces.{same_offset, renamed}
use Rattle.theory.proofs.Same.{cut_renamed, all, all_every, both, both_at}

-- the triangles in a piece over the offsets of its points, by who of these is inside, in the order of the way
abbrev pub by_bits : Bool → Bool → Bool → Bool → Piece → List (Tri (Edge Offset))
by_bits i j k l (way false a b c d) = cut i j k l a b c d
by_bits i j k l (way true a b c d) = cut i j l k a b d c

abbrev pub piece_cut : (Offset → Bool) → Piece → List (Tri (Edge Offset))
piece_cut g (way s a b c d) = by_bits (g a) (g b) (g c) (g d) (way s a b c d)

abbrev pub at : Point → Edge Offset → Corner
at p (edge a b) = edge (p ⊕ a) (p ⊕ b)

abbrev pub same_edge : Edge Offset → Edge Offset → Bool
same_edge (edge a b) (edge c d) = same_offset a c && same_offset b d

pub in_piece_at : (f : Point → Bool) (p : Point) (w : Piece) → in_piece f p w ≡ map (renamed (λ o. p ⊕ o)) (piece_cut (λ o. f (p ⊕ o)) w)
unfolding in_piece
in_piece_at f p (way false a b c d) = cut_renamed (λ o. p ⊕ o) (f (p ⊕ a)) (f (p ⊕ b)) (f (p ⊕ c)) (f (p ⊕ d)) a b c d
in_piece_at f p (way true a b c d) = cut_renamed (λ o. p ⊕ o) (f (p ⊕ a)) (f (p ⊕ b)) (f (p ⊕ d)) (f (p ⊕ c)) a b d c

eqb_raised : (a b : Bool) (n : ℕ) → eqb (raised a n) (raised b n) ≡ beq a b
eqb_raised false false n = eq-eqb n n refl
eqb_raised false true n = ne_eqb n (suc n) (λ e. omega arith)
eqb_raised true false n = ne_eqb (suc n) n (λ e. omega arith)
eqb_raised true true n = eq-eqb (suc n) (suc n) refl

pub same_point_at : (p : Point) (a b : Offset) → same_point (p ⊕ a) (p ⊕ b) ≡ same_offset a b
unfolding same_point
same_point_at (pt x y z) (off a b c) (off d e g) =
    ap₂ (λ u v. u && v) (eqb_raised a d x) (ap₂ (λ u v. u && v) (eqb_raised b e y) (eqb_raised c g z))

pub same_at : (p : Point) (c d : Edge Offset) → same (at p c) (at p d) ≡ same_edge c d
unfolding same
same_at p (edge a b) (edge c d) = ap₂ (λ u v. u && v) (same_point_at p a c) (same_point_at p b d)

-- a test of the triangles in a piece passes whoever is inside
abbrev pub whoever : (List (Tri (Edge Offset)) → Bool) → Piece → Bool
whoever t w = both (λ i. both (λ j. both (λ k. both (λ l. t (by_bits i j k l w)))))

pub both_four : (t : Bool → Bool → Bool → Bool → Bool) → both (λ i. both (λ j. both (λ k. both (t i j k)))) ≡ true →
    (i j k l : Bool) → t i j k l ≡ true
both_four t e i j k =
    let a = both_at (λ i. both (λ j. both (λ k. both (t i j k)))) e i in
    let b = both_at (λ j. both (λ k. both (t i j k))) a j in
    both_at (t i j k) (both_at (λ k. both (t i j k)) b k)

whoever_at : (t : List (Tri (Edge Offset)) → Bool) (w : Piece) → whoever t w ≡ true → (g : Offset → Bool) → t (piece_cut g w) ≡ true
whoever_at t (way s a b c d) e g = both_four (λ i j k l. t (by_bits i j k l (way s a b c d))) e (g a) (g b) (g c) (g d)

pub pattern_at : (t : Piece → List (Tri (Edge Offset)) → Bool) → all (λ w. whoever (t w) w) pieces ≡ true →
    (g : Offset → Bool) → AllByRecursion (λ w. t w (piece_cut g w) ≡ true) pieces
pattern_at t e g = All-weaker _ _ (λ w h. whoever_at (t w) w h g) pieces (all_every (λ w. whoever (t w) w) pieces e)
