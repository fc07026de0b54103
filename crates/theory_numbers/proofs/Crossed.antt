-- A cube has each edge from a point inside to a point outside that ends at its highest point, and its corners reach no further than that.
-- Assumes nothing.
use Rattle.std.proofs.Common.{◌≡◌, ℕ, suc, ◌<◌, ◌≤◌, max, Bool, true, false, not, ◌&&◌, ◌||◌, ltb, ◌⊎◌, sym, refl, ap, ◌∙◌, subst, subst₂, inl, inr, arith}
use native.Mathlib.Nat.{max_comm}
use Rattle.std.proofs.ByRecursion.{All-map}
use Rattle.std.proofs.lemmas.Bool.{and_from, or_cases, not-true, not_from_false, both_ways, ltb-true}
use Rattle.std.specs.List.{AllByRecursion}
use Rattle.theory.specs.Grid.{Point, pt, Offset, off, lowest, +x, +y, +z, +xy, +xz, +yz, highest, raised, ◌⊕◌, Piece, way, pieces}
use Rattle.theory.specs.Triangle.{Edge, edge, Tri, tri, sum_of, has, with_corner, corners}
use Rattle.theory.specs.Skin.{Corner, same, in_piece, cube}
use Rattle.theory.specs.Faces.{Name, n0, n1, n2, n3, renamed}
use Rattle.theory.specs.Closed.{Neighbours}
use Rattle.theory.proofs.Sums.{sum_map, sum_same, sum_cube, every_joined}
use Rattle.theory.proofs.Patterns.{same_edge, same_at, in_piece_at, at as placed}
use Rattle.theory.proofs.Walks.{every_all}
use Rattle.theory.proofs.Pieces.{Four, at, each, at_each, any_bits, any_bits_at, any_name, any_name_at, named, cut_four, cut_each, in_piece_four}
use Rattle.theory.proofs.Crossings.{corner_of}
use Rattle.theory_numbers.specs.Order.{upper, higher, EndsAtTop}
use Rattle.theory_numbers.proofs.Cubes.{raised_between}
use Rattle.theory_numbers.proofs.Kept.{AllCorners}

-- if of two points of a piece the first is inside and the second is not, one of its triangles has the edge between them
crossed : Piece → Four Bool → Name → Name → Bool
crossed w b i j =
    not (at b i && not (at b j)) || ltb 0 (with_corner same_edge (edge (at (named w) i) (at (named w) j)) (cut_four b (named w)))

abbrev passes : Piece → Bool
passes w = any_bits (λ b. any_name (λ i. any_name (crossed w b i)))

has_at : (l : Point) (c : Edge Offset) (t : Tri (Edge Offset)) → has same (placed l c) (renamed (λ o. l ⊕ o) t) ≡ has same_edge c t
unfolding has
has_at l c (tri (edge a b) (edge d e) (edge g h)) =
    rw (same_at l (edge a b) c, same_at l (edge d e) c, same_at l (edge g h) c)

in_piece_has :
    (f : Point → Bool) (l : Point) (w : Piece) → passes w ≡ true → (i j : Name) →
    f (l ⊕ at (named w) i) ≡ true → f (l ⊕ at (named w) j) ≡ false →
    0 < with_corner same (edge (l ⊕ at (named w) i) (l ⊕ at (named w) j)) (in_piece f l w)
unfolding crossed
in_piece_has f l w e i j p q =
    let b = each (λ o. f (l ⊕ o)) (named w) in
    let c = edge (at (named w) i) (at (named w) j) in
    let k = any_bits_at (λ b. any_name (λ i. any_name (crossed w b i))) e b in
    let t = any_name_at (crossed w b i) (any_name_at (λ i. any_name (crossed w b i)) k i) j in
    subst (λ n. 0 < n)
    (sym (ap (with_corner same (placed l c)) (in_piece_four f l w ∙ cut_each (λ o. l ⊕ o) f (named w))
    ∙ sum_map (has same (placed l c)) (renamed (λ o. l ⊕ o)) (cut_four b (named w)) ∙ sum_same _ _ (has_at l c) (cut_four b (named w))))
    (elim (or_cases (not (at b i && not (at b j))) _ t) [
      | inl n ↦ absurd (both_ways _ (not-true _ n)
          (and_from _ _ (at_each (λ o. f (l ⊕ o)) (named w) i ∙ p) (not_from_false _ (at_each (λ o. f (l ⊕ o)) (named w) j ∙ q))))
      | inr h ↦ ltb-true 0 _ h
    ])

-- a piece that has the edge from a point of the cube to its highest, n3, and the first's name there
abbrev spot : Offset → Piece × Name
spot (off false false false) = (way false lowest +x +xy highest, n0)
spot (off true false false) = (way false lowest +x +xy highest, n1)
spot (off true true false) = (way false lowest +x +xy highest, n2)
spot (off false true false) = (way false lowest +y +yz highest, n1)
spot (off false true true) = (way false lowest +y +yz highest, n2)
spot (off false false true) = (way false lowest +z +xz highest, n1)
spot (off true false true) = (way false lowest +z +xz highest, n2)
spot (off true true true) = (way false lowest +z +xz highest, n3)

record Spot (a : Offset) (w : Piece) (i : Name) : Type 0 where
  first : at (named w) i ≡ a
  top : at (named w) n3 ≡ highest
  right : passes w ≡ true
  among : (h : Piece → ℕ) → h w ≤ sum_of h pieces

spotted : (a : Offset) → Spot a (spot a).0 (spot a).1
unfolding crossed has
spotted (off false false false) = record { first = refl; top = refl; right = refl; among = λ h. omega arith }
spotted (off true false false) = record { first = refl; top = refl; right = refl; among = λ h. omega arith }
spotted (off true true false) = record { first = refl; top = refl; right = refl; among = λ h. omega arith }
spotted (off false true false) = record { first = refl; top = refl; right = refl; among = λ h. omega arith }
spotted (off false true true) = record { first = refl; top = refl; right = refl; among = λ h. omega arith }
spotted (off false false true) = record { first = refl; top = refl; right = refl; among = λ h. omega arith }
spotted (off true false true) = record { first = refl; top = refl; right = refl; among = λ h. omega arith }
spotted (off true true true) = record { first = refl; top = refl; right = refl; among = λ h. omega arith }

-- an edge between a point of the cube and its highest, from inside to outside, is a corner of the cube
module _ (f : Point → Bool) (l : Point) (a : Offset) where
  in_spot : (c : Corner) → 0 < with_corner same c (in_piece f l (spot a).0) → 0 < with_corner same c (cube f l)
  in_spot c h = omega (arith, sum_cube (has same c) f l, (spotted a).among (λ w. with_corner same c (in_piece f l w)))

  up_to_top : f (l ⊕ a) ≡ true → f (l ⊕ highest) ≡ false → 0 < with_corner same (edge (l ⊕ a) (l ⊕ highest)) (cube f l)
  up_to_top =
      subst₂ (λ a t. f (l ⊕ a) ≡ true → f (l ⊕ t) ≡ false → 0 < with_corner same (edge (l ⊕ a) (l ⊕ t)) (cube f l))
      (spotted a).first (spotted a).top
      (λ p q. in_spot _ (in_piece_has f l (spot a).0 (spotted a).right (spot a).1 n3 p q))

  down_from_top : f (l ⊕ highest) ≡ true → f (l ⊕ a) ≡ false → 0 < with_corner same (edge (l ⊕ highest) (l ⊕ a)) (cube f l)
  down_from_top =
      subst₂ (λ a t. f (l ⊕ t) ≡ true → f (l ⊕ a) ≡ false → 0 < with_corner same (edge (l ⊕ t) (l ⊕ a)) (cube f l))
      (spotted a).first (spotted a).top
      (λ p q. in_spot _ (in_piece_has f l (spot a).0 (spotted a).right n3 (spot a).1 p q))

max_raised : (a b : Bool) (n : ℕ) → max (raised a n) (raised b n) ≡ raised (a || b) n
max_raised false false n = omega arith
max_raised false true n = omega arith
max_raised true false n = omega arith
max_raised true true n = omega arith

pub upper_at : (l : Point) (a b : Offset) → upper (edge (l ⊕ a) (l ⊕ b)) ≡ l ⊕ higher a b
upper_at (pt x y z) (off a b c) (off d e g) = λ i. pt (max_raised a d x i) (max_raised b e y i) (max_raised c g z i)

pub ends_at_top : EndsAtTop
ends_at_top (pt x y z) (off a b c) (off d e g) = (
  λ t.
      let s = sym (upper_at (pt x y z) (off a b c) (off d e g)) ∙ t in
      let p : raised (a || d) x ≡ suc x = cc in let q : raised (b || e) y ≡ suc y = cc in let r : raised (c || g) z ≡ suc z = cc in
      λ i. off (step (a || d) x p i) (step (b || e) y q i) (step (c || g) z r i),
  λ t. upper_at (pt x y z) (off a b c) (off d e g) ∙ ap (λ o. pt x y z ⊕ o) t,
)
  where
    step : (b : Bool) (n : ℕ) → raised b n ≡ suc n → b ≡ true
    step true n e = refl
    step false n e = absurd (omega arith)

pub upper_up : (p : Point) (o : Offset) → upper (edge p (p ⊕ o)) ≡ p ⊕ o
upper_up (pt x y z) (off a b c) = upper_at (pt x y z) lowest (off a b c)

upper_turned : (p q : Point) → upper (edge p q) ≡ upper (edge q p)
upper_turned (pt a b c) (pt d e g) = λ i. pt (max_comm a d i) (max_comm b e i) (max_comm c g i)

pub upper_down : (p : Point) (o : Offset) → upper (edge (p ⊕ o) p) ≡ p ⊕ o
upper_down p o = upper_turned (p ⊕ o) p ∙ upper_up p o

-- the upper end is one of the ends
abbrev pub Ends : Corner → Point → Point → Type 0
Ends c p q = (upper c ≡ p) ⊎ (upper c ≡ q)

pub upper_end : (p q : Point) → Neighbours p q → Ends (edge p q) p q
upper_end p q (o, _, inl e) = inr (ap (λ q. upper (edge p q)) e ∙ upper_up p o ∙ sym e)
upper_end p q (o, _, inr e) = inl (ap (λ p. upper (edge p q)) e ∙ upper_down q o ∙ sym e)

abbrev opposite : Offset → Offset
opposite (off a b c) = off (not a) (not b) (not c)

below_top : (l p : Point) (o : Offset) → p ⊕ o ≡ l ⊕ highest → p ≡ l ⊕ opposite o
below_top (pt i j k) (pt u v w) (off a b c) e =
    let p : raised a u ≡ suc i = cc in let q : raised b v ≡ suc j = cc in let r : raised c w ≡ suc k = cc in
    λ t. pt (down a u i p t) (down b v j q t) (down c w k r t)
  where
    down : (a : Bool) (u i : ℕ) → raised a u ≡ suc i → u ≡ raised (not a) i
    down false u i e = e
    down true u i e = omega arith

-- a cube has each crossing edge whose upper end is its highest point
pub top_has :
    (f : Point → Bool) (l p q : Point) → Neighbours p q → f p ≡ true → f q ≡ false → upper (edge p q) ≡ l ⊕ highest →
    0 < with_corner same (edge p q) (cube f l)
top_has f l p q (o, _, inl e) s t u =
    let top = sym (upper_up p o) ∙ ap (λ q. upper (edge p q)) (sym e) ∙ u in
    subst₂ (λ p q. f p ≡ true → f q ≡ false → 0 < with_corner same (edge p q) (cube f l))
    (sym (below_top l p o top)) (sym (e ∙ top)) (up_to_top f l (opposite o)) s t
top_has f l p q (o, _, inr e) s t u =
    let top = sym (upper_down q o) ∙ ap (λ p. upper (edge p q)) (sym e) ∙ u in
    subst₂ (λ p q. f p ≡ true → f q ≡ false → 0 < with_corner same (edge p q) (cube f l))
    (sym (e ∙ top)) (sym (below_top l q o top)) (down_from_top f l (opposite o)) s t

-- what holds of each edge between two points of a cube holds of each of its corners
pub cube_corners :
    (R : Corner → Type 0) (f : Point → Bool) (l : Point) → ((a b : Offset) → R (edge (l ⊕ a) (l ⊕ b))) → AllCorners R (cube f l)
unfolding cube
cube_corners R f l r =
    every_joined _ (in_piece f l) pieces
    (every_all _ (λ w.
    subst (AllCorners R) (sym (in_piece_at f l w)) (All-map _ (renamed (λ o. l ⊕ o)) _ (every_all _ one _))) pieces)
  where
    one : (t : Tri (Edge Offset)) → AllByRecursion R (corners (renamed (λ o. l ⊕ o) t))
    one (tri (edge a b) (edge c d) (edge e g)) = (r a b, (r c d, (r e g, tt)))

-- no point of the cube lies beyond its highest
abbrev pub Within : Point → Point → Type 0
Within (pt i j k) (pt u v w) = (u ≤ suc i) × (v ≤ suc j) × (w ≤ suc k)

pub upper_within : (f : Point → Bool) (l : Point) (c : Corner) → 0 < with_corner same c (cube f l) → Within l (upper c)
upper_within f l c =
    corner_of (λ c. Within l (upper c)) c (cube f l)
    (cube_corners _ f l (λ a b. subst (Within l) (sym (upper_at l a b)) (within l (higher a b))))
  where
    within : (l : Point) (o : Offset) → Within l (l ⊕ o)
    within (pt i j k) (off a b c) = ((raised_between a i).1, (raised_between b j).1, (raised_between c k).1)
