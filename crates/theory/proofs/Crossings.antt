-- The corners of the skin are edges of the grid, the first point inside and the second not. Assumes nothing.
use Rattle.std.proofs.Common.{◌≡◌, ℕ, ◌<◌, Bool, true, false, not, ◌&&◌, ◌||◌, ◌≢◌, List, [], ◌∷◌, sym, refl, ap, ◌∙◌, subst, subst₂, inl, inr, zero-add, arith}
use Rattle.std.proofs.ByRecursion.{All-weaker}
use Rattle.std.proofs.lemmas.Bool.{and_parts, or_cases, not-true, cases_Bool, true≢false, false≢true}
use Rattle.std.specs.List.{AllByRecursion}
use Rattle.theory.specs.Grid.{Point, pt, Offset, off, lowest, raised, ◌⊕◌, Piece, pieces}
use Rattle.theory.specs.Triangle.{Edge, edge, Tri, tri, corners, has, with_corner}
use Rattle.theory.specs.Skin.{Corner, Triangle, same, in_piece, skin}
use Rattle.theory.specs.Faces.{Name, renamed}
use Rattle.theory.specs.Closed.{Neighbours}
use Rattle.theory.proofs.Sums.{every_skin}
use Rattle.theory.proofs.Same.{same_true, all, all_every}
use Rattle.theory.proofs.Pieces.{Four, at, each, at_each, any_bits_at, any_name, any_name_at, named, cut_four, in_piece_four, names, cut_named, moved, every_image}

-- the table's corners, by names
abbrev crosses : Four Bool → Edge Name → Bool
crosses b (edge i j) = at b i && not (at b j)

cut_crosses : (b : Four Bool) → all (λ t. all (crosses b) (corners t)) (cut_four b names) ≡ true
cut_crosses = any_bits_at (λ b. all (λ t. all (crosses b) (corners t)) (cut_four b names)) refl

-- what holds of each edge between two of the four points, from inside to outside, holds of each corner
module _ (R : Corner → Type 0) (f : Point → Bool) (q : Four Point)
    (r : (i j : Name) → f (at q i) ≡ true → f (at q j) ≡ false → R (edge (at q i) (at q j))) where
  on_edge : (c : Edge Name) → crosses (each f q) c ≡ true → R (moved (at q) c)
  on_edge (edge i j) e =
      let p = and_parts (at (each f q) i) (not (at (each f q) j)) e in
      r i j (sym (at_each f q i) ∙ p.0) (sym (at_each f q j) ∙ not-true _ p.1)

  on_triangle : (t : Tri (Edge Name)) → all (crosses (each f q)) (corners t) ≡ true → AllByRecursion R (corners (renamed (at q) t))
  on_triangle (tri (edge a b) (edge c d) (edge g h)) e =
      every_image R (moved (at q)) (crosses (each f q)) on_edge (edge a b ∷ edge c d ∷ edge g h ∷ []) e

  pub cut_corners : AllByRecursion (λ t. AllByRecursion R (corners t)) (cut_four (each f q) q)
  cut_corners =
      subst (AllByRecursion (λ t. AllByRecursion R (corners t))) (sym (cut_named (each f q) q))
      (every_image _ (renamed (at q)) _ on_triangle (cut_four (each f q) names) (cut_crosses (each f q)))

-- from one point of a cube up to another
abbrev up : Offset → Offset → Bool
up (off a b c) (off d e g) = (not a || d) && ((not b || e) && (not c || g))

raised_on : (a d : Bool) (n : ℕ) → (not a || d) ≡ true → raised d n ≡ raised (not a && d) (raised a n)
raised_on false false n e = refl
raised_on false true n e = refl
raised_on true true n e = refl
raised_on true false n e = absurd (false≢true e)

up_by : (l : Point) (a b : Offset) → up a b ≡ true → (o : Offset) × (l ⊕ b ≡ (l ⊕ a) ⊕ o)
up_by (pt x y z) (off a b c) (off d e g) t =
    let p = and_parts (not a || d) ((not b || e) && (not c || g)) t in
    let q = and_parts (not b || e) (not c || g) p.1 in
    (off (not a && d) (not b && e) (not c && g), λ i. pt (raised_on a d x p.0 i) (raised_on b e y q.0 i) (raised_on c g z q.1 i))

not_lowest : (f : Point → Bool) (p q : Point) (o : Offset) → q ≡ p ⊕ o → f p ≢ f q → o ≢ lowest
not_lowest f (pt x y z) q o e d l = d (ap f (sym (e ∙ ap (λ o. pt x y z ⊕ o) l)))

neighbours :
    (f : Point → Bool) (l : Point) (a b : Offset) → (up a b || up b a) ≡ true → f (l ⊕ a) ≢ f (l ⊕ b) → Neighbours (l ⊕ a) (l ⊕ b)
neighbours f l a b t d =
    elim (or_cases (up a b) (up b a) t) [
      | inl e ↦ let s = up_by l a b e in (s.0, not_lowest f (l ⊕ a) (l ⊕ b) s.0 s.1 d, inl s.1)
      | inr e ↦ let s = up_by l b a e in (s.0, not_lowest f (l ⊕ b) (l ⊕ a) s.0 s.1 (λ e. d (sym e)), inr s.1)
    ]

-- of two points of a piece one lies up from the other
abbrev ordered : Piece → Name → Name → Bool
ordered w i j = up (at (named w) i) (at (named w) j) || up (at (named w) j) (at (named w) i)

abbrev all_ordered : Piece → Bool
all_ordered w = any_name (λ i. any_name (ordered w i))

abbrev pub Crossing : (Point → Bool) → Corner → Type 0
Crossing f (edge p q) = Neighbours p q × (f p ≡ true) × (f q ≡ false)

piece_crosses :
    (f : Point → Bool) (l : Point) (w : Piece) → all_ordered w ≡ true → AllByRecursion (λ t. AllByRecursion (Crossing f) (corners t)) (in_piece f l w)
piece_crosses f l w t =
    subst (AllByRecursion (λ t. AllByRecursion (Crossing f) (corners t))) (sym (in_piece_four f l w))
    (cut_corners (Crossing f) f (each (λ o. l ⊕ o) (named w)) (λ i j.
    subst₂ (λ p q. f p ≡ true → f q ≡ false → Crossing f (edge p q))
    (sym (at_each (λ o. l ⊕ o) (named w) i)) (sym (at_each (λ o. l ⊕ o) (named w) j))
    (λ a b.
    let o = any_name_at (ordered w i) (any_name_at (λ i. any_name (ordered w i)) t i) j in
    (neighbours f l _ _ o (λ e. true≢false (sym a ∙ e ∙ b)), a, b))))

pub skin_crosses : (f : Point → Bool) (x y z : ℕ) → AllByRecursion (λ t. AllByRecursion (Crossing f) (corners t)) (skin f x y z)
skin_crosses f x y z = every_skin _ f x y z (λ l. All-weaker _ _ (piece_crosses f l) pieces (all_every all_ordered pieces refl))

-- a corner that some triangle has is one of that triangle's
pub corner_of :
    (R : Corner → Type 0) (c : Corner) (ts : List Triangle) → AllByRecursion (λ t. AllByRecursion R (corners t)) ts → 0 < with_corner same c ts → R c
unfolding has
corner_of R c [] a h = absurd (omega arith)
corner_of R c (tri p q r ∷ ts) a h =
    elim (cases_Bool (same p c || (same q c || same r c))) [
      | inl e ↦ elim (or_cases (same p c) (same q c || same r c) e) [
        | inl e ↦ subst R (same_true p c e) a.0.0
        | inr e ↦ elim (or_cases (same q c) (same r c) e)
            [ inl e ↦ subst R (same_true q c e) a.0.1.0 | inr e ↦ subst R (same_true r c e) a.0.1.1.0 ]
      ]
      | inr e ↦ corner_of R c ts a.1 (rw (e, zero-add) at h)
    ]
