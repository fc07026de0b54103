-- What stands around a corner of the skin is what stands around it in the eight cubes at its inside point, moved to the origin.
-- Assumes nothing.
use Rattle.std.proofs.Common.{◌≡◌, ℕ, zero, suc, ◌+◌, ◌<◌, Bool, true, false, cond, eqb, ◌⊎◌, List, [], ◌∷◌, map, sym, refl, ap, ◌∙◌, subst, inl, inr, zero-add, arith}
use mathlib.Core.Path.{fun_ext}
use Rattle.std.proofs.lemmas.Bool.{and_left, and_right, cases_eq, cases_order, eq-eqb, ne_eqb}
use Rattle.theory.specs.Grid.{Point, pt, same_point, Offset, off, raised, ◌⊕◌, Piece, pieces}
use Rattle.theory.specs.Triangle.{Edge, edge, Tri, tri, sum_of, read_from, around}
use Rattle.theory.specs.Skin.{Corner, Triangle, same, in_piece, cube, skin}
use Rattle.theory.specs.Faces.{renamed, sum_below, over_cubes}
use Rattle.theory.proofs.Sums.{sum_joined, sum_map, sum_same, sum_below_same, sum_below_zero, sum_skin, sum_cube}
use Rattle.theory.proofs.Pieces.{each, each_each, named, cut_four, cut_each, in_piece_four, moved}

-- n steps up from u
abbrev pub lift : ℕ → ℕ → ℕ
lift zero u = u
lift (suc n) u = suc (lift n u)

lift_is : (n u : ℕ) → lift n u ≡ n + u
lift_is zero u = sym (zero-add u)
lift_is (suc n) u = let e = lift_is n u in omega arith

eqb_lift : (m n u : ℕ) → eqb (lift m u) (lift n u) ≡ eqb m n
eqb_lift m n u =
    elim (cases_eq m n) [
      | inl e ↦ eq-eqb _ _ (ap (λ k. lift k u) e) ∙ sym (eq-eqb m n e)
      | inr d ↦ ne_eqb _ _ (λ e. d (omega (arith, lift_is m u, lift_is n u))) ∙ sym (ne_eqb m n d)
    ]

lift_raised : (b : Bool) (n u : ℕ) → raised b (lift n u) ≡ lift (raised b n) u
lift_raised false n u = refl
lift_raised true n u = refl

-- the grid moved, its origin to u, v, w
abbrev pub shift : ℕ → ℕ → ℕ → Point → Point
shift u v w (pt i j k) = pt (lift i u) (lift j v) (lift k w)

pub same_shift : (u v w : ℕ) (c d : Corner) → same (moved (shift u v w) c) (moved (shift u v w) d) ≡ same c d
unfolding same same_point
same_shift u v w (edge (pt i j k) (pt l m n)) (edge (pt a b c) (pt d e g)) = simp eqb_lift

pub shift_⊕ : (u v w : ℕ) (l : Point) (o : Offset) → shift u v w l ⊕ o ≡ shift u v w (l ⊕ o)
shift_⊕ u v w (pt i j k) (off a b c) = λ t. pt (lift_raised a i u t) (lift_raised b j v t) (lift_raised c k w t)

cond_out : {A B : Type 0} (k : A → B) (b : Bool) (x y : A) → k (cond b x y) ≡ cond b (k x) (k y)
cond_out k true x y = refl
cond_out k false x y = refl

module _ {C D : Type 0} (sC : C → C → Bool) (sD : D → D → Bool) (m : C → D) (keeps : (a b : C) → sD (m a) (m b) ≡ sC a b) where
  sum_read_moved :
      (h : D × D → ℕ) (c a b e : C) →
      sum_of h (read_from sD (m c) (tri (m a) (m b) (m e))) ≡ sum_of (λ s. h (m s.0, m s.1)) (read_from sC c (tri a b e))
  unfolding read_from
  sum_read_moved h c a b e = simp (keeps, cond_out (sum_of h), cond_out (sum_of {A = C × C} (λ s. h (m s.0, m s.1))))

sum_none : {A : Type 0} (h : A → ℕ) → ((x : A) → h x ≡ 0) → (xs : List A) → sum_of h xs ≡ 0
sum_none h e [] = refl
sum_none h e (x ∷ xs) = let a = e x in let b = sum_none h e xs in omega arith

-- a weight of triangles: what those that have c weigh, read from c
abbrev pub read : (Corner × Corner → ℕ) → Corner → Triangle → ℕ
read h c t = sum_of h (read_from same c t)

-- no triangle of a cube has a corner whose first point is none of the cube's
module _ (h : Corner × Corner → ℕ) (p q l : Point) (e : (o : Offset) → same_point (l ⊕ o) p ≡ false) where
  other : (a b : Offset) → same (edge (l ⊕ a) (l ⊕ b)) (edge p q) ≡ false
  unfolding same
  other a b = and_left _ _ (e a)

  no_one : (t : Tri (Edge Offset)) → read h (edge p q) (renamed (λ o. l ⊕ o) t) ≡ 0
  unfolding read_from
  no_one (tri (edge a b) (edge c d) (edge g k)) = simp other

  read_far : (f : Point → Bool) → sum_of (read h (edge p q)) (cube f l) ≡ 0
  read_far f =
      sum_cube (read h (edge p q)) f l
      ∙ sum_none _ (λ w.
      ap (sum_of (read h (edge p q))) (in_piece_four f l w ∙ cut_each (λ o. l ⊕ o) f (named w))
      ∙ sum_map (read h (edge p q)) (renamed (λ o. l ⊕ o)) _ ∙ sum_none _ no_one _) pieces

-- where moving the grid keeps the points of cubes, it keeps what is in a piece
in_piece_moved :
    (g : Point → Point) (f : Point → Bool) (l : Point) → ((o : Offset) → g l ⊕ o ≡ g (l ⊕ o)) → (w : Piece) →
    in_piece f (g l) w ≡ map (renamed g) (in_piece (λ p. f (g p)) l w)
in_piece_moved g f l e w =
    in_piece_four f (g l) w
    ∙ ap (λ q. cut_four (each f q) q) (ap (λ k. each k (named w)) (fun_ext e) ∙ sym (each_each g (λ o. l ⊕ o) (named w)))
    ∙ cut_each g f (each (λ o. l ⊕ o) (named w))
    ∙ ap (map (renamed g)) (sym (in_piece_four (λ p. f (g p)) l w))

-- a weight of the steps that were moved
abbrev pub after : (Point → Point) → (Corner × Corner → ℕ) → Corner × Corner → ℕ
after g h s = h (moved g s.0, moved g s.1)

module _ (u v w : ℕ) (h : Corner × Corner → ℕ) (c : Corner) where
  read_shift : (t : Triangle) → read h (moved (shift u v w) c) (renamed (shift u v w) t) ≡ read (after (shift u v w) h) c t
  read_shift (tri (edge a b) (edge d e) (edge g k)) =
      sum_read_moved same same (moved (shift u v w)) (same_shift u v w) h c (edge a b) (edge d e) (edge g k)

  cube_shift :
      (f : Point → Bool) (l : Point) →
      sum_of (read h (moved (shift u v w) c)) (cube f (shift u v w l)) ≡ sum_of (read (after (shift u v w) h) c) (cube (λ p. f (shift u v w p)) l)
  cube_shift f l =
      sum_cube _ f (shift u v w l)
      ∙ sum_same _ _ (λ d.
      ap (sum_of (read h (moved (shift u v w) c))) (in_piece_moved (shift u v w) f l (shift_⊕ u v w l) d)
      ∙ sum_map _ (renamed (shift u v w)) (in_piece (λ p. f (shift u v w p)) l d) ∙ sum_same _ _ read_shift _) pieces
      ∙ sym (sum_cube _ (λ p. f (shift u v w p)) l)

-- a sum that vanishes but at u and the next place
sum_below_two :
    (h : ℕ → ℕ) (u n : ℕ) → suc u < n → ((i : ℕ) → ((i < u) ⊎ (suc u < i)) → h i ≡ 0) → sum_below n h ≡ sum_below 2 (λ i. h (lift i u))
sum_below_two h u zero l e = absurd (omega arith)
sum_below_two h u (suc n) l e =
    elim (cases_order n (suc u)) [
      | inl d ↦ subst (λ m. sum_below (suc m) h ≡ sum_below 2 (λ i. h (lift i u))) (sym d)
          (let a : sum_below u h ≡ 0 = sum_below_zero u h (λ i k. e i (inl k)) in omega arith)
      | inr d ↦ elim d [
        | inl k ↦ absurd (omega arith)
        | inr k ↦ let a = sum_below_two h u n k e in let b = e n (inr k) in omega arith
      ]
    ]

-- a cube that lies elsewhere along an axis has not the point
elsewhere : (i u : ℕ) → ((i < u) ⊎ (suc u < i)) → (b : Bool) → eqb (raised b i) (suc u) ≡ false
elsewhere i u e false = ne_eqb i (suc u) (λ d. elim e [ inl k ↦ omega arith | inr k ↦ omega arith ])
elsewhere i u e true = ne_eqb (suc i) (suc u) (λ d. elim e [ inl k ↦ omega arith | inr k ↦ omega arith ])

over_cubes_near :
    (K : Point → ℕ) (x y z u v w : ℕ) → suc u < x → suc v < y → suc w < z →
    ((l : Point) → ((o : Offset) → same_point (l ⊕ o) (pt (suc u) (suc v) (suc w)) ≡ false) → K l ≡ 0) →
    over_cubes x y z K ≡ over_cubes 2 2 2 (λ l. K (shift u v w l))
unfolding same_point
over_cubes_near K x y z u v w lx ly lz far =
    sum_below_two _ w z lz (λ k a. sum_below_zero y _ (λ j _. sum_below_zero x _ (λ i _. far (pt i j k)
    (elim [ off r s t ↦ and_right (eqb (raised r i) (suc u)) _ (and_right (eqb (raised s j) (suc v)) _ (elsewhere k w a t)) ]))))
    ∙ sum_below_same 2 _ _ (λ k _.
    sum_below_two _ v y ly (λ j a. sum_below_zero x _ (λ i _. far (pt i j (lift k w))
    (elim [ off r s t ↦ and_right _ _ (and_left _ _ (elsewhere j v a s)) ])))
    ∙ sum_below_same 2 _ _ (λ j _.
    sum_below_two _ u x lx (λ i a. far (pt i (lift j v) (lift k w)) (elim [ off r s t ↦ and_left _ _ (elsewhere i u a r) ]))))

pub around_near :
    (f : Point → Bool) (x y z u v w : ℕ) → suc u < x → suc v < y → suc w < z → (q : Point) (h : Corner × Corner → ℕ) →
    sum_of h (around same (edge (pt (suc u) (suc v) (suc w)) (shift u v w q)) (skin f x y z))
    ≡ sum_of (after (shift u v w) h) (around same (edge (pt 1 1 1) q) (skin (λ p. f (shift u v w p)) 2 2 2))
around_near f x y z u v w lx ly lz q h =
    sum_joined h _ (skin f x y z) ∙ sum_skin _ f x y z
    ∙ over_cubes_near _ x y z u v w lx ly lz (λ l e. read_far h (pt (suc u) (suc v) (suc w)) (shift u v w q) l e f)
    ∙ ap (over_cubes 2 2 2) (fun_ext (cube_shift u v w h (edge (pt 1 1 1) q) f))
    ∙ sym (sum_joined _ _ (skin (λ p. f (shift u v w p)) 2 2 2) ∙ sum_skin _ (λ p. f (shift u v w p)) 2 2 2)
