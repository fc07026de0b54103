-- The face law: sums over the faces of all pieces of the grid cancel, whatever number a face has. Assumes nothing.
use Rattle.std.proofs.Common.{◌≡◌, ℕ, zero, suc, ◌+◌, ◌<◌, Bool, true, false, not, ◌⊎◌, List, [], ◌∷◌, sym, refl, ap, ◌∙◌, ap₂, inl, inr, arith}
use mathlib.Core.Path.{fun_ext}
use Rattle.std.proofs.lemmas.Bool.{cases_Bool}
use Rattle.theory.specs.Grid.{Point, pt, Offset, off, ◌⊕◌, Amid, Border}
use Rattle.theory.specs.Triangle.{sum_of}
use Rattle.theory.specs.Faces.{Face, face, Axis, x_axis, y_axis, z_axis, step, carried, against, with_clock, sum_below, over_cubes, over_faces, FaceLaw}
use Rattle.theory.proofs.Sums.{sum_below_same, sum_below_zero, sum_below_add}

-- moved on by one, a sum gains the next value and loses the first
pub sum_below_next : (n : ℕ) (h : ℕ → ℕ) → sum_below n (λ i. h (suc i)) + h 0 ≡ sum_below n h + h n
sum_below_next zero h = refl
sum_below_next (suc n) h = let a = sum_below_next n h in omega arith

sum_below_moved : (n : ℕ) (h : ℕ → ℕ) → h 0 ≡ 0 → h n ≡ 0 → sum_below n (λ i. h (suc i)) ≡ sum_below n h
sum_below_moved n h a b = omega (arith, sum_below_next n h)

abbrev pub coordinate : Axis → Point → ℕ
coordinate x_axis (pt u v w) = u
coordinate y_axis (pt u v w) = v
coordinate z_axis (pt u v w) = w

module _ (x y z : ℕ) where
  pub over_cubes_add : (h g : Point → ℕ) → over_cubes x y z (λ p. h p + g p) ≡ over_cubes x y z h + over_cubes x y z g
  over_cubes_add h g =
      sum_below_same z _ _ (λ k _. sum_below_same y _ _ (λ j _. sum_below_add x _ _) ∙ sum_below_add y _ _) ∙ sum_below_add z _ _

  pub over_cubes_each :
      {A : Type 0} (h g : A → Point → ℕ) → ((s : A) → over_cubes x y z (h s) ≡ over_cubes x y z (g s)) →
      (ss : List A) → over_cubes x y z (λ p. sum_of (λ s. h s p) ss) ≡ over_cubes x y z (λ p. sum_of (λ s. g s p) ss)
  over_cubes_each h g e [] = refl
  over_cubes_each h g e (s ∷ ss) =
      over_cubes_add (h s) (λ p. sum_of (λ s. h s p) ss)
      ∙ ap₂ ◌+◌ (e s) (over_cubes_each h g e ss)
      ∙ sym (over_cubes_add (g s) (λ p. sum_of (λ s. g s p) ss))

  pub over_cubes_cancel :
      (a b c d e h : Point → ℕ) → ((p : Point) → a p + (b p + c p) ≡ d p + (e p + h p)) →
      over_cubes x y z b ≡ over_cubes x y z e → over_cubes x y z c ≡ over_cubes x y z h → over_cubes x y z a ≡ over_cubes x y z d
  over_cubes_cancel a b c d e h each s t =
      let m = ap (over_cubes x y z) (fun_ext each) in
      omega (arith, over_cubes_add a (λ p. b p + c p), over_cubes_add b c, over_cubes_add d (λ p. e p + h p), over_cubes_add e h)

  -- the point is one of the first or of the last along an axis
  abbrev pub AtEnd : Axis → Point → Type 0
  AtEnd d p = (coordinate d p ≡ 0) ⊎ (coordinate d p ≡ coordinate d (pt x y z))

  pub over_cubes_moved :
      (d : Axis) (h : Point → ℕ) → ((p : Point) → AtEnd d p → h p ≡ 0) → over_cubes x y z (λ p. h (p ⊕ step d)) ≡ over_cubes x y z h
  over_cubes_moved x_axis h e =
      let row = λ (j k : ℕ). sum_below_moved x (λ i. h (pt i j k)) (e (pt 0 j k) (inl refl)) (e (pt x j k) (inr refl)) in
      sum_below_same z _ _ (λ k _. sum_below_same y _ _ (λ j _. row j k))
  over_cubes_moved y_axis h e =
      let none = λ (j k : ℕ) (end : (j ≡ 0) ⊎ (j ≡ y)). sum_below_zero x (λ i. h (pt i j k)) (λ i _. e (pt i j k) end) in
      sum_below_same z _ _ (λ k _. sum_below_moved y (λ j. sum_below x (λ i. h (pt i j k))) (none 0 k (inl refl)) (none y k (inr refl)))
  over_cubes_moved z_axis h e =
      let none = λ (k : ℕ) (end : (k ≡ 0) ⊎ (k ≡ z)). sum_below_zero y _ (λ j _. sum_below_zero x (λ i. h (pt i j k)) (λ i _. e (pt i j k) end)) in
      sum_below_moved z (λ k. sum_below y (λ j. sum_below x (λ i. h (pt i j k)))) (none 0 (inl refl)) (none z (inr refl))

  amid_along : (d : Axis) (p : Point) → Amid x y z p → (0 < coordinate d p) × (coordinate d p < coordinate d (pt x y z))
  amid_along x_axis (pt u v w) a = a.0
  amid_along y_axis (pt u v w) a = a.1
  amid_along z_axis (pt u v w) a = a.2

  pub outside_at_end : (f : Point → Bool) → Border f x y z → (d : Axis) (p : Point) → AtEnd d p → f p ≡ false
  outside_at_end f border d p e =
      elim (cases_Bool (f p)) [ inl t ↦ absurd (let a = amid_along d p (border p t) in omega arith) | inr q ↦ q ]

-- a point in the lower square across an axis, by its steps along the other two
abbrev flat : Axis → Bool → Bool → Offset
flat x_axis a b = off false a b
flat y_axis a b = off a false b
flat z_axis a b = off a b false

flat_coordinate : (d : Axis) (p : Point) (a b : Bool) → coordinate d (p ⊕ flat d a b) ≡ coordinate d p
flat_coordinate x_axis (pt u v w) a b = refl
flat_coordinate y_axis (pt u v w) a b = refl
flat_coordinate z_axis (pt u v w) a b = refl

-- a face in a lower square: the axis that it lies across, and whether its way goes along the first of the other two axes first
abbrev Half : Type 0
Half = Axis × Bool

abbrev half : Half → Face Offset
half s = face (flat s.0 false false) (flat s.0 s.1 (not s.1)) (flat s.0 true true)

-- the lower squares' faces that run against the clock as seen from outside the cube, and those that run with it
abbrev halves_against : List Half
halves_against = (x_axis, false) ∷ (y_axis, true) ∷ (z_axis, false) ∷ []

abbrev halves_with : List Half
halves_with = (x_axis, true) ∷ (y_axis, false) ∷ (z_axis, true) ∷ []

module _ (g : Face Point → ℕ) where
  abbrev lower : Half → Point → ℕ
  lower s p = g (carried p (half s))

  abbrev upper : Half → Point → ℕ
  upper s p = lower s (p ⊕ step s.0)

  in_one_cube :
      (p : Point) →
      over_faces g against p + (sum_of (λ s. lower s p) halves_with + sum_of (λ s. upper s p) halves_against)
      ≡ over_faces g with_clock p + (sum_of (λ s. upper s p) halves_with + sum_of (λ s. lower s p) halves_against)
  in_one_cube (pt x y z) = omega arith

-- A face inside a cube stands once against the clock and once with it, written alike, so of one cube only the faces in its six squares are
-- left. Those in an upper square are those in the lower square of the next cube, and the first and the last squares of the grid are in its
-- border: so all the lower squares across an axis have the same sum as all the upper ones.
pub face_law : FaceLaw
face_law f x y z border g none = over_cubes_cancel x y z _ _ _ _ _ _ (in_one_cube g) (sym (moved halves_with)) (moved halves_against)
  where
    out : (d : Axis) (p : Point) → AtEnd x y z d p → (a b : Bool) → f (p ⊕ flat d a b) ≡ false
    out d p e a b = outside_at_end x y z f border d _ (rw flat_coordinate e)

    none_at_end : (s : Half) (p : Point) → AtEnd x y z s.0 p → lower g s p ≡ 0
    none_at_end s p e = none _ _ _ (out _ p e false false) (out _ p e _ _) (out _ p e true true)

    moved : (ss : List Half) → over_cubes x y z (λ p. sum_of (λ s. upper g s p) ss) ≡ over_cubes x y z (λ p. sum_of (λ s. lower g s p) ss)
    moved = over_cubes_each x y z (upper g) (lower g) (λ s. over_cubes_moved x y z s.0 (lower g s) (none_at_end s))
