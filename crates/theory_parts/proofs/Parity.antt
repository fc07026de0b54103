-- Whether the corners of a part are met an odd number of times, going along x from the border, tells the region: it changes along every
-- step of the grid exactly where the step has a corner of the part. Assumes nothing.
use Rattle.std.proofs.Common.{◌≡◌, ℕ, zero, suc, ◌<◌, ◌≤◌, Bool, true, false, ◌&&◌, List, [], ◌∷◌, sym, refl, ap, ◌∙◌, subst, inl, inr, arith}
use mathlib.Core.Bool.{xor}
use Rattle.std.proofs.lemmas.Bool.{both_ways, cases_Bool, cases_lt}
use Rattle.std.specs.List.{AllByRecursion}
use Rattle.theory.specs.Grid.{Point, pt, Offset, off, lowest, +x, +y, +z, +xy, +xz, +yz, highest, raised, ◌⊕◌, Piece, way, pieces, Amid, Border}
use Rattle.theory.specs.Skin.{Corner}
use Rattle.theory.specs.Faces.{Name, n0, n1, n2, n3}
use Rattle.theory.proofs.Pieces.{Four, at, each, at_each, named}
use Rattle.theory_parts.proofs.Levels.{bits_equal, crossing, crossing_none, Level, crossing_level, face_even}

xor_then : (a b c d : Bool) → xor b c ≡ d → xor (xor a b) c ≡ xor a d
unfolding xor
xor_then a b c d e = bits_equal (λ a b c d. xor (xor a b) c) (λ a b c d. xor a (xor b c)) refl a b c d ∙ ap (xor a) e

xor_none : (a b : Bool) → b ≡ false → xor a b ≡ a
unfolding xor
xor_none true b e = ap (xor true) e
xor_none false b e = ap (xor false) e

none_xor : (a b : Bool) → a ≡ false → xor a b ≡ b
unfolding xor
none_xor a true e = ap (λ a. xor a true) e
none_xor a false e = ap (λ a. xor a false) e

-- the four points of a piece of the cube whose lowest point is l
abbrev pub placed : Point → Piece → Four Point
placed l w = each (λ o. l ⊕ o) (named w)

module _ (f : Point → Bool) (S : Corner → Bool) where
  abbrev odd : ℕ → ℕ → ℕ → Bool
  odd zero v w = false
  odd (suc u) v w = xor (odd u v w) (crossing f S (pt u v w) (pt (suc u) v w))

  abbrev pub odd_at : Point → Bool
  odd_at (pt u v w) = odd u v w

  -- within a piece the region is what is inside, or its complement, or nothing or all
  abbrev pub Fits : Four Point → Type 0
  Fits q = (v : Level f S q) × (m : Bool) × ((i : Name) → odd_at (at q i) ≡ xor m (v.0 && f (at q i)))

  module _ (x y z : ℕ) (border : Border f x y z) (levels : (l : Point) → AllByRecursion (λ w. Level f S (placed l w)) pieces) where
    pub outside : (p : Point) → (Amid x y z p → ⊥) → f p ≡ false
    outside p n = elim (cases_Bool (f p)) [ inl t ↦ absurd (n (border p t)) | inr e ↦ e ]

    none_outside : (p q : Point) → (Amid x y z p → ⊥) → (Amid x y z q → ⊥) → crossing f S p q ≡ false
    none_outside p q m n = crossing_none f S p q (outside p m ∙ sym (outside q n))

    -- the two faces with a step that does not go along x, and the same step one further along x
    after_face :
        (l : Point) (b c : Bool) →
        xor (crossing f S l (l ⊕ off false b c)) (crossing f S (l ⊕ off false b c) (l ⊕ off true b c)) ≡ crossing f S l (l ⊕ off true b c)
    after_face (pt u v w) false false = none_xor _ _ (crossing_none f S (pt u v w) (pt u v w) refl)
    after_face (pt u v w) true false = face_even f S (placed (pt u v w) (way true lowest +y +xy highest)) (levels (pt u v w)).1.1.0 n0 n1 n3
    after_face (pt u v w) false true = face_even f S (placed (pt u v w) (way false lowest +z +xz highest)) (levels (pt u v w)).1.1.1.1.0 n0 n1 n2
    after_face (pt u v w) true true = face_even f S (placed (pt u v w) (way false lowest +y +yz highest)) (levels (pt u v w)).1.1.1.0 n0 n2 n3

    before_face :
        (l : Point) (b c : Bool) →
        xor (crossing f S l (l ⊕ +x)) (crossing f S (l ⊕ +x) (l ⊕ off true b c)) ≡ crossing f S l (l ⊕ off true b c)
    before_face (pt u v w) false false = xor_none _ _ (crossing_none f S (pt (suc u) v w) (pt (suc u) v w) refl)
    before_face (pt u v w) true false = face_even f S (placed (pt u v w) (way false lowest +x +xy highest)) (levels (pt u v w)).0 n0 n1 n2
    before_face (pt u v w) false true = face_even f S (placed (pt u v w) (way true lowest +x +xz highest)) (levels (pt u v w)).1.0 n0 n1 n3
    before_face (pt u v w) true true = face_even f S (placed (pt u v w) (way false lowest +x +xy highest)) (levels (pt u v w)).0 n0 n1 n3

    flat_step :
        (b c : Bool) (u v w : ℕ) →
        odd_at (pt u v w ⊕ off false b c) ≡ xor (odd_at (pt u v w)) (crossing f S (pt u v w) (pt u v w ⊕ off false b c))
    flat_step b c zero v w = sym (xor_none false _ (none_outside (pt 0 v w) (pt 0 (raised b v) (raised c w)) (λ a. omega arith) (λ a. omega arith)))
    flat_step b c (suc u) v w =
        let p = pt u v w in
        ap (λ g. xor g (crossing f S (p ⊕ off false b c) (p ⊕ off true b c))) (flat_step b c u v w)
        ∙ xor_then (odd u v w) _ _ _ (after_face p b c)
        ∙ sym (xor_then (odd u v w) _ _ _ (before_face p b c))

    pub step_odd : (l : Point) (o : Offset) → odd_at (l ⊕ o) ≡ xor (odd_at l) (crossing f S l (l ⊕ o))
    step_odd (pt u v w) (off false b c) = flat_step b c u v w
    step_odd (pt u v w) (off true b c) =
        ap (λ g. xor g (crossing f S (pt u v w ⊕ off false b c) (pt u v w ⊕ off true b c))) (flat_step b c u v w)
        ∙ xor_then (odd u v w) _ _ _ (after_face (pt u v w) b c)

    -- a row along x that is outside meets nothing
    row_even : (v w : ℕ) → ((u : ℕ) → Amid x y z (pt u v w) → ⊥) → (u : ℕ) → odd u v w ≡ false
    row_even v w n zero = refl
    row_even v w n (suc u) = xor_none _ _ (none_outside (pt u v w) (pt (suc u) v w) (n u) (n (suc u))) ∙ row_even v w n u

    -- beyond the last points along x
    end_even : (u v w : ℕ) → x ≤ u → odd u v w ≡ false
    end_even u zero w l = row_even 0 w (λ u a. omega arith) u
    end_even u (suc v) w l =
        flat_step true false u v w
        ∙ xor_none _ _ (none_outside (pt u v w) (pt u (suc v) w) (λ a. omega arith) (λ a. omega arith)) ∙ end_even u v w l

    pub odd_border : Border odd_at x y z
    odd_border (pt u v w) t = (
      (below 0 u (λ l. let e : 0 ≡ u = omega arith in subst (λ n. odd n v w ≡ false) e refl), below u x (λ l. end_even u v w l)),
      (below 0 v (λ l. row_even v w (λ u a. omega arith) u), below v y (λ l. row_even v w (λ u a. omega arith) u)),
      (below 0 w (λ l. row_even v w (λ u a. omega arith) u), below w z (λ l. row_even v w (λ u a. omega arith) u)),
    )
      where
        below : (m n : ℕ) → (n ≤ m → odd u v w ≡ false) → m < n
        below m n e = elim (cases_lt m n) [ inl l ↦ l | inr l ↦ absurd (both_ways _ (e l) t) ]

    fit : (l : Point) (q : Four Offset) → at q n0 ≡ lowest → Level f S (each (λ o. l ⊕ o) q) → Fits (each (λ o. l ⊕ o) q)
    unfolding xor
    fit (pt u v w) q e level =
        let l = pt u v w in
        let c = each (λ o. l ⊕ o) q in
        let base : at c n0 ≡ l = at_each (λ o. l ⊕ o) q n0 ∙ ap (λ o. l ⊕ o) e in (
          level,
          xor (odd_at l) (level.0 && f l),
          λ i.
              subst (λ p. odd_at p ≡ xor (odd_at l) (crossing f S l p)) (sym (at_each (λ o. l ⊕ o) q i)) (step_odd l (at q i))
              ∙ ap (xor (odd_at l))
              (subst (λ p. crossing f S p (at c i) ≡ (xor (f p) (f (at c i)) && level.0)) base (crossing_level f S c level n0 i))
              ∙ bits_equal (λ g v a b. xor g (xor a b && v)) (λ g v a b. xor (xor g (v && a)) (v && b)) refl
              (odd_at l) level.0 (f l) (f (at c i)),
        )

    pub fits : (l : Point) → AllByRecursion (λ w. Fits (placed l w)) pieces
    fits l = each_fits pieces (refl, (refl, (refl, (refl, (refl, (refl, tt)))))) (levels l)
      where
        each_fits :
            (ws : List Piece) → AllByRecursion (λ w. at (named w) n0 ≡ lowest) ws → AllByRecursion (λ w. Level f S (placed l w)) ws →
            AllByRecursion (λ w. Fits (placed l w)) ws
        each_fits [] a b = tt
        each_fits (w ∷ ws) a b = (fit l (named w) a.0 b.0, each_fits ws a.1 b.1)
