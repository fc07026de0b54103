-- There are at most six corners for each cube. Each crossing edge is counted at the cube at its lower end, but one along y at the cube a
-- step along x before: of the seven edges of a cube that count there, three are the sides of one face, and at most two of these cross.
-- Assumes nothing.
use Rattle.std.proofs.Common.{◌≡◌, ℕ, zero, suc, ◌+◌, ◌*◌, ◌<◌, ◌≤◌, Bool, true, false, ◌≢◌, ◌⊎◌, List, [], ◌∷◌, ◌++◌, length, sym, refl, ap, ◌∙◌, subst, inl, inr, mul_assoc, arith, length-append}
use Rattle.std.proofs.lemmas.Bool.{cases_lt}
use Rattle.theory.specs.Grid.{Point, pt, Offset, off, lowest, +x, +z, +xy, +xz, +yz, highest, raised, ◌⊕◌, Border}
use Rattle.theory.specs.Triangle.{edge, one_if, times}
use Rattle.theory.specs.Skin.{Corner, same, below, skin}
use Rattle.theory.specs.Faces.{over_cubes}
use Rattle.theory.specs.Closed.{Neighbours}
use Rattle.theory.proofs.Sums.{sum_append}
use Rattle.theory.proofs.Same.{same_true, same_refl}
use Rattle.theory.proofs.Rings.{parted}
use Rattle.theory_numbers.specs.Numbers.{corner_list, AtMostSix}
use Rattle.theory_numbers.proofs.Firsts.{length_le}
use Rattle.theory_numbers.proofs.Numbered.{met_once, met_had}
use Rattle.theory_numbers.proofs.Cubes.{raised_between, over_cubes_has, sum_cubes, length_below}

-- the corner between two points, by who of them is inside
between : Bool → Bool → Point → Point → List Corner
between true false p q = edge p q ∷ []
between false true p q = edge q p ∷ []
between true true p q = []
between false false p q = []

at_most_one : (a b : Bool) (p q : Point) → length (between a b p q) ≤ 1
unfolding between
at_most_one true false p q = omega arith
at_most_one false true p q = omega arith
at_most_one true true p q = omega arith
at_most_one false false p q = omega arith

at_most_two :
    (a b c : Bool) (p q r : Point) → length (between a b p q) + (length (between b c q r) + length (between a c p r)) ≤ 2
unfolding between
at_most_two true true true p q r = omega arith
at_most_two true true false p q r = omega arith
at_most_two true false true p q r = omega arith
at_most_two true false false p q r = omega arith
at_most_two false true true p q r = omega arith
at_most_two false true false p q r = omega arith
at_most_two false false true p q r = omega arith
at_most_two false false false p q r = omega arith

module _ (f : Point → Bool) where
  crossing : Point → Point → List Corner
  crossing p q = between (f p) (f q) p q

  -- the crossing ones of the seven edges that count at the cube at p; the first three are the sides of one face
  seven : Point → List Corner
  seven p =
      crossing p (p ⊕ +x) ++ (crossing (p ⊕ +x) (p ⊕ +xy) ++ (crossing p (p ⊕ +xy)
      ++ (crossing p (p ⊕ +z) ++ (crossing p (p ⊕ +xz) ++ (crossing p (p ⊕ +yz) ++ crossing p (p ⊕ highest))))))

  length_seven : (p : Point) → length (seven p) ≤ 6
  unfolding seven crossing
  length_seven p =
      let a = at_most_two (f p) (f (p ⊕ +x)) (f (p ⊕ +xy)) p (p ⊕ +x) (p ⊕ +xy) in
      let b = at_most_one (f p) (f (p ⊕ +z)) p (p ⊕ +z) in
      let c = at_most_one (f p) (f (p ⊕ +xz)) p (p ⊕ +xz) in
      let d = at_most_one (f p) (f (p ⊕ +yz)) p (p ⊕ +yz) in
      let e = at_most_one (f p) (f (p ⊕ highest)) p (p ⊕ highest) in
      simp length-append (omega arith)

  times_seven :
      (c : Corner) (p : Point) →
      times same c (seven p)
      ≡ times same c (crossing p (p ⊕ +x)) + (times same c (crossing (p ⊕ +x) (p ⊕ +xy)) + (times same c (crossing p (p ⊕ +xy))
      + (times same c (crossing p (p ⊕ +z)) + (times same c (crossing p (p ⊕ +xz)) + (times same c (crossing p (p ⊕ +yz))
      + times same c (crossing p (p ⊕ highest)))))))
  unfolding seven
  times_seven c p = simp sum_append

  crossing_up : (p q : Point) → f p ≡ true → f q ≡ false → 0 < times same (edge p q) (crossing p q)
  unfolding crossing between
  crossing_up p q s t = rw (s, t) (omega (arith, ap one_if (same_refl (edge p q))))

  crossing_down : (p q : Point) → f p ≡ false → f q ≡ true → 0 < times same (edge q p) (crossing p q)
  unfolding crossing between
  crossing_down p q s t = rw (s, t) (omega (arith, ap one_if (same_refl (edge q p))))

  -- an edge from u, v, w counts there, or at the cube a step along x before
  seven_has :
      (e : Corner) (u v w : ℕ) (a b c : Bool) → off a b c ≢ lowest → 0 < raised a u →
      (i : ℕ) × (i ≤ u) × (times same e (crossing (pt u v w) (pt u v w ⊕ off a b c)) ≤ times same e (seven (pt i v w)))
  seven_has e u v w false false false n l = absurd (n refl)
  seven_has e zero v w false true false n l = absurd (omega arith)
  seven_has e (suc u) v w false true false n l = (u, omega arith, omega (arith, times_seven e (pt u v w)))
  seven_has e u v w true false false n l = (u, omega arith, omega (arith, times_seven e (pt u v w)))
  seven_has e u v w false false true n l = (u, omega arith, omega (arith, times_seven e (pt u v w)))
  seven_has e u v w true true false n l = (u, omega arith, omega (arith, times_seven e (pt u v w)))
  seven_has e u v w true false true n l = (u, omega arith, omega (arith, times_seven e (pt u v w)))
  seven_has e u v w false true true n l = (u, omega arith, omega (arith, times_seven e (pt u v w)))
  seven_has e u v w true true true n l = (u, omega arith, omega (arith, times_seven e (pt u v w)))

module _ (f : Point → Bool) (x y z : ℕ) (out : Border f x y z) where
  -- where one end of an edge is inside, its lower end is the lowest point of a cube
  lower_end :
      (u v w : ℕ) (a b c : Bool) → (f (pt u v w) ≡ true) ⊎ (f (pt u v w ⊕ off a b c) ≡ true) →
      (u < x) × (v < y) × (w < z) × (0 < raised a u)
  lower_end u v w a b c (inl s) = omega (arith, out (pt u v w) s, raised_between a u)
  lower_end u v w a b c (inr s) = omega (arith, out (pt u v w ⊕ off a b c) s, raised_between a u, raised_between b v, raised_between c w)

  count : Corner → ℕ
  count c = over_cubes x y z (λ p. times same c (seven f p))

  step_counted :
      (e : Corner) (r : Point) (o : Offset) → o ≢ lowest → (f r ≡ true) ⊎ (f (r ⊕ o) ≡ true) →
      0 < times same e (crossing f r (r ⊕ o)) → 0 < count e
  unfolding count
  step_counted e (pt u v w) (off a b c) n s h =
      let l = lower_end u v w a b c s in
      let t = seven_has f e u v w a b c n l.3 in
      omega (arith, over_cubes_has x y z (λ p. times same e (seven f p)) t.0 v w (omega arith) l.1 l.2)

  counted : (p q : Point) → Neighbours p q → f p ≡ true → f q ≡ false → 0 < count (edge p q)
  counted p q (o, n, inl e) s t =
      subst (λ q. f q ≡ false → 0 < count (edge p q)) (sym e) (λ t. step_counted _ p o n (inl s) (crossing_up f p (p ⊕ o) s t)) t
  counted p q (o, n, inr e) s t =
      subst (λ p. f p ≡ true → 0 < count (edge p q)) (sym e) (λ s. step_counted _ q o n (inr s) (crossing_down f q (q ⊕ o) t s)) s

  corner_counted : (c : Corner) → 0 < times same c (corner_list f x y z) → 0 < count c
  corner_counted (edge p q) h =
      let k = (parted f x y z out p q).0 ((met_had (edge p q) (skin f x y z)).0 h) in counted p q k.0 k.1 k.2

pub at_most_six : AtMostSix
unfolding count
at_most_six f x y z out =
    let all = below z (λ k. below y (λ j. below x (λ i. seven f (pt i j k)))) in
    let a = length_le same same_true same_refl (corner_list f x y z) all (λ c.
    let o = met_once c (skin f x y z) in
    let s = sum_cubes (λ d. one_if (same d c)) (seven f) x y z in
    elim (cases_lt 0 (times same c (corner_list f x y z)))
    [ inl h ↦ omega (arith, corner_counted f x y z out c h) | inr h ↦ omega arith ]) in
    let b = length_below (λ k. below y (λ j. below x (λ i. seven f (pt i j k)))) (6 * x * y) (λ k.
    length_below (λ j. below x (λ i. seven f (pt i j k))) (6 * x) (λ j.
    length_below (λ i. seven f (pt i j k)) 6 (λ i. length_seven f (pt i j k)) x) y) z in
    let e : 6 * x * y * z ≡ 6 * (x * y * z) = ap (λ n. n * z) (mul_assoc 6 x y) ∙ mul_assoc 6 (x * y) z in
    omega arith
