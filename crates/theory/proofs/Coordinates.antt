-- A place's coordinates give back the step of the grid that it lies on. Assumes nothing.
use Rattle.std.proofs.Common.{◌≡◌, ℕ, zero, suc, ◌+◌, ◌-◌, ◌*◌, ◌≤◌, min, max, Bool, true, false, cond, ◌≢◌, ◌⊎◌, sym, refl, ap, ◌∙◌, ap₂, inl, inr, add-mul, eq-or-lt_of_le, mul-le-mul_left, mul-suc, arith}
use native.Mathlib.Nat.{min-le_left, min-le_right, le-max_left, le-max_right}
use Rattle.theory.specs.Grid.{Point, pt, Offset, off, lowest, raised, ◌⊕◌}
use Rattle.theory.specs.Triangle.{edge}
use Rattle.theory.specs.Closed.{Neighbours}
use Rattle.theory.specs.Places.{between, place_at, point_place, On, AmidStep, LieBetweenEnds, StepKnown, StrictlyWithin, EitherEnd}

-- one coordinate, from either end
between_turned : (j i u v : ℕ) → j + i ≡ 256 → between j u v ≡ between i v u
between_turned j i u v e =
    let a : 256 * u ≡ j * u + i * u = ap (λ n. n * u) (sym e) ∙ add-mul j i u in
    let b : 256 * v ≡ j * v + i * v = ap (λ n. n * v) (sym e) ∙ add-mul j i v in
    omega arith

pub lie_between_ends : LieBetweenEnds
lie_between_ends k u v l =
    let a : 256 * u ≡ k * u + (256 - k) * u = parts u in
    let b : 256 * min u v ≡ k * min u v + (256 - k) * min u v = parts (min u v) in
    let d : 256 * max u v ≡ k * max u v + (256 - k) * max u v = parts (max u v) in
    record {
      exact = omega arith;
      above = omega (arith, mul-le-mul_left k (min-le_right u v), mul-le-mul_left (256 - k) (min-le_left u v));
      below = omega (arith, mul-le-mul_left k (le-max_right u v), mul-le-mul_left (256 - k) (le-max_left u v));
    }
  where
    parts : (n : ℕ) → 256 * n ≡ k * n + (256 - k) * n
    parts n = let e : 256 ≡ k + (256 - k) = omega arith in ap (λ m. m * n) e ∙ add-mul k (256 - k) n

pub place_turned : (j i : ℕ) (p q : Point) → j + i ≡ 256 → place_at j p q ≡ place_at i q p
place_turned j i (pt x y z) (pt u v w) e = λ t. pt (between_turned j i x u e t) (between_turned j i y v e t) (between_turned j i z w e t)

pub either_end : EitherEnd
either_end p q s h = (256 - h.0, omega arith, h.2 ∙ place_turned h.0 (256 - h.0) p q (omega arith))

-- one coordinate of a step up from u: the step goes along this axis, or not
between_raised : (j u : ℕ) (a : Bool) → between j u (raised a u) ≡ 256 * u + cond a j 0
between_raised j u true = rw mul-suc (omega arith)
between_raised j u false = omega arith

-- it gives back u, whether the step goes along this axis, and if so how far along the step it is
coordinate_known :
    (j i u v : ℕ) (a b : Bool) → AmidStep j → AmidStep i → between j u (raised a u) ≡ between i v (raised b v) →
    (u ≡ v) × (a ≡ b) × ((a ≡ false) ⊎ (j ≡ i))
coordinate_known j i u v a b pj pi e = go a b (sym (between_raised j u a) ∙ e ∙ between_raised i v b)
  where
    go : (a b : Bool) → 256 * u + cond a j 0 ≡ 256 * v + cond b i 0 → (u ≡ v) × (a ≡ b) × ((a ≡ false) ⊎ (j ≡ i))
    go true true e = (omega arith, refl, inr (omega arith))
    go true false e = absurd (omega arith)
    go false true e = absurd (omega arith)
    go false false e = (omega arith, refl, inl refl)

-- a place within a step up gives back the lower end and the step
up_known :
    (p r : Point) (o m : Offset) (j i : ℕ) → AmidStep j → AmidStep i → place_at j p (p ⊕ o) ≡ place_at i r (r ⊕ m) →
    (p ≡ r) × (o ≡ m) × ((o ≡ lowest) ⊎ (j ≡ i))
up_known (pt x y z) (pt u v w) (off a b c) (off d g h) j i pj pi e =
    let kx = coordinate_known j i x u a d pj pi (cc) in
    let ky = coordinate_known j i y v b g pj pi (cc) in
    let kz = coordinate_known j i z w c h pj pi (cc) in
    (λ t. pt (kx.0 t) (ky.0 t) (kz.0 t), λ t. off (kx.1 t) (ky.1 t) (kz.1 t), go kx.2 ky.2 kz.2)
  where
    go : (a ≡ false) ⊎ (j ≡ i) → (b ≡ false) ⊎ (j ≡ i) → (c ≡ false) ⊎ (j ≡ i) → (off a b c ≡ lowest) ⊎ (j ≡ i)
    go (inl p) (inl q) (inl r) = inl (λ t. off (p t) (q t) (r t))
    go (inl p) (inl q) (inr r) = inr r
    go (inl p) (inr q) _ = inr q
    go (inr p) _ _ = inr p

-- a place within the step from p to q, seen from the step's lower end
record FromBelow (p q : Point) (j : ℕ) : Type 0 where
  low : Point
  up : Offset
  far : ℕ
  moves : up ≢ lowest
  within : AmidStep far
  at : place_at j p q ≡ place_at far low (low ⊕ up)
  ends : ((p ≡ low) × (q ≡ low ⊕ up) × (j ≡ far)) ⊎ ((p ≡ low ⊕ up) × (q ≡ low) × (j + far ≡ 256))

from_below : (p q : Point) (j : ℕ) → Neighbours p q → AmidStep j → FromBelow p q j
from_below p q j n h =
    elim n.2 [
      | inl e ↦ record { low = p; up = n.0; far = j; moves = n.1; within = h; at = ap (place_at j p) e; ends = inl (refl, e, refl) }
      | inr e ↦ record {
        low = q;
        up = n.0;
        far = 256 - j;
        moves = n.1;
        within = omega arith;
        at = place_turned j (256 - j) p q (omega arith) ∙ ap (place_at (256 - j) q) e;
        ends = inr (e, refl, omega arith);
      }
    ]

pub step_known : StepKnown
step_known p q r s j i n m hj hi e =
    let a = from_below p q j n hj in
    let b = from_below r s i m hi in
    let k = up_known a.low b.low a.up b.up a.far b.far a.within b.within (sym a.at ∙ e ∙ b.at) in
    let high : a.low ⊕ a.up ≡ b.low ⊕ b.up = ap₂ ◌⊕◌ k.0 k.1 in
    let far : a.far ≡ b.far = elim k.2 [ inl none ↦ absurd (a.moves none) | inr same ↦ same ] in
    elim a.ends [
      | inl x ↦ elim b.ends [ inl y ↦ inl (cc, cc, omega arith) | inr y ↦ inr (cc, cc, omega arith) ]
      | inr x ↦ elim b.ends [ inl y ↦ inr (cc, cc, omega arith) | inr y ↦ inl (cc, cc, omega arith) ]
    ]

-- a point of the grid lies at the start of a step that goes nowhere
point_place_at : (j : ℕ) (r : Point) → point_place r ≡ place_at j r (r ⊕ lowest)
point_place_at j (pt x y z) = λ t. pt (still x t) (still y t) (still z t)
  where
    still : (u : ℕ) → 256 * u ≡ between j u u
    still u = omega arith

pub strictly_within : StrictlyWithin
strictly_within p q j n h = (
  (j, omega arith, refl),
  λ r e.
      let a = from_below p q j n h in
      let k = up_known a.low r a.up lowest a.far a.far a.within a.within (sym a.at ∙ e ∙ point_place_at a.far r) in
      a.moves k.1,
)

place_at_start : (p q : Point) → place_at 0 p q ≡ point_place p
place_at_start (pt x y z) (pt u v w) = λ t. pt (first x u t) (first y v t) (first z w t)
  where
    first : (m n : ℕ) → between 0 m n ≡ 256 * m
    first m n = omega arith

-- a place on a step lies strictly within it, or at one of its ends
within_or_end : (j : ℕ) (p q : Point) → j ≤ 256 → AmidStep j ⊎ ((r : Point) × (place_at j p q ≡ point_place r))
within_or_end zero p q l = inr (p, place_at_start p q)
within_or_end (suc j) p q l =
    elim (eq-or-lt_of_le l) [
      | inl e ↦ inr (q, place_turned (suc j) 0 p q (omega arith) ∙ place_at_start q p)
      | inr below ↦ inl (omega arith)
    ]

-- an edge whose place is on a step is that step, run the one way or the other
pub edge_known :
    (p q r s : Point) (i : ℕ) → Neighbours p q → Neighbours r s → AmidStep i → On p q (place_at i r s) →
    (edge r s ≡ edge p q) ⊎ (edge r s ≡ edge q p)
edge_known p q r s i n m h on =
    elim (within_or_end on.0 p q on.1) [
      | inl inner ↦ elim (step_known r s p q i on.0 m n h inner on.2) [
        | inl e ↦ inl (λ t. edge (e.0 t) (e.1 t))
        | inr e ↦ inr (λ t. edge (e.0 t) (e.1 t))
      ]
      | inr e ↦ absurd ((strictly_within r s i m h).1 e.0 (on.2 ∙ e.1))
    ]
