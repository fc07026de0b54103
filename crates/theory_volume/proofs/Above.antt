-- An inside point is the lowest point of a cube, whose first piece then has an inside part above 0. Assumes nothing.
use Rattle.std.proofs.Common.{◌≡◌, ℕ, zero, suc, ◌+◌, ◌*◌, ◌<◌, ◌≤◌, Bool, true, false, sym, subst, mul-le-mul, mul-pos, arith}
use native.Mathlib.Decide.{dec_le}
use Rattle.std.specs.List.{AllByRecursion}
use Rattle.theory.specs.Grid.{Point, pt, pieces, Border}
use Rattle.theory.specs.Triangle.{edge, sum_of, corners}
use Rattle.theory.specs.Skin.{Corner, cut, in_piece}
use Rattle.theory.specs.Faces.{sum_below, over_cubes}
use Rattle.theory_volume.specs.Inside.{rest, one_inside, two_inside, three_inside, inside_part, inside_by, inside_piece, inside_sum, AboveZero}
use Rattle.theory_volume.proofs.Corners.{Amid, WithinSteps, in_range_within, pieces_amid}

pub sum_below_at : (n i : ℕ) (h : ℕ → ℕ) → i < n → h i ≤ sum_below n h
sum_below_at zero i h l = absurd (omega arith)
sum_below_at (suc n) i h l =
    elim (dec_le n i) [
      | yes g ↦ let e : i ≡ n = omega arith in subst (λ j. h j ≤ sum_below n h + h n) (sym e) (omega arith)
      | no g ↦ let a = sum_below_at n i h (omega arith) in omega arith
    ]

pub over_cubes_at : (x y z : ℕ) (h : Point → ℕ) (u v w : ℕ) → u < x → v < y → w < z → h (pt u v w) ≤ over_cubes x y z h
over_cubes_at x y z h u v w lu lv lw =
    let a = sum_below_at x u (λ i. h (pt i v w)) lu in
    let b = sum_below_at y v (λ j. sum_below x (λ i. h (pt i j w))) lv in
    let c = sum_below_at z w (λ k. sum_below y (λ j. sum_below x (λ i. h (pt i j k)))) lw in
    omega arith

products_below : (m n o : ℕ) → m ≤ 255 → n ≤ 255 → o ≤ 255 → m * (n * o) ≤ 255 * (255 * 255)
products_below m n o a b c = mul-le-mul a (mul-le-mul b c)

module _ (k : Corner → ℕ) where
  one_above : (a b c : Corner) → Amid k a → Amid k b → Amid k c → 0 < one_inside (k a) (k b) (k c)
  one_above a b c l m n = mul-pos l.0 (mul-pos m.0 n.0)

  two_above : (a b c d : Corner) → Amid k c → Amid k d → 0 < two_inside (k a) (k b) (k c) (k d)
  two_above a b c d l m = let h = mul-pos l.0 m.0 in omega arith

  three_above : (a b c : Corner) → Amid k a → Amid k b → Amid k c → 0 < three_inside (k a) (k b) (k c)
  three_above a b c l m n =
      let h = products_below (rest (k a)) (rest (k b)) (rest (k c)) (omega arith) (omega arith) (omega arith) in omega arith

  part_above :
      (j l m : Bool) (p0 p1 p2 p3 : Point) → AllByRecursion (λ t. AllByRecursion (Amid k) (corners t)) (cut true j l m p0 p1 p2 p3) →
      0 < inside_part k true j l m p0 p1 p2 p3
  part_above false false false p0 p1 p2 p3 a = one_above _ _ _ a.0.0 a.0.1.0 a.0.1.1.0
  part_above true false false p0 p1 p2 p3 a = two_above (edge p0 p2) (edge p0 p3) _ _ a.1.0.1.1.0 a.0.1.1.0
  part_above false true false p0 p1 p2 p3 a = two_above (edge p0 p1) (edge p0 p3) _ _ a.1.0.1.0 a.0.1.0
  part_above false false true p0 p1 p2 p3 a = two_above (edge p0 p1) (edge p0 p2) _ _ a.1.0.1.1.0 a.0.1.1.0
  part_above true true false p0 p1 p2 p3 a = three_above _ _ _ a.0.0 a.0.1.0 a.0.1.1.0
  part_above true false true p0 p1 p2 p3 a = three_above _ _ _ a.0.0 a.0.1.0 a.0.1.1.0
  part_above false true true p0 p1 p2 p3 a = three_above _ _ _ a.0.0 a.0.1.0 a.0.1.1.0
  part_above true true true p0 p1 p2 p3 a = omega arith

  first_above :
      (f : Point → Bool) (u v w : ℕ) → f (pt u v w) ≡ true → AllByRecursion (λ o. AllByRecursion (λ t. AllByRecursion (Amid k) (corners t)) (in_piece f (pt u v w) o)) pieces →
      0 < sum_of (inside_piece f k (pt u v w)) pieces
  unfolding in_piece inside_piece
  first_above f u v w e a =
      let p = pt u v w in let q = pt (suc u) v w in let r = pt (suc u) (suc v) w in let s = pt (suc u) (suc v) (suc w) in
      let first : 0 < inside_by k f p q r s =
      subst (λ i. AllByRecursion (λ t. AllByRecursion (Amid k) (corners t)) (cut i (f q) (f r) (f s) p q r s) → 0 < inside_part k i (f q) (f r) (f s) p q r s)
      (sym e) (part_above (f q) (f r) (f s) p q r s) a.0 in
      omega arith

pub above_zero_within :
    (f : Point → Bool) (x y z : ℕ) → Border f x y z → (k : Corner → ℕ) → WithinSteps k f →
    (p : Point) → f p ≡ true → 0 < inside_sum f k x y z
unfolding inside_sum
above_zero_within f x y z border k within (pt u v w) e =
    let amid = border (pt u v w) e in
    let first = first_above k f u v w e (pieces_amid k f within (pt u v w)) in
    omega (arith, over_cubes_at x y z (λ p. sum_of (inside_piece f k p) pieces) u v w amid.0.1 amid.1.1 amid.2.1)

pub above_zero : AboveZero
above_zero f x y z border k range = above_zero_within f x y z border k (in_range_within k f range)
