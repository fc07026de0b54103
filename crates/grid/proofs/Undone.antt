-- Numbers of points and edges are undone by division, so different ones have different numbers. Assumes nothing.
use Rattle.std.proofs.Common.{◌≡◌, ℕ, zero, suc, ◌+◌, ◌*◌, ◌/◌, ◌%◌, ◌<◌, ◌↔◌, Some, None, Option, sym, refl, ap, ◌∙◌, subst, arith}
use native.Mathlib.Nat.{mod-add-div}
use Rattle.std.specs.Option.{option_zip}
use Rattle.std.proofs.lemmas.Nat.{mul-add-lt, div-mul-add, mod-mul-add, div_below, mod_below}
use Rattle.std.proofs.lemmas.Bool.{lt-ltb, ltb-true}
use Rattle.theory.specs.Grid.{Point, pt}
use Rattle.grid.specs.declared.edge.Step.{Step}
use Rattle.grid.specs.Places.{step_in, step_number}
use Rattle.grid.specs.Numbers.{number_of, point_of, point_in, edge_number, edge_in, Within, PointsNumbered, EdgesNumbered}
use Rattle.grid.proofs.Ends.{some_injective, some_if, step_number_below, step_found, step_undone}

-- a point's number ends before the number of points
number_below : (a b c : ℕ) (p : Point) → Within a b c p → number_of a b p < a * (b * c)
number_below a b c (pt x y z) h =
    let row : y + b * z < b * c = omega (arith, mul-add-lt z b y c h.2 h.1) in
    omega (arith, mul-add-lt (y + b * z) a x (b * c) row h.0)

first_digit : (x a m : ℕ) → x < a → (x + a * m) % a ≡ x
first_digit x a m h = let e : x + a * m ≡ m * a + x = omega arith in ap (λ n. n % a) e ∙ mod-mul-add m a x h

other_digits : (x a m : ℕ) → x < a → (x + a * m) / a ≡ m
other_digits x a m h = let e : x + a * m ≡ m * a + x = omega arith in ap (λ n. n / a) e ∙ div-mul-add m a x h

point_found : (a b c : ℕ) (p : Point) → Within a b c p → point_of a b (number_of a b p) ≡ p
point_found a b c (pt x y z) h =
    let e : (x + a * (y + b * z)) / a ≡ y + b * z = other_digits x a (y + b * z) h.0 in
    λ i. pt (first_digit x a (y + b * z) h.0 i) ((ap (λ m. m % b) e ∙ first_digit y b z h.1) i) ((ap (λ m. m / b) e ∙ other_digits y b z h.1) i)

layer_below : (a b c n : ℕ) → 0 < a → 0 < b → n < a * (b * c) → n / a / b < c
layer_below a b c n ha hb h =
    let rows : n / a < b * c = div_below n a (b * c) ha (omega arith) in
    div_below (n / a) b c hb (omega arith)

number_found : (a b n : ℕ) → number_of a b (point_of a b n) ≡ n
number_found a b n = ap (λ k. n % a + a * k) (mod-add-div (n / a) b) ∙ mod-add-div n a

factor_above : (a m n : ℕ) → n < a * m → 0 < a
factor_above zero m n h = omega arith
factor_above (suc a) m n h = omega arith

point_within : (a b c n : ℕ) → n < a * (b * c) → Within a b c (point_of a b n)
point_within a b c n h =
    let ha : 0 < a = factor_above a (b * c) n h in
    let hb : 0 < b = factor_above b c (n / a) (div_below n a (b * c) ha (omega arith)) in
    (mod_below n a ha, mod_below (n / a) b hb, layer_below a b c n ha hb h)

point_undone : (a b c n : ℕ) (p : Point) → (point_in a b c n ≡ Some p) ↔ (Within a b c p × (number_of a b p ≡ n))
point_undone a b c n p = (
  λ e.
      let h = (some_if _ (point_of a b n) p).0 e in
      (subst (Within a b c) h.1 (point_within a b c n (ltb-true n _ h.0)), ap (number_of a b) (sym h.1) ∙ number_found a b n),
  λ h.
      (some_if _ _ p).1 (lt-ltb n _ (subst (λ k. k < a * (b * c)) h.1 (number_below a b c p h.0)), ap (point_of a b) (sym h.1) ∙ point_found a b c p h.0),
)

pub points_numbered : PointsNumbered
points_numbered =
    record {
      undone = point_undone;
      below = number_below;
      apart = λ a b c p q hp hq e. some_injective p q (sym ((point_undone a b c _ p).1 (hp, e)) ∙ (point_undone a b c _ q).1 (hq, refl));
    }

some_zipped : {T U : Type 0} (x : Option T) (y : Option U) (e : T × U) → (option_zip x y ≡ Some e) ↔ ((x ≡ Some e.0) × (y ≡ Some e.1))
some_zipped None y e = (λ h. (cc, cc), λ h. cc)
some_zipped (Some u) None e = (λ h. (cc, cc), λ h. cc)
some_zipped (Some u) (Some v) e = (
  λ h. (ap (λ t. Some t.0) (some_injective (u, v) e h), ap (λ t. Some t.1) (some_injective (u, v) e h)),
  λ h i. Some (some_injective u e.0 h.0 i, some_injective v e.1 h.1 i),
)

edge_undone : (a b c n : ℕ) (e : Point × Step) → (edge_in a b c n ≡ Some e) ↔ (Within a b c e.0 × (edge_number a b e ≡ n))
edge_undone a b c n e = (
  λ found.
      let h = (some_zipped (point_in a b c (n / 7)) (step_in (n % 7)) e).0 found in
      let upper = (point_undone a b c (n / 7) e.0).0 h.0 in
      let step = step_undone (n % 7) e.1 h.1 in
      (upper.0, omega (arith, upper.1)),
  λ h.
      let less = step_number_below e.1 in
      let upper : number_of a b e.0 ≡ n / 7 = omega (arith, h.1) in
      let step : step_number e.1 ≡ n % 7 = omega (arith, h.1) in
      (some_zipped _ _ e).1 ((point_undone a b c (n / 7) e.0).1 (h.0, upper), ap step_in (sym step) ∙ step_found e.1),
)

pub edges_numbered : EdgesNumbered
edges_numbered =
    record {
      undone = edge_undone;
      below = λ a b c e h. omega (arith, number_below a b c e.0 h, step_number_below e.1);
      apart = λ a b c e f he hf same. some_injective e f (sym ((edge_undone a b c _ e).1 (he, same)) ∙ (edge_undone a b c _ f).1 (hf, refl));
    }
