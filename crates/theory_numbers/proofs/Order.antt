-- The cubes in their order, and in which of them a corner is met first. Assumes nothing.
use Rattle.std.proofs.Common.{◌≡◌, ℕ, suc, ◌+◌, ◌-◌, ◌<◌, ◌≤◌, max, Bool, ◌≢◌, ◌⊎◌, sym, refl, ◌∙◌, subst, ap₂, subst₂, inl, inr, append_assoc, append-nil, arith}
use Rattle.std.proofs.lemmas.Bool.{cases_lt}
use Rattle.theory.specs.Grid.{Point, pt, highest, ◌⊕◌, Border}
use Rattle.theory.specs.Triangle.{edge, sum_of, has, with_corner}
use Rattle.theory.specs.Skin.{Corner, Triangle, same, cube, below, skin}
use Rattle.theory.specs.Faces.{sum_below, over_cubes}
use Rattle.theory.proofs.Sums.{sum_append, sum_skin, sum_below_list, sum_below_same, sum_below_zero}
use Rattle.theory.proofs.Crossings.{Crossing, skin_crosses, corner_of}
use Rattle.theory_numbers.specs.Order.{before, upper, InOrder, FirstMet}
use Rattle.theory_numbers.proofs.Cubes.{sum_below_has, over_cubes_has}
use Rattle.theory_numbers.proofs.Crossed.{Ends, upper_end, top_has, Within, upper_within}

pub in_order : (f : Point → Bool) (x y : ℕ) → InOrder f x y
unfolding before skin
in_order f x y =
    record {
      start = refl;
      next_cube = λ i j k. simp append_assoc;
      next_row = λ j k. simp append-nil;
      next_layer = λ k. simp append-nil;
      end = λ z. append-nil (skin f x y z);
    }

-- the first cube comes before the second
abbrev Earlier : Point → Point → Type 0
Earlier (pt a b c) (pt i j k) = (c < k) ⊎ ((c ≡ k) × ((b < j) ⊎ ((b ≡ j) × (a < i))))

module _ (f : Point → Bool) (x y : ℕ) (h : Triangle → ℕ) where
  abbrev weight : Point → ℕ
  weight p = sum_of h (cube f p)

  sum_before :
      (i j k : ℕ) →
      sum_of h (before f x y (pt i j k))
      ≡ over_cubes x y k weight + (sum_below j (λ j. sum_below x (λ i. weight (pt i j k))) + sum_below i (λ i. weight (pt i j k)))
  unfolding before
  sum_before i j k =
      sum_append h (skin f x y k) _
      ∙ ap₂ ◌+◌ (sum_skin h f x y k)
      (sum_append h (below j (λ j. below x (λ i. cube f (pt i j k)))) _
      ∙ ap₂ ◌+◌ (sum_below_list h j _ ∙ sum_below_same j _ _ (λ j _. sum_below_list h x _)) (sum_below_list h i _))

  none_before : (i j k : ℕ) → ((a : Point) → Earlier a (pt i j k) → weight a ≡ 0) → sum_of h (before f x y (pt i j k)) ≡ 0
  none_before i j k e =
      let a = sum_below_zero k (λ k. sum_below y (λ j. sum_below x (λ i. weight (pt i j k)))) (λ c l.
      sum_below_zero y _ (λ j _. sum_below_zero x _ (λ i _. e (pt i j c) (inl l)))) in
      let b = sum_below_zero j (λ j. sum_below x (λ i. weight (pt i j k))) (λ b l.
      sum_below_zero x _ (λ i _. e (pt i b k) (inr (refl, inl l)))) in
      let c = sum_below_zero i (λ i. weight (pt i j k)) (λ a l. e (pt a j k) (inr (refl, inr (refl, l)))) in
      omega (arith, sum_before i j k)

  some_before :
      (i j k a b c : ℕ) → a < x → b < y → Earlier (pt a b c) (pt i j k) → weight (pt a b c) ≤ sum_of h (before f x y (pt i j k))
  some_before i j k a b c la lb (inl l) = omega (arith, sum_before i j k, over_cubes_has x y k weight a b c la lb l)
  some_before i j k a b c la lb (inr (e, inl l)) =
      subst (λ c. weight (pt a b c) ≤ sum_of h (before f x y (pt i j k))) (sym e)
      (omega (
        arith,
        sum_before i j k,
        sum_below_has x (λ i. weight (pt i b k)) a la,
        sum_below_has j (λ j. sum_below x (λ i. weight (pt i j k))) b l,
      ))
  some_before i j k a b c la lb (inr (e, inr (d, l))) =
      subst₂ (λ b c. weight (pt a b c) ≤ sum_of h (before f x y (pt i j k))) (sym d) (sym e)
      (omega (arith, sum_before i j k, sum_below_has i (λ i. weight (pt i j k)) a l))

-- a corner whose edge ends at the highest point of a cube is out of reach of every cube before
met_new :
    (f : Point → Bool) (x y i j k : ℕ) (c : Corner) → upper c ≡ pt i j k ⊕ highest → with_corner same c (before f x y (pt i j k)) ≡ 0
met_new f x y i j k c e = none_before f x y (has same c) i j k none
  where
    none : (a : Point) → Earlier a (pt i j k) → with_corner same c (cube f a) ≡ 0
    none (pt u v w) l =
        elim (cases_lt 0 (with_corner same c (cube f (pt u v w))))
        [ inl h ↦ let r = subst (Within (pt u v w)) e (upper_within f (pt u v w) c h) in absurd (omega arith) | inr h ↦ omega arith ]

-- One end of a corner's edge is inside, so it is no border point, and there is a cube whose highest point is the upper end. That cube has
-- the corner, and each cube that has it comes after that one or is that one.
module _ (f : Point → Bool) (x y z i j k : ℕ) (out : Border f x y z) (lx : i < x) (ly : j < y) (lz : k < z) where
  crosses : (c : Corner) → 0 < with_corner same c (cube f (pt i j k)) → Crossing f c
  crosses c h =
      corner_of (Crossing f) c (skin f x y z) (skin_crosses f x y z)
      (omega (arith, sum_skin (has same c) f x y z, over_cubes_has x y z (λ p. with_corner same c (cube f p)) i j k lx ly lz))

  met_before :
      (c : Corner) → 0 < with_corner same c (cube f (pt i j k)) → upper c ≢ pt i j k ⊕ highest →
      0 < with_corner same c (before f x y (pt i j k))
  met_before (edge (pt a b c) (pt d e g)) h n =
      let m = edge (pt a b c) (pt d e g) in
      let p = crosses m h in
      let r = out (pt a b c) p.1 in
      let w = upper_within f (pt i j k) m h in
      let u = max a d - 1 in let v = max b e - 1 in let o = max c g - 1 in
      let eu : max a d ≡ suc u = omega arith in
      let ev : max b e ≡ suc v = omega arith in
      let eo : max c g ≡ suc o = omega arith in
      let t = top_has f (pt u v o) (pt a b c) (pt d e g) p.0 p.1 p.2 (λ t. pt (eu t) (ev t) (eo t)) in
      let earlier : Earlier (pt u v o) (pt i j k) =
      elim (cases_lt o k) [
        | inl l ↦ inl l
        | inr lo ↦ inr (
          omega arith,
          elim (cases_lt v j) [
            | inl l ↦ inl l
            | inr lv ↦ inr (
              omega arith,
              elim (cases_lt u i) [
                | inl l ↦ l
                | inr lu ↦
                    let iu : max a d ≡ suc i = omega arith in
                    let iv : max b e ≡ suc j = omega arith in
                    let io : max c g ≡ suc k = omega arith in
                    absurd (n (λ t. pt (iu t) (iv t) (io t)))
              ],
            )
          ],
        )
      ] in
      omega (arith, some_before f x y (has same m) i j k u v o (omega arith) (omega arith) earlier)

  pub first_met : (c : Corner) → 0 < with_corner same c (cube f (pt i j k)) → FirstMet f x y i j k c
  first_met c h =
      record {
        end = λ p q e. subst (λ c. Ends c p q) (sym e) (upper_end p q (subst (Crossing f) e (crosses c h)).0);
        new = met_new f x y i j k c;
        known = met_before c h;
      }
