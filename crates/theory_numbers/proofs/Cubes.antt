-- Sums and lengths over all cubes, one of which is at most the whole. Assumes nothing.
use Rattle.std.proofs.Common.{◌≡◌, ℕ, zero, suc, ◌+◌, ◌*◌, ◌<◌, ◌≤◌, Bool, true, false, List, length, ◌∙◌, subst, inl, inr, mul-suc, arith, length-append}
use Rattle.std.proofs.lemmas.Bool.{cases_lt}
use Rattle.theory.specs.Grid.{Point, pt, raised}
use Rattle.theory.specs.Triangle.{sum_of}
use Rattle.theory.specs.Skin.{below}
use Rattle.theory.specs.Faces.{sum_below, over_cubes}
use Rattle.theory.proofs.Sums.{sum_below_list, sum_below_same}

-- a step of one at most
pub raised_between : (b : Bool) (n : ℕ) → (n ≤ raised b n) × (raised b n ≤ suc n)
raised_between false n = omega arith
raised_between true n = omega arith

pub sum_below_has : (n : ℕ) (h : ℕ → ℕ) (i : ℕ) → i < n → h i ≤ sum_below n h
sum_below_has zero h i l = absurd (omega arith)
sum_below_has (suc n) h i l =
    elim (cases_lt i n) [
      | inl k ↦ omega (arith, sum_below_has n h i k)
      | inr k ↦ subst (λ m. h m ≤ sum_below n h + h n) (let e : n ≡ i = omega arith in e) (omega arith)
    ]

pub over_cubes_has : (x y z : ℕ) (h : Point → ℕ) (i j k : ℕ) → i < x → j < y → k < z → h (pt i j k) ≤ over_cubes x y z h
over_cubes_has x y z h i j k a b c =
    omega (
      arith,
      sum_below_has x (λ i. h (pt i j k)) i a,
      sum_below_has y (λ j. sum_below x (λ i. h (pt i j k))) j b,
      sum_below_has z (λ k. sum_below y (λ j. sum_below x (λ i. h (pt i j k)))) k c,
    )

-- a sum over the lists of all cubes, put together
pub sum_cubes :
    {A : Type 0} (h : A → ℕ) (g : Point → List A) (x y z : ℕ) →
    sum_of h (below z (λ k. below y (λ j. below x (λ i. g (pt i j k))))) ≡ over_cubes x y z (λ p. sum_of h (g p))
sum_cubes h g x y z =
    sum_below_list h z _ ∙ sum_below_same z _ _ (λ k _. sum_below_list h y _ ∙ sum_below_same y _ _ (λ j _. sum_below_list h x _))

-- lists of at most m elements each, put together
pub length_below : {A : Type 0} (g : ℕ → List A) (m : ℕ) → ((i : ℕ) → length (g i) ≤ m) → (n : ℕ) → length (below n g) ≤ m * n
length_below g m e zero = omega arith
length_below g m e (suc n) = omega (arith, length_below g m e n, e n, length-append (below n g) (g n), mul-suc m n)
