-- Counts of what passes a test, and sums that are at most what one of their terms is. Assumes nothing.
use Rattle.std.proofs.Common.{◌≡◌, ℕ, zero, suc, ◌+◌, ◌<◌, ◌≤◌, Bool, true, false, cond, ◌&&◌, eqb, ◌⊎◌, List, [], ◌∷◌, refl, inl, inr, arith}
use Rattle.std.proofs.lemmas.Bool.{eqb-true, ne_eqb, cond-false}
use Rattle.std.specs.List.{AllByRecursion}
use Rattle.theory.specs.Grid.{Point, pt, same_point, Offset, off, raised, ◌⊕◌}
use Rattle.theory.specs.Triangle.{sum_of, one_if}
use Rattle.theory.specs.Faces.{sum_below, over_cubes}
use Rattle.theory.proofs.Sums.{sum_below_zero}

pub one_if_and : (p q : Bool) → one_if (p && q) ≡ cond p (one_if q) 0
one_if_and true q = refl
one_if_and false q = refl

pub one_if_then : (p q : Bool) → one_if (p && q) ≡ cond q (one_if p) 0
one_if_then true q = refl
one_if_then false true = refl
one_if_then false false = refl

pub sum_le : {A : Type 0} (h g : A → ℕ) (xs : List A) → AllByRecursion (λ x. h x ≤ g x) xs → sum_of h xs ≤ sum_of g xs
sum_le h g [] e = omega arith
sum_le h g (x ∷ xs) e = let r = sum_le h g xs e.1 in omega arith

-- if X follows wherever a test passes, then it passes nowhere or X holds
pub none_or : {A : Type 0} (X : Type 0) (t : A → Bool) (xs : List A) → AllByRecursion (λ x. t x ≡ true → X) xs →
    (sum_of (λ x. one_if (t x)) xs ≡ 0) ⊎ X
none_or X t [] h = inl refl
none_or X t (x ∷ xs) h = go (t x) refl (none_or X t xs h.1)
  where
    go : (b : Bool) → t x ≡ b → (sum_of (λ y. one_if (t y)) xs ≡ 0) ⊎ X → (one_if b + sum_of (λ y. one_if (t y)) xs ≡ 0) ⊎ X
    go true e r = inr (h.0 e)
    go false e (inl r) = inl (omega arith)
    go false e (inr r) = inr r

raised_below : (a : Bool) (i n : ℕ) → i < n → raised a i < raised a n
raised_below false i n l = l
raised_below true i n l = omega arith

-- one place at most is raised to a given one: a sum that is 0 at every other is at most its value there
pub one_place : (a : Bool) (u m : ℕ) (h : ℕ → ℕ) → ((i : ℕ) → h i ≤ cond (eqb (raised a i) u) m 0) → (n : ℕ) → sum_below n h ≤ m
one_place a u m h g zero = omega arith
one_place a u m h g (suc n) = go (eqb (raised a n) u) refl (g n) (one_place a u m h g n)
  where
    go : (t : Bool) → eqb (raised a n) u ≡ t → h n ≤ cond t m 0 → sum_below n h ≤ m → sum_below n h + h n ≤ m
    go false e k r = omega arith
    go true e k r =
        let other : (i : ℕ) → i < n → eqb (raised a i) u ≡ false =
        λ i l. ne_eqb _ _ (λ q. omega (arith, raised_below a i n l, eqb-true (raised a n) u e)) in
        let z = sum_below_zero n h (λ i l. omega (arith, g i, cond-false (eqb (raised a i) u) m 0 (other i l))) in
        omega arith

-- one cube at most has a given point at a given offset: a sum over the cubes that is 0 at every other, and there at most 1, is at most 1
pub one_cube : (h : Point → ℕ) (o : Offset) (p : Point) → ((l : Point) → h l ≤ one_if (same_point (l ⊕ o) p)) →
    (x y z : ℕ) → over_cubes x y z h ≤ 1
unfolding same_point
one_cube h (off a b c) (pt u v w) g x y z =
    one_place c w 1 _ (λ k. one_place b v _ _ (λ j. one_place a u _ _ (λ i. simp (← one_if_and) (g (pt i j k))) x) y) z
