-- What stands where in a list, and which corners a triangle has. Assumes nothing.
use Rattle.std.proofs.Common.{◌≡◌, ℕ, zero, suc, ◌+◌, ◌<◌, true, ◌||◌, eqb, ◌⊎◌, List, [], ◌∷◌, map, length, sym, refl, ap, ◌∙◌, subst, inl, inr, zero-add, arith}
use Rattle.std.specs.List.{range_with_len}
use Rattle.std.proofs.lemmas.Bool.{eqb-true, eq-eqb, or_cases, or_left, or_right, cases_Bool}
use Rattle.theory.specs.Triangle.{tri, has, one_if}
use Rattle.theory_parts.specs.Parts.{Stands}

pub stands_some : {A : Type 0} (xs : List A) (i : ℕ) → i < length xs → (x : A) × Stands xs i x
stands_some [] i l = absurd (omega arith)
stands_some (x ∷ xs) zero l = (x, refl)
stands_some (x ∷ xs) (suc i) l = stands_some xs i (omega arith)

-- in a list made from a function of the place
module _ {A : Type 0} (f : ℕ → A) where
  stands_counted : (a n i : ℕ) → i < n → Stands (map f (range_with_len a n)) i (f (a + i))
  stands_counted a zero i l = absurd (omega arith)
  stands_counted a (suc n) zero l = ap f (omega arith)
  stands_counted a (suc n) (suc i) l =
      subst (λ k. Stands (map f (range_with_len (a + 1) n)) i (f k)) (omega arith) (stands_counted (a + 1) n i (omega arith))

  counted_stands : (a n i : ℕ) (x : A) → Stands (map f (range_with_len a n)) i x → (i < n) × (f (a + i) ≡ x)
  counted_stands a zero i x s = absurd s
  counted_stands a (suc n) zero x s = (omega arith, ap f (omega arith) ∙ s)
  counted_stands a (suc n) (suc i) x s =
      let r = counted_stands (a + 1) n i x s in (omega (arith, r.0), ap f (omega arith) ∙ r.1)

  pub stands_in : (n i : ℕ) → i < n → Stands (map f (range_with_len 0 n)) i (f i)
  stands_in n i l = subst (λ k. Stands (map f (range_with_len 0 n)) i (f k)) (zero-add i) (stands_counted 0 n i l)

  pub in_stands : (n i : ℕ) (x : A) → Stands (map f (range_with_len 0 n)) i x → (i < n) × (f i ≡ x)
  in_stands n i x s = let r = counted_stands 0 n i x s in (r.0, ap f (sym (zero-add i)) ∙ r.1)

-- c is one of the three corners
abbrev pub OneOf : ℕ → ℕ → ℕ → ℕ → Type 0
OneOf c a b e = (c ≡ a) ⊎ ((c ≡ b) ⊎ (c ≡ e))

pub has_one : (c a b e : ℕ) → OneOf c a b e → 0 < has eqb c (tri a b e)
unfolding has
has_one c a b e w = omega (arith, ap one_if (test w))
  where
    test : OneOf c a b e → (eqb a c || (eqb b c || eqb e c)) ≡ true
    test (inl x) = or_left (eqb a c) (eqb b c || eqb e c) (eq-eqb a c (sym x))
    test (inr (inl x)) = or_right (eqb a c) (eqb b c || eqb e c) (or_left (eqb b c) (eqb e c) (eq-eqb b c (sym x)))
    test (inr (inr x)) = or_right (eqb a c) (eqb b c || eqb e c) (or_right (eqb b c) (eqb e c) (eq-eqb e c (sym x)))

pub one_had : (c a b e : ℕ) → 0 < has eqb c (tri a b e) → OneOf c a b e
unfolding has
one_had c a b e h =
    elim (cases_Bool (eqb a c || (eqb b c || eqb e c))) [
      | inl t ↦ elim (or_cases (eqb a c) (eqb b c || eqb e c) t) [
        | inl x ↦ inl (sym (eqb-true a c x))
        | inr y ↦ elim (or_cases (eqb b c) (eqb e c) y)
            [ inl x ↦ inr (inl (sym (eqb-true b c x))) | inr x ↦ inr (inr (sym (eqb-true e c x))) ]
      ]
      | inr t ↦ absurd (omega (arith, ap one_if t))
    ]
