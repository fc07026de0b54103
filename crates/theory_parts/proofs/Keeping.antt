-- What holds of each triangle of a skin holds in each piece of the grid, and a skin is kept from piece by piece. Assumes nothing.
use Rattle.std.proofs.Common.{◌≡◌, ℕ, zero, suc, ◌<◌, Bool, true, false, List, [], ◌∷◌, ◌++◌, refl, ◌∙◌, subst, ap₂, inl, inr, arith}
use Rattle.std.proofs.lemmas.List.Elements.{filter-append}
use Rattle.std.proofs.lemmas.Bool.{cases_lt, cond-true, cond-false}
use Rattle.std.specs.List.{flat_map, filter, AllByRecursion}
use Rattle.theory.specs.Grid.{Point, pt, pieces}
use Rattle.theory.specs.Skin.{Triangle, in_piece, cube, below, skin}
use Rattle.theory.proofs.Sums.{every_split, every_parts}

every_below_at : {A : Type 0} (P : A → Type 0) (n : ℕ) (g : ℕ → List A) → AllByRecursion P (below n g) → (i : ℕ) → i < n → AllByRecursion P (g i)
every_below_at P zero g a i l = absurd (omega arith)
every_below_at P (suc n) g a i l =
    let r = every_split P (below n g) (g n) a in
    elim (cases_lt i n)
    [ inl k ↦ every_below_at P n g r.0 i k | inr k ↦ let e : n ≡ i = omega arith in subst (λ m. AllByRecursion P (g m)) e r.1 ]

pub every_in_skin :
    (P : Triangle → Type 0) (f : Point → Bool) (x y z : ℕ) → AllByRecursion P (skin f x y z) →
    (i j k : ℕ) → i < x → j < y → k < z → AllByRecursion (λ w. AllByRecursion P (in_piece f (pt i j k) w)) pieces
unfolding skin cube
every_in_skin P f x y z a i j k u v w =
    every_parts P (in_piece f (pt i j k)) pieces (every_below_at P x _ (every_below_at P y _ (every_below_at P z _ a k w) j v) i u)

module _ {A : Type 0} (t : A → Bool) where
  kept_joined :
      {B : Type 0} (g h : B → List A) (xs : List B) → AllByRecursion (λ x. filter t (g x) ≡ h x) xs → filter t (flat_map g xs) ≡ flat_map h xs
  kept_joined g h [] e = refl
  kept_joined g h (x ∷ xs) e = filter-append t (g x) (flat_map g xs) ∙ ap₂ ◌++◌ e.0 (kept_joined g h xs e.1)

  kept_below : (n : ℕ) (g h : ℕ → List A) → ((i : ℕ) → i < n → filter t (g i) ≡ h i) → filter t (below n g) ≡ below n h
  kept_below zero g h e = refl
  kept_below (suc n) g h e =
      filter-append t (below n g) (g n) ∙ ap₂ ◌++◌ (kept_below n g h (λ i l. e i (omega arith))) (e n (omega arith))

  pub kept_none : (xs : List A) → AllByRecursion (λ x. t x ≡ false) xs → filter t xs ≡ []
  kept_none [] a = refl
  kept_none (x ∷ xs) a = cond-false (t x) (x ∷ filter t xs) (filter t xs) a.0 ∙ kept_none xs a.1

  pub kept_all : (xs : List A) → AllByRecursion (λ x. t x ≡ true) xs → filter t xs ≡ xs
  kept_all [] a = refl
  kept_all (x ∷ xs) a = cond-true (t x) (x ∷ filter t xs) (filter t xs) a.0 ∙ (λ i. x ∷ kept_all xs a.1 i)

pub kept_skin :
    (t : Triangle → Bool) (f g : Point → Bool) (x y z : ℕ) →
    ((i j k : ℕ) → i < x → j < y → k < z → AllByRecursion (λ w. filter t (in_piece f (pt i j k) w) ≡ in_piece g (pt i j k) w) pieces) →
    filter t (skin f x y z) ≡ skin g x y z
unfolding skin cube
kept_skin t f g x y z e =
    kept_below t z _ _ (λ k w. kept_below t y _ _ (λ j v. kept_below t x _ _ (λ i u.
    kept_joined t (in_piece f (pt i j k)) (in_piece g (pt i j k)) pieces (e i j k u v w))))

pub every_both : {A : Type 0} (P Q : A → Type 0) (xs : List A) → AllByRecursion P xs → AllByRecursion Q xs → AllByRecursion (λ x. P x × Q x) xs
every_both P Q [] a b = tt
every_both P Q (x ∷ xs) a b = ((a.0, b.0), every_both P Q xs a.1 b.1)
