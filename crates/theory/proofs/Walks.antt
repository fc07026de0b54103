-- Walks put together: what can be followed from one end to the other, each part once, sums to one walk, whatever a step weighs.
-- Assumes nothing.
use Rattle.std.proofs.Common.{◌≡◌, ℕ, zero, suc, ◌+◌, Bool, true, false, cond, ◌&&◌, List, [], ◌∷◌, ◌++◌, map, sym, refl, ap, ◌∙◌, subst, ap₂, subst₂, add-zero, arith}
use Rattle.std.proofs.lemmas.Bool.{and_parts, cond_both, false≢true}
use Rattle.std.specs.List.{AllByRecursion}
use Rattle.theory.specs.Triangle.{sum_of, walk}

-- the sum S of weights of steps is that of a walk from a to b
abbrev pub Leads : {C : Type 0} → ((C × C → ℕ) → ℕ) → C → C → Type 0
Leads {C} S a b = (ds : List C) × ((h : C × C → ℕ) → S h ≡ sum_of h (walk a ds b))

pub sum_walk_append :
    {C : Type 0} (h : C × C → ℕ) (a b c : C) (xs ys : List C) →
    sum_of h (walk a (xs ++ b ∷ ys) c) ≡ sum_of h (walk a xs b) + sum_of h (walk b ys c)
sum_walk_append h a b c [] ys = omega arith
sum_walk_append h a b c (x ∷ xs) ys = let e = sum_walk_append h x b c xs ys in omega arith

pub sum_walk_map :
    {C D : Type 0} (m : C → D) (h : D × D → ℕ) (a b : C) (xs : List C) →
    sum_of h (walk (m a) (map m xs) (m b)) ≡ sum_of (λ s. h (m s.0, m s.1)) (walk a xs b)
sum_walk_map m h a b [] = refl
sum_walk_map m h a b (x ∷ xs) = ap (λ n. h (m a, m x) + n) (sum_walk_map m h x b xs)

pub leads_then : {C : Type 0} {S T : (C × C → ℕ) → ℕ} {a b c : C} → Leads S a b → Leads T b c → Leads (λ h. S h + T h) a c
leads_then {a = a} {b = b} {c = c} s t =
    (s.0 ++ b ∷ t.0, λ h. ap₂ (λ m n. m + n) (s.1 h) (t.1 h) ∙ sym (sum_walk_append h a b c s.0 t.0))

behind : {A : Type 0} → A → List A → List A
behind x [] = x ∷ []
behind x (y ∷ ys) = y ∷ x ∷ ys

-- the first element that passes a test is brought to the front
bring : {A : Type 0} → (A → Bool) → List A → List A
unfolding behind
bring t [] = []
bring t (x ∷ xs) = cond (t x) (x ∷ xs) (behind x (bring t xs))

sum_behind : {A : Type 0} (h : A → ℕ) (x : A) (xs : List A) → sum_of h (behind x xs) ≡ h x + sum_of h xs
unfolding behind
sum_behind h x [] = refl
sum_behind h x (y ∷ ys) = omega arith

sum_bring : {A : Type 0} (h : A → ℕ) (t : A → Bool) (xs : List A) → sum_of h (bring t xs) ≡ sum_of h xs
unfolding bring
sum_bring h t [] = refl
sum_bring h t (x ∷ xs) =
    cond_both (t x) _ _ (λ ys. sum_of h ys ≡ h x + sum_of h xs) (λ _. refl) (λ _. sum_behind h x _ ∙ ap (λ n. h x + n) (sum_bring h t xs))

-- Things that lead from one place to another, each by `from` and `to`
module _ {A B : Type 0} (same : B → B → Bool) (from to : A → B) where
  -- the same things, each where the one before it leads to, as far as such are found
  unfoldable pub trail : ℕ → B → List A → List A
  unfolding bring
  trail zero a xs = xs
  trail (suc n) a xs = elim (bring (λ x. same (from x) a) xs) [ [] ↦ [] | x ∷ ys ↦ x ∷ trail n (to x) ys ]

  pub sum_trail : (h : A → ℕ) (n : ℕ) (a : B) (xs : List A) → sum_of h (trail n a xs) ≡ sum_of h xs
  unfolding trail
  sum_trail h zero a xs = refl
  sum_trail h (suc n) a xs =
      (elim (bring (λ x. same (from x) a) xs) as (λ zs. sum_of h (elim zs [ [] ↦ [] | x ∷ ys ↦ x ∷ trail n (to x) ys ]) ≡ sum_of h zs)
      [ [] ↦ refl | x ∷ ys ↦ ap (λ m. h x + m) (sum_trail h n (to x) ys) ])
      ∙ sum_bring h (λ x. same (from x) a) xs

  -- each leads to where the next one starts, from a to b
  abbrev pub chained : B → List A → B → Bool
  chained a [] b = false
  chained a (x ∷ []) b = same (from x) a && same (to x) b
  chained a (x ∷ y ∷ ys) b = same (from x) a && chained (to x) (y ∷ ys) b

  module _ {C : Type 0} (mate : B → C) (S : (C × C → ℕ) → A → ℕ) (sound : (a b : B) → same a b ≡ true → a ≡ b) where
    pub leads_chained :
        (a : B) (xs : List A) (b : B) → chained a xs b ≡ true →
        AllByRecursion (λ x. Leads (λ h. S h x) (mate (from x)) (mate (to x))) xs → Leads (λ h. sum_of (S h) xs) (mate a) (mate b)
    leads_chained a [] b e l = absurd (false≢true e)
    leads_chained a (x ∷ []) b e l =
        let p = and_parts (same (from x) a) (same (to x) b) e in
        subst₂ (λ a b. Leads (λ h. S h x + 0) (mate a) (mate b)) (sound _ _ p.0) (sound _ _ p.1)
        (l.0.0, λ h. add-zero (S h x) ∙ l.0.1 h)
    leads_chained a (x ∷ y ∷ ys) b e l =
        let p = and_parts (same (from x) a) (chained (to x) (y ∷ ys) b) e in
        subst (λ a. Leads (λ h. S h x + sum_of (S h) (y ∷ ys)) (mate a) (mate b)) (sound _ _ p.0)
        (leads_then l.0 (leads_chained (to x) (y ∷ ys) b p.1 l.1))

    -- things in any order, if they can be followed
    pub leads_trail :
        (n : ℕ) (a : B) (xs : List A) (b : B) → chained a (trail n a xs) b ≡ true →
        AllByRecursion (λ x. Leads (λ h. S h x) (mate (from x)) (mate (to x))) (trail n a xs) → Leads (λ h. sum_of (S h) xs) (mate a) (mate b)
    leads_trail n a xs b e l = let w = leads_chained a (trail n a xs) b e l in (w.0, λ h. sym (sum_trail (S h) n a xs) ∙ w.1 h)

pub every_all : {A : Type 0} (P : A → Type 0) → ((x : A) → P x) → (xs : List A) → AllByRecursion P xs
every_all P p [] = tt
every_all P p (x ∷ xs) = (p x, every_all P p xs)
