-- A test of corners that agrees on each triangle agrees on each part. Assumes nothing.
use Rattle.std.proofs.Common.{◌≡◌, ℕ, zero, suc, ◌<◌, Bool, true, ◌||◌, List, [], ◌∷◌, sym, refl, ap, ◌∙◌, subst, inl, inr, arith}
use Rattle.std.proofs.lemmas.Bool.{cases_Bool, or_cases}
use Rattle.std.specs.List.{AllByRecursion}
use Rattle.theory.specs.Triangle.{Tri, tri, one_if, has}
use Rattle.theory_parts.specs.Parts.{itself, step, back, onward, Stands, Joined, Linked}
use Rattle.theory_parts.specs.Regions.{Agree, on}
use Rattle.theory_parts.proofs.Joining.{first_had, joined_linked}

pub every_stands : {A : Type 0} (P : A → Type 0) (xs : List A) → AllByRecursion P xs → (i : ℕ) (x : A) → Stands xs i x → P x
every_stands P [] a i x s = absurd s
every_stands P (y ∷ ys) a zero x s = subst P s a.0
every_stands P (y ∷ ys) a (suc i) x s = every_stands P ys a.1 i x s

pub stands_every : {A : Type 0} (P : A → Type 0) (xs : List A) → ((i : ℕ) (x : A) → Stands xs i x → P x) → AllByRecursion P xs
stands_every P [] a = tt
stands_every P (x ∷ xs) a = (a 0 x refl, stands_every P xs (λ i y s. a (suc i) y s))

module _ {C : Type 0} (same : C → C → Bool)
    (same_true : (c d : C) → same c d ≡ true → c ≡ d) (same_refl : (c : C) → same c c ≡ true) (T : C → Bool) where
  agree_has : (t : Tri C) (c : C) → Agree T t → 0 < has same c t → T c ≡ on T t
  unfolding has
  agree_has (tri a b e) c g h =
      elim (cases_Bool (same a c || (same b c || same e c))) [
        | inl p ↦ elim (or_cases (same a c) (same b c || same e c) p) [
          | inl p ↦ ap T (sym (same_true a c p))
          | inr p ↦ elim (or_cases (same b c) (same e c) p)
              [ inl p ↦ ap T (sym (same_true b c p)) ∙ sym g.0 | inr p ↦ ap T (sym (same_true e c p)) ∙ sym (g.0 ∙ g.1) ]
        ]
        | inr p ↦ absurd (omega (arith, ap one_if p))
      ]

  module _ (ts : List (Tri C)) (agree : AllByRecursion (Agree T) ts) where
    linked_agree : {c d : C} → Linked same ts c d → T c ≡ T d
    linked_agree (itself c) = refl
    linked_agree {c} {d} (step s) =
        let g = every_stands (Agree T) ts agree s.place s.triangle s.stands in
        agree_has s.triangle c g s.has_c ∙ sym (agree_has s.triangle d g s.has_d)
    linked_agree (back l) = sym (linked_agree l)
    linked_agree (onward l m) = linked_agree l ∙ linked_agree m

    pub joined_agree : (i j : ℕ) (t u : Tri C) → Stands ts i t → Stands ts j u → Joined same ts i j → on T t ≡ on T u
    joined_agree i j t u s v q =
        let c = first_had same same_true same_refl t in
        let d = first_had same same_true same_refl u in
        sym (agree_has t c.0 (every_stands (Agree T) ts agree i t s) c.1)
        ∙ linked_agree (joined_linked same same_true same_refl ts q t u s v c.0 d.0 c.1 d.1)
        ∙ agree_has u d.0 (every_stands (Agree T) ts agree j u v) d.1
