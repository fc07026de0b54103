-- Numbers listed one by one: how many they are, and which stands at a place. Assumes nothing.
use Rattle.std.proofs.Common.{◌≡◌, ℕ, zero, suc, ◌+◌, ◌<◌, [], ◌∷◌, length, get_or, refl, ap, ◌∙◌, inl, inr, add-one, arith}
use Rattle.std.proofs.lemmas.List.{length_push, get_or_push, get_or_append_left}
use Rattle.std.proofs.lemmas.Bool.{cases_lt}
use Rattle.theory.specs.Skin.{below}

module _ (f : ℕ → ℕ) where
  pub length_listed : (n : ℕ) → length (below n (λ i. f i ∷ [])) ≡ n
  length_listed zero = refl
  length_listed (suc n) = length_push (below n (λ i. f i ∷ [])) (f n) ∙ ap (λ k. k + 1) (length_listed n) ∙ add-one n

  pub get_or_listed : (n i : ℕ) → i < n → get_or (below n (λ i. f i ∷ [])) i 0 ≡ f i
  get_or_listed zero i l = absurd (omega arith)
  get_or_listed (suc n) i l =
      let long = length_listed n in
      elim (cases_lt i n) [
        | inl h ↦ get_or_append_left (below n (λ i. f i ∷ [])) (f n ∷ []) 0 i (omega arith) ∙ get_or_listed n i h
        | inr h ↦ let e : i ≡ n = omega arith in rw e (get_or_push (below n (λ i. f i ∷ [])) (f n) 0 n long)
      ]
