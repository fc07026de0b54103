-- Each triangle has the number of one of the parts, so sums over the parts are sums over all. Assumes nothing.
use Rattle.std.proofs.Common.{◌≡◌, ℕ, zero, suc, ◌+◌, ◌<◌, ◌≤◌, Bool, true, false, cond, eqb, List, [], ◌∷◌, length, pos, ◌+ℤ◌, ◌-ℤ◌, sym, refl, ap, ◌∙◌, ap₂, inl, inr, zero-add, arith}
use mathlib.Core.Path.{fun_ext}
use mathlib.Core.Bool.{false≢true}
use Rattle.std.proofs.lemmas.Bool.{cases_eq, cond-true, cond-false, cond_both, eq-eqb, ne_eqb}
use Rattle.std.specs.List.{AllByRecursion}
use Rattle.theory.specs.Triangle.{Tri, sum_of}
use Rattle.theory.specs.Faces.{sum_below}
use Rattle.theory.proofs.Sums.{sum_ones, sum_below_same, sum_below_zero, sum_below_add}
use Rattle.theory_parts.specs.Parts.{InTurn, Numbered}
use Rattle.theory_parts.specs.Regions.{of_part}
use Rattle.theory_volume.proofs.Signs.{falling, rising, minus_add, six_volume_parts}
use Rattle.theory_solids.specs.Adding.{sum_belowℤ, Counted, AddedUp}

in_turn_below : (k : ℕ) (ps : List ℕ) (n : ℕ) → InTurn k ps n → (k ≤ n) × AllByRecursion (λ p. p < n) ps
in_turn_below k [] n e = (omega arith, tt)
in_turn_below k (p ∷ ps) n (inl e) = let r = in_turn_below k ps n e.1 in (r.0, (omega arith, r.1))
in_turn_below k (p ∷ ps) n (inr e) = let r = in_turn_below (suc k) ps n e.1 in (omega arith, (omega arith, r.1))

-- a weight that stands at one place alone
sum_below_one : (n p v : ℕ) → p < n → sum_below n (λ m. cond (eqb p m) v 0) ≡ v
sum_below_one zero p v l = absurd (omega arith)
sum_below_one (suc n) p v l =
    elim (cases_eq p n) [
      | inl e ↦
          let none = sum_below_zero n (λ m. cond (eqb p m) v 0) (λ m h. cond-false (eqb p m) v 0 (ne_eqb p m (omega arith))) in
          omega (arith, none, cond-true (eqb p n) v 0 (eq-eqb p n e))
      | inr d ↦
          let one = sum_below_one n p v (omega (arith, λ (e : p ≡ n). d e)) in
          omega (arith, one, cond-false (eqb p n) v 0 (ne_eqb p n d))
    ]

module _ {A : Type 0} where
  -- each part that begins has something in it
  part_some :
      (ts : List A) (ps : List ℕ) (k n : ℕ) → length ps ≡ length ts → InTurn k ps n → (m : ℕ) → k ≤ m → m < n →
      0 < length (of_part m ts ps)
  part_some ts [] k n l e m a b = absurd (omega arith)
  part_some [] (p ∷ ps) k n l e m a b = absurd (omega arith)
  part_some (t ∷ ts) (p ∷ ps) k n l (inl e) m a b =
      let r = part_some ts ps k n (omega arith) e.1 m a b in
      cond_both (eqb p m) (t ∷ of_part m ts ps) (of_part m ts ps) (λ us. 0 < length us) (λ _. omega arith) (λ _. r)
  part_some (t ∷ ts) (p ∷ ps) k n l (inr e) m a b =
      cond_both (eqb p m) (t ∷ of_part m ts ps) (of_part m ts ps) (λ us. 0 < length us) (λ _. omega arith)
      (λ d. part_some ts ps (suc k) n (omega arith) e.1 m (omega (arith, λ (q : p ≡ m). false≢true (sym d ∙ eq-eqb p m q))) b)

  module _ (h : A → ℕ) where
    sum_first : (b : Bool) (t : A) (us : List A) → sum_of h (cond b (t ∷ us) us) ≡ cond b (h t) 0 + sum_of h us
    sum_first true t us = refl
    sum_first false t us = sym (zero-add (sum_of h us))

    -- a part has no more than there is
    pub part_most : (m : ℕ) (ts : List A) (ps : List ℕ) → sum_of h (of_part m ts ps) ≤ sum_of h ts
    part_most m [] ps = omega arith
    part_most m (t ∷ ts) [] = omega arith
    part_most m (t ∷ ts) (p ∷ ps) =
        let r = part_most m ts ps in
        cond_both (eqb p m) (t ∷ of_part m ts ps) (of_part m ts ps) (λ us. sum_of h us ≤ h t + sum_of h ts) (λ _. omega arith) (λ _. omega arith)

    sum_parts :
        (n : ℕ) (ts : List A) (ps : List ℕ) → length ps ≡ length ts → AllByRecursion (λ p. p < n) ps →
        sum_below n (λ m. sum_of h (of_part m ts ps)) ≡ sum_of h ts
    sum_parts n [] ps l e = sum_below_zero n _ (λ m _. refl)
    sum_parts n (t ∷ ts) [] l e = absurd (omega arith)
    sum_parts n (t ∷ ts) (p ∷ ps) l e =
        sum_below_same n _ _ (λ m _. sum_first (eqb p m) t (of_part m ts ps))
        ∙ sum_below_add n (λ m. cond (eqb p m) (h t) 0) (λ m. sum_of h (of_part m ts ps))
        ∙ ap₂ (λ u v. u + v) (sum_below_one n p (h t) e.0) (sum_parts n ts ps (omega arith) e.1)

sum_belowℤ_minus : (n : ℕ) (u w : ℕ → ℕ) → sum_belowℤ n (λ m. pos (u m) -ℤ pos (w m)) ≡ pos (sum_below n u) -ℤ pos (sum_below n w)
sum_belowℤ_minus zero u w = refl
sum_belowℤ_minus (suc n) u w =
    ap (λ v. v +ℤ (pos (u n) -ℤ pos (w n))) (sum_belowℤ_minus n u w) ∙ minus_add (sum_below n u) (sum_below n w) (u n) (w n)

module _ {C : Type 0} (same : C → C → Bool) (ts : List (Tri C)) (ps : List ℕ) (n : ℕ) (numbered : Numbered same ts ps n) where
  weights : (h : Tri C → ℕ) → sum_below n (λ m. sum_of h (of_part m ts ps)) ≡ sum_of h ts
  weights h = sum_parts h n ts ps numbered.long (in_turn_below 0 ps n numbered.in_turn).1

  pub parts_counted : Counted ts ps n
  parts_counted =
      record {
        some = λ m l. part_some ts ps 0 n numbered.long numbered.in_turn m (omega arith) l;
        all = sum_below_same n _ _ (λ m _. sym (sum_ones (of_part m ts ps))) ∙ weights (λ t. 1) ∙ sum_ones ts;
      }

  pub parts_add_up : AddedUp ts ps n
  parts_add_up =
      record {
        weights = weights;
        volumes = λ at.
            ap (sum_belowℤ n) (fun_ext (λ m. six_volume_parts at (of_part m ts ps)))
            ∙ sum_belowℤ_minus n _ _
            ∙ ap₂ (λ u w. pos u -ℤ pos w) (weights (falling at)) (weights (rising at))
            ∙ sym (six_volume_parts at ts);
      }
