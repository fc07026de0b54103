-- Each element of a list once, where it is met first: how often an element stands there, and its index. Assumes nothing.
use Rattle.std.proofs.Common.{◌≡◌, ℕ, zero, suc, ◌+◌, ◌*◌, ◌<◌, ◌≤◌, min, Bool, true, false, ◌||◌, eqb, List, [], ◌∷◌, length, get_or, sym, refl, ap, ◌∙◌, subst, inl, inr, arith}
use Rattle.std.proofs.ByRecursion.{All-weaker}
use Rattle.std.proofs.lemmas.Bool.{both_ways, cases_Bool, cond_both, eq-eqb, ne_eqb}
use Rattle.std.specs.List.{flat_map, AllByRecursion}
use Rattle.theory.specs.Triangle.{Tri, tri, one_if, has, with_corner, times, corners, without, firsts}
use Rattle.theory.proofs.Sums.{sum_append}
use Rattle.theory_numbers.specs.Numbers.{index_of}

module _ {C : Type 0} (same : C → C → Bool) where
  -- a triangle has a corner if the corner stands among its three
  has_times : (c : C) (t : Tri C) → (has same c t ≤ times same c (corners t)) × (times same c (corners t) ≤ 3 * has same c t)
  unfolding has
  has_times c (tri a b e) = count (same a c) (same b c) (same e c)
    where
      count :
          (p q r : Bool) → (one_if (p || (q || r)) ≤ one_if p + (one_if q + (one_if r + 0)))
          × (one_if p + (one_if q + (one_if r + 0)) ≤ 3 * one_if (p || (q || r)))
      count true true true = omega arith
      count true true false = omega arith
      count true false true = omega arith
      count true false false = omega arith
      count false true true = omega arith
      count false true false = omega arith
      count false false true = omega arith
      count false false false = omega arith

  pub with_corner_times :
      (c : C) (ts : List (Tri C)) →
      (with_corner same c ts ≤ times same c (flat_map corners ts)) × (times same c (flat_map corners ts) ≤ 3 * with_corner same c ts)
  with_corner_times c [] = omega arith
  with_corner_times c (t ∷ ts) =
      let a = has_times c t in
      let r = with_corner_times c ts in
      let s = sum_append (λ d. one_if (same d c)) (corners t) (flat_map corners ts) in
      omega arith

  module _ (same_true : (c d : C) → same c d ≡ true → c ≡ d) (same_refl : (c : C) → same c c ≡ true) where
    pub same_from : (c d : C) → c ≡ d → same c d ≡ true
    same_from c d e = subst (λ x. same c x ≡ true) e (same_refl c)

    pub same_sym : (c d : C) → same c d ≡ same d c
    same_sym c d =
        elim (cases_Bool (same c d)) [
          | inl e ↦ e ∙ sym (same_from d c (sym (same_true c d e)))
          | inr n ↦ elim (cases_Bool (same d c))
              [ inl e ↦ absurd (both_ways _ n (same_from c d (sym (same_true d c e)))) | inr e ↦ n ∙ sym e ]
        ]

    pub length_without : (c : C) (ds : List C) → length (without same c ds) + times same c ds ≡ length ds
    length_without c [] = refl
    length_without c (e ∷ ds) =
        let i = length_without c ds in
        cond_both (same e c) _ _ (λ xs. length xs + (one_if (same e c) + times same c ds) ≡ suc (length ds))
        (λ p. omega (arith, ap one_if p)) (λ n. omega (arith, ap one_if n))

    times_without_itself : (c : C) (ds : List C) → times same c (without same c ds) ≡ 0
    times_without_itself c [] = refl
    times_without_itself c (e ∷ ds) =
        let i = times_without_itself c ds in
        cond_both (same e c) _ _ (λ xs. times same c xs ≡ 0) (λ _. i) (λ n. omega (arith, ap one_if n))

    times_without_other : (c d : C) (ds : List C) → same c d ≡ false → times same d (without same c ds) ≡ times same d ds
    times_without_other c d [] n = refl
    times_without_other c d (e ∷ ds) n =
        let i = times_without_other c d ds n in
        cond_both (same e c) _ _ (λ xs. times same d xs ≡ one_if (same e d) + times same d ds)
        (λ p. let o = ap one_if (ap (λ x. same x d) (same_true e c p) ∙ n) in omega arith) (λ _. ap (λ n. one_if (same e d) + n) i)

    -- each that stands in a list is kept once
    pub times_firsts : (d : C) (cs : List C) → times same d (firsts same cs) ≡ min 1 (times same d cs)
    times_firsts d [] = refl
    times_firsts d (c ∷ cs) =
        elim (cases_Bool (same c d)) [
          | inl p ↦
              let z = ap (λ x. times same x (without same c (firsts same cs))) (sym (same_true c d p)) ∙ times_without_itself c (firsts same cs) in
              let o = ap one_if p in
              omega arith
          | inr n ↦
              let z = times_without_other c d (firsts same cs) n in
              let i = times_firsts d cs in
              let o = ap one_if n in
              omega arith
        ]

    -- what stands in a list stands there at its index
    pub index_below : (c : C) (cs : List C) → 0 < times same c cs → index_of same c cs < length cs
    index_below c [] h = absurd (omega arith)
    index_below c (d ∷ ds) h =
        cond_both (same d c) _ _ (λ n. n < suc (length ds)) (λ _. omega arith)
        (λ n. let i = index_below c ds (omega (arith, ap one_if n)) in omega arith)

    pub at_index : (c other : C) (cs : List C) → 0 < times same c cs → get_or cs (index_of same c cs) other ≡ c
    at_index c other [] h = absurd (omega arith)
    at_index c other (d ∷ ds) h =
        cond_both (same d c) _ _ (λ n. get_or (d ∷ ds) n other ≡ c) (same_true d c) (λ n. at_index c other ds (omega (arith, ap one_if n)))

    pub times_at : (n : ℕ) (other : C) (cs : List C) → n < length cs → 0 < times same (get_or cs n other) cs
    times_at n other [] l = absurd (omega arith)
    times_at zero other (d ∷ ds) l = omega (arith, ap one_if (same_refl d))
    times_at (suc n) other (d ∷ ds) l = let i = times_at n other ds (omega arith) in omega arith

    -- where none stands twice, each place is the index of what stands there
    pub index_at :
        (n : ℕ) (other : C) (cs : List C) → ((c : C) → times same c cs ≤ 1) → n < length cs → index_of same (get_or cs n other) cs ≡ n
    index_at n other [] once l = absurd (omega arith)
    index_at zero other (d ∷ ds) once l = rw (same_refl d)
    index_at (suc n) other (d ∷ ds) once l =
        let c = get_or ds n other in
        let i = index_at n other ds (λ c. let o = once c in omega arith) (omega arith) in
        cond_both (same d c) _ _ (λ m. m ≡ suc n)
        (λ p. absurd (omega (arith, once c, ap one_if p, times_at n other ds (omega arith)))) (λ _. ap suc i)

    -- what stands in the list has one index alone
    pub index_one_to_one :
        (cs : List C) (a b : C) → 0 < times same a cs → 0 < times same b cs → eqb (index_of same a cs) (index_of same b cs) ≡ same a b
    index_one_to_one cs a b h k =
        elim (cases_Bool (same a b)) [
          | inl p ↦ eq-eqb _ _ (ap (λ c. index_of same c cs) (same_true a b p)) ∙ sym p
          | inr n ↦ ne_eqb _ _ (λ e. both_ways (same a b) n (same_from a b
              (sym (at_index a a cs h) ∙ ap (λ i. get_or cs i a) e ∙ at_index b a cs k))) ∙ sym n
        ]

    -- a list has what stands in it
    pub every_stands : (cs : List C) → AllByRecursion (λ c. 0 < times same c cs) cs
    every_stands [] = tt
    every_stands (c ∷ cs) = (omega (arith, ap one_if (same_refl c)), All-weaker _ _ (λ d h. omega arith) cs (every_stands cs))

    -- a list of which none stands twice is no longer than another that has all that stands in it
    pub length_le : (cs ds : List C) → ((c : C) → times same c cs ≤ min 1 (times same c ds)) → length cs ≤ length ds
    length_le [] ds h = omega arith
    length_le (c ∷ cs) ds h =
        let o = ap one_if (same_refl c) in
        let k = h c in
        let l = length_without c ds in
        let i = length_le cs (without same c ds) (λ d. elim (cases_Bool (same c d)) [
          | inl p ↦ let k = h d in let o = ap one_if p in omega arith
          | inr n ↦ let k = h d in let o = ap one_if n in omega (arith, times_without_other c d ds n)
        ]) in
        omega arith
