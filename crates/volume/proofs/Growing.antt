-- One triangle more: its own part grows by it, and no other part changes. Assumes nothing.
use Rattle.std.proofs.Common.{◌≡◌, ℕ, zero, suc, ◌+◌, ◌^◌, ◌<◌, ◌≤◌, Bool, true, false, cond, eqb, ◌≢◌, List, [], ◌∷◌, ◌++◌, map, length, get_or, set, replicate, ℤ, pos, ◌+ℤ◌, nat_abs, sym, refl, ap, ◌∙◌, subst, ap₂, inl, inr, arith, length-set, get_or-set_other, get_or-set_same}
use lib.IntN.{+ℤ_idl, +ℤ_idr, +ℤ_assoc}
use lib.ListN.{length-replicate, get_or-replicate}
use Rattle.std.proofs.lemmas.List.FromFn.{length-map-range_with_len, get_or-map-range_with_len, map-range_with_len_more, fill_by_all}
use Rattle.std.proofs.lemmas.List.{length_push, append-nil}
use Rattle.std.proofs.lemmas.Bool.{cases_eq, cond-true, cond-false, cond_both, eq-eqb, ne_eqb}
use Rattle.std.specs.List.{range_with_len, AllByRecursion}
use Rattle.theory.specs.Triangle.{Tri, tri}
use Rattle.theory.specs.Places.{Place}
use Rattle.theory_parts.specs.Regions.{of_part}
use Rattle.theory_volume.specs.Volume.{determinant, six_volume}
use Rattle.theory_volume.specs.Sizes.{Small, most_triangles}
use Rattle.theory_volume.proofs.Sizes.{six_volume_size}
use Rattle.volume.specs.declared.Part.{Part}
use Rattle.volume.specs.declared.Part.TheVariants.{Outer, Inner}
use Rattle.theory_parts.specs.Buffer.{triangle_at, part_at, first_triangles, first_parts}
use Rattle.volume.specs.Buffer.{place_in}
use Rattle.volume.specs.Measure.{part_of, count_of, volume_of, measured, all_measured, determinant_at}

module _ {A : Type 0} (m : ℕ) where
  cond_append : (b : Bool) (y : A) (us vs : List A) → cond b (y ∷ (us ++ vs)) (us ++ vs) ≡ cond b (y ∷ us) us ++ vs
  cond_append true y us vs = refl
  cond_append false y us vs = refl

  part_push :
      (xs : List A) (ps : List ℕ) (x : A) (p : ℕ) → length ps ≡ length xs →
      of_part m (xs ++ x ∷ []) (ps ++ p ∷ []) ≡ of_part m xs ps ++ cond (eqb p m) (x ∷ []) []
  part_push [] [] x p l = refl
  part_push [] (q ∷ ps) x p l = absurd (omega arith)
  part_push (y ∷ xs) [] x p l = absurd (omega arith)
  part_push (y ∷ xs) (q ∷ ps) x p l =
      ap (λ us. cond (eqb q m) (y ∷ us) us) (part_push xs ps x p (omega arith))
      ∙ cond_append (eqb q m) y (of_part m xs ps) (cond (eqb p m) (x ∷ []) [])

  part_length : (xs : List A) (ps : List ℕ) → length (of_part m xs ps) ≤ length xs
  part_length [] ps = omega arith
  part_length (y ∷ xs) [] = omega arith
  part_length (y ∷ xs) (q ∷ ps) =
      let r = part_length xs ps in
      cond_both (eqb q m) (y ∷ of_part m xs ps) (of_part m xs ps) (λ us. length us ≤ suc (length xs)) (λ _. omega arith) (λ _. omega arith)

  part_every : (P : A → Type 0) (xs : List A) (ps : List ℕ) → AllByRecursion P xs → AllByRecursion P (of_part m xs ps)
  part_every P [] ps e = tt
  part_every P (y ∷ xs) [] e = tt
  part_every P (y ∷ xs) (q ∷ ps) e =
      let r = part_every P xs ps e.1 in
      cond_both (eqb q m) (y ∷ of_part m xs ps) (of_part m xs ps) (AllByRecursion P) (λ _. (e.0, r)) (λ _. r)

every_counting : {A : Type 0} (P : A → Type 0) (f : ℕ → A) (a n : ℕ) → ((j : ℕ) → a ≤ j → j < a + n → P (f j)) → AllByRecursion P (map f (range_with_len a n))
every_counting P f a zero h = tt
every_counting P f a (suc n) h = (h a (omega arith) (omega arith), every_counting P f (a + 1) n (λ j l k. h j (omega arith) (omega arith)))

six_volume_push :
    {C : Type 0} (at : C → Place) (ts : List (Tri C)) (a b c : C) →
    six_volume at (ts ++ tri a b c ∷ []) ≡ six_volume at ts +ℤ determinant (at a) (at b) (at c)
unfolding six_volume
six_volume_push at [] a b c = +ℤ_idr (determinant (at a) (at b) (at c)) ∙ sym (+ℤ_idl (determinant (at a) (at b) (at c)))
six_volume_push at (tri d e g ∷ ts) a b c =
    ap (λ v. determinant (at d) (at e) (at g) +ℤ v) (six_volume_push at ts a b c)
    ∙ sym (+ℤ_assoc (determinant (at d) (at e) (at g)) (six_volume at ts) (determinant (at a) (at b) (at c)))

count_part : (b : Bool) (n : ℕ) (v : ℤ) → count_of (cond b (Outer n v) (Inner n v)) ≡ n
count_part true n v = refl
count_part false n v = refl

volume_part : (b : Bool) (n : ℕ) (v : ℤ) → volume_of (cond b (Outer n v) (Inner n v)) ≡ v
volume_part true n v = refl
volume_part false n v = refl

module _ (cs ts : List ℕ) where
  abbrev part : ℕ → ℕ → List (Tri ℕ)
  part n p = of_part p (first_triangles ts n) (first_parts ts n)

  measured_count : (n p : ℕ) → count_of (measured cs ts n p) ≡ length (part n p)
  unfolding measured
  measured_count n p = count_part _ (length (part n p)) (six_volume (place_in cs) (part n p))

  measured_volume : (n p : ℕ) → volume_of (measured cs ts n p) ≡ six_volume (place_in cs) (part n p)
  unfolding measured
  measured_volume n p = volume_part _ (length (part n p)) (six_volume (place_in cs) (part n p))

  part_more : (n p : ℕ) → part (n + 1) p ≡ part n p ++ cond (eqb (part_at ts n) p) (triangle_at ts n ∷ []) []
  part_more n p =
      ap₂ (of_part p) (map-range_with_len_more (triangle_at ts) 0 n n (omega arith)) (map-range_with_len_more (part_at ts) 0 n n (omega arith))
      ∙ part_push p (first_triangles ts n) (first_parts ts n) (triangle_at ts n) (part_at ts n)
      (length-map-range_with_len (part_at ts) 0 n ∙ sym (length-map-range_with_len (triangle_at ts) 0 n))

  measured_other : (n p : ℕ) → part_at ts n ≢ p → measured cs ts (n + 1) p ≡ measured cs ts n p
  unfolding measured
  measured_other n p d =
      let e : part (n + 1) p ≡ part n p =
      part_more n p ∙ ap (λ us. part n p ++ us) (cond-false _ (triangle_at ts n ∷ []) [] (ne_eqb (part_at ts n) p d)) ∙ append-nil (part n p) in
      ap (λ us. part_of (length us) (six_volume (place_in cs) us)) e

  -- the part of the next triangle, with it
  abbrev pub grown : ℕ → Part
  grown n =
      let own = measured cs ts n (part_at ts n) in
      part_of (count_of own + 1) (volume_of own +ℤ determinant_at cs ts n)

  measured_own : (n : ℕ) → measured cs ts (n + 1) (part_at ts n) ≡ grown n
  unfolding measured
  measured_own n =
      let p = part_at ts n in
      let t = triangle_at ts n in
      let e : part (n + 1) p ≡ part n p ++ t ∷ [] =
      part_more n p ∙ ap (λ us. part n p ++ us) (cond-true _ (t ∷ []) [] (eq-eqb p p refl)) in
      ap (λ us. part_of (length us) (six_volume (place_in cs) us)) e
      ∙ ap₂ part_of
      (length_push (part n p) t ∙ ap (λ k. k + 1) (sym (measured_count n p)))
      (six_volume_push (place_in cs) (part n p) _ _ _ ∙ ap (λ v. v +ℤ determinant_at cs ts n) (sym (measured_volume n p)))

  pub all_measured_more : (n m : ℕ) → part_at ts n < m → set (all_measured cs ts n m) (part_at ts n) (grown n) ≡ all_measured cs ts (n + 1) m
  all_measured_more n m l =
      fill_by_all (measured cs ts (n + 1)) _ m (Inner 0 (pos 0)) (length-set _ _ _ ∙ length-map-range_with_len (measured cs ts n) 0 m) at
    where
      long : part_at ts n < length (all_measured cs ts n m)
      long = omega (arith, length-map-range_with_len (measured cs ts n) 0 m)

      at : (k : ℕ) → k < m → get_or (set (all_measured cs ts n m) (part_at ts n) (grown n)) k (Inner 0 (pos 0)) ≡ measured cs ts (n + 1) k
      at k h =
          elim (cases_eq k (part_at ts n)) [
            | inl e ↦
                subst (λ j. get_or (set (all_measured cs ts n m) (part_at ts n) (grown n)) j (Inner 0 (pos 0)) ≡ measured cs ts (n + 1) j) (sym e)
                (get_or-set_same (all_measured cs ts n m) (part_at ts n) (grown n) (Inner 0 (pos 0)) long ∙ sym (measured_own n))
            | inr e ↦
                get_or-set_other (all_measured cs ts n m) (part_at ts n) k (grown n) (Inner 0 (pos 0)) e
                ∙ get_or-map-range_with_len (measured cs ts n) 0 m k k (Inner 0 (pos 0)) h (omega arith)
                ∙ sym (measured_other n k (λ s. e (sym s)))
          ]

  pub measured_at : (n m p : ℕ) (d : Part) → p < m → get_or (all_measured cs ts n m) p d ≡ measured cs ts n p
  measured_at n m p d l = get_or-map-range_with_len (measured cs ts n) 0 m p p d l (omega arith)

  -- the part of the next triangle, as it is read
  pub own_part :
      (parts : List Part) (n m p : ℕ) → parts ≡ all_measured cs ts n m → p ≡ part_at ts n → p < m →
      get_or parts p (Outer 0 (pos 0)) ≡ measured cs ts n (part_at ts n)
  own_part parts n m p is part_is l =
      ap₂ (λ us q. get_or us q (Outer 0 (pos 0))) is part_is ∙ measured_at n m (part_at ts n) (Outer 0 (pos 0)) (omega (arith, part_is))

  -- one more triangle, with the number of its part and its determinant as they are read
  pub all_measured_with :
      (parts : List Part) (n m p : ℕ) (grown_part : Part) (d : ℤ) → parts ≡ all_measured cs ts n m → p ≡ part_at ts n → p < m →
      grown_part ≡ part_of (count_of (get_or parts p (Outer 0 (pos 0))) + 1) (volume_of (get_or parts p (Outer 0 (pos 0))) +ℤ d) →
      d ≡ determinant_at cs ts n → set parts p grown_part ≡ all_measured cs ts (n + 1) m
  all_measured_with parts n m p grown_part d is part_is l grown_is d_is =
      ap₂ (λ us q. set us q grown_part) is part_is
      ∙ ap (set (all_measured cs ts n m) (part_at ts n)) (grown_is ∙ ap₂ (λ q v. part_of (count_of q + 1) (volume_of q +ℤ v)) (own_part parts n m p is part_is l) d_is)
      ∙ all_measured_more n m (omega (arith, part_is))

  pub all_measured_past : (n m : ℕ) → m ≤ part_at ts n → all_measured cs ts n m ≡ all_measured cs ts (n + 1) m
  all_measured_past n m l =
      fill_by_all (measured cs ts (n + 1)) _ m (Inner 0 (pos 0)) (length-map-range_with_len (measured cs ts n) 0 m)
      (λ k h. get_or-map-range_with_len (measured cs ts n) 0 m k k (Inner 0 (pos 0)) h (omega arith) ∙ sym (measured_other n k (λ s. omega arith)))

  pub none_measured : (m : ℕ) → replicate m (part_of 0 (pos 0)) ≡ all_measured cs ts 0 m
  unfolding measured six_volume
  none_measured m =
      fill_by_all (measured cs ts 0) (replicate m (part_of 0 (pos 0))) m (part_of 0 (pos 0)) (length-replicate m _) (λ k l. get_or-replicate m k _ _ l)

  -- what is held of a part so far is small
  module _ (n p : ℕ) (few : n < most_triangles) (small : (j : ℕ) → j < n → nat_abs (determinant_at cs ts j) ≤ 2 ^ 34) where
    shorter : length (part n p) ≤ n
    shorter = omega (arith, part_length p (first_triangles ts n) (first_parts ts n), length-map-range_with_len (triangle_at ts) 0 n)

    pub count_few : count_of (measured cs ts n p) < most_triangles
    count_few = omega (arith, measured_count n p, shorter)

    pub volume_small : nat_abs (volume_of (measured cs ts n p)) ≤ 2 ^ 58
    volume_small =
        let each = part_every p (Small (place_in cs)) (first_triangles ts n) (first_parts ts n)
        (every_counting (Small (place_in cs)) (triangle_at ts) 0 n (λ j _ k. small j (omega arith))) in
        let size = six_volume_size (place_in cs) (part n p) each in
        subst (λ v. nat_abs v ≤ 2 ^ 58) (sym (measured_volume n p)) (omega (arith, size, shorter))
