-- The triangles around a corner: which of the sides into it and out of it they have, and when they are one ring. Assumes nothing.
use Rattle.std.proofs.Common.{◌≡◌, ℕ, ◌+◌, ◌<◌, ◌≤◌, Bool, true, false, cond, ◌||◌, List, [], ◌∷◌, length, sym, refl, ap, ◌∙◌, subst, ap₂, inl, inr, arith}
use Rattle.std.proofs.lemmas.Bool.{both_ways, cases_lt}
use Rattle.std.proofs.lemmas.List.{length-append, nil_from_length}
use Rattle.std.specs.List.{AllByRecursion}
use Rattle.theory.specs.Triangle.{Tri, tri, sum_of, one_if, side, sides, has, with_corner, times, read_from, around, walk}
use Rattle.theory.specs.Closed.{ThreeCorners, Ring}
use Rattle.theory.proofs.Sums.{sum_append, sum_same}
use Rattle.theory.proofs.Bounds.{one_if_and, one_if_then}

-- of three tests of which no two pass together, the first that passes is the only one
lone : {A : Type 0} (h : A → ℕ) (p q r : Bool) (x y z : A) →
    (p ≡ true → q ≡ true → ⊥) → (q ≡ true → r ≡ true → ⊥) → (r ≡ true → p ≡ true → ⊥) →
    sum_of h (cond p (x ∷ []) (cond q (y ∷ []) (cond r (z ∷ []) []))) ≡ cond p (h x) 0 + (cond q (h y) 0 + cond r (h z) 0)
lone h true true r x y z u v w = absurd (u refl refl)
lone h true false true x y z u v w = absurd (w refl refl)
lone h true false false x y z u v w = refl
lone h false true true x y z u v w = absurd (v refl refl)
lone h false true false x y z u v w = omega arith
lone h false false true x y z u v w = omega arith
lone h false false false x y z u v w = refl

-- a closed walk leaves and enters each of its corners as often as it stands in the list
pub walk_leaves : {C : Type 0} (h : C → ℕ) (d e : C) (ds : List C) → sum_of (λ s. h s.0) (walk d ds e) ≡ sum_of h (d ∷ ds)
walk_leaves h d e [] = refl
walk_leaves h d e (x ∷ xs) = ap (λ n. h d + n) (walk_leaves h x e xs)

pub walk_enters : {C : Type 0} (h : C → ℕ) (d e : C) (ds : List C) → sum_of (λ s. h s.1) (walk d ds e) ≡ sum_of h (e ∷ ds)
walk_enters h d e [] = refl
walk_enters h d e (x ∷ xs) = let i : sum_of (λ s. h s.1) (walk x xs e) ≡ h e + sum_of h xs = walk_enters h x e xs in omega arith

-- how many of three tests pass, if one counts for all
one_of : {A : Type 0} (p q r : Bool) (x y z : A) → one_if (p || (q || r)) ≡ length (cond p (x ∷ []) (cond q (y ∷ []) (cond r (z ∷ []) [])))
one_of true q r x y z = refl
one_of false true r x y z = refl
one_of false false true x y z = refl
one_of false false false x y z = refl

module _ {C : Type 0} (same : C → C → Bool) where
  -- as many triangles have a corner as are read from it
  pub with_corner_length : (c : C) (ts : List (Tri C)) → with_corner same c ts ≡ length (around same c ts)
  unfolding has read_from
  with_corner_length c [] = refl
  with_corner_length c (tri a b e ∷ ts) =
      ap₂ (λ m n. m + n) (one_of (same a c) (same b c) (same e c) (b, e) (e, a) (a, b)) (with_corner_length c ts)
      ∙ sym (length-append (read_from same c (tri a b e)) (around same c ts))

  -- a weight of the reading from c, at each corner that is c
  abbrev at_corners : (C × C → ℕ) → C → Tri C → ℕ
  at_corners h c (tri a b e) = cond (same a c) (h (b, e)) 0 + (cond (same b c) (h (e, a)) 0 + cond (same e c) (h (a, b)) 0)

  side_from : (c d : C) (t : Tri C) → side same c d t ≡ at_corners (λ s. one_if (same s.0 d)) c t
  unfolding side
  side_from c d (tri a b e) = simp one_if_and

  side_to : (c d : C) (t : Tri C) → side same d c t ≡ at_corners (λ s. one_if (same s.1 d)) c t
  unfolding side
  side_to c d (tri a b e) = simp one_if_then (omega arith)

  module _ (same_true : (c d : C) → same c d ≡ true → c ≡ d) (same_refl : (c : C) → same c c ≡ true) where
    -- corners that differ are not both c
    not_both : (a b c : C) → same a b ≡ false → same a c ≡ true → same b c ≡ true → ⊥
    not_both a b c n e g = both_ways (same a b) n (subst (λ x. same a x ≡ true) (same_true a c e ∙ sym (same_true b c g)) (same_refl a))

    -- of a whole triangle one corner at most is c
    around_weighs : (h : C × C → ℕ) (c : C) (ts : List (Tri C)) → AllByRecursion (ThreeCorners same) ts →
        sum_of h (around same c ts) ≡ sum_of (at_corners h c) ts
    unfolding read_from
    around_weighs h c [] w = refl
    around_weighs h c (tri a b e ∷ ts) w =
        sum_append h (read_from same c (tri a b e)) (around same c ts)
        ∙ ap₂ (λ m n. m + n)
        (lone h (same a c) (same b c) (same e c) (b, e) (e, a) (a, b)
        (not_both a b c w.0.0) (not_both b e c w.0.1) (not_both e a c w.0.2))
        (around_weighs h c ts w.1)

    -- the sides out of c go where its steps begin, and the sides into c come from where they end
    pub sides_from : (c d : C) (ts : List (Tri C)) → AllByRecursion (ThreeCorners same) ts →
        sides same c d ts ≡ sum_of (λ s. one_if (same s.0 d)) (around same c ts)
    sides_from c d ts w = sum_same _ _ (side_from c d) ts ∙ sym (around_weighs (λ s. one_if (same s.0 d)) c ts w)

    pub sides_to : (c d : C) (ts : List (Tri C)) → AllByRecursion (ThreeCorners same) ts →
        sides same d c ts ≡ sum_of (λ s. one_if (same s.1 d)) (around same c ts)
    sides_to c d ts w = sum_same _ _ (side_to c d) ts ∙ sym (around_weighs (λ s. one_if (same s.1 d)) c ts w)

    module _ (c : C) (ts : List (Tri C)) (whole : AllByRecursion (ThreeCorners same) ts) where
      -- a corner that no triangle has is on no side
      off_skin : with_corner same c ts ≡ 0 → (d : C) → sides same c d ts ≡ sides same d c ts
      off_skin z d =
          let none = nil_from_length (around same c ts) (sym (with_corner_length c ts) ∙ z) in
          sides_from c d ts whole ∙ ap (sum_of _) none ∙ sym (sides_to c d ts whole ∙ ap (sum_of _) none)

      module _ (first : C) (others : List C)
          (weighs : (h : C × C → ℕ) → sum_of h (around same c ts) ≡ sum_of h (walk first others first)) where
        -- along a closed walk around c there is a side out of c, and one into it, for each corner of the walk
        walk_sides_from : (d : C) → sides same c d ts ≡ times same d (first ∷ others)
        walk_sides_from d = sides_from c d ts whole ∙ weighs _ ∙ walk_leaves (λ x. one_if (same x d)) first first others

        walk_sides_to : (d : C) → sides same d c ts ≡ times same d (first ∷ others)
        walk_sides_to d = sides_to c d ts whole ∙ weighs _ ∙ walk_enters (λ x. one_if (same x d)) first first others

        -- so it is a ring where no side is run twice
        pub ring : ((d : C) → sides same c d ts ≤ 1) → Ring same c ts
        ring once =
            record {
              first = first;
              others = others;
              apart = λ d. subst (λ n. n ≤ 1) (walk_sides_from d) (once d);
              reads = λ d e. weighs _;
              weighs = weighs;
            }

      -- where there are rings, each side is run both ways alike
      pub sides_balance : (0 < with_corner same c ts → Ring same c ts) → (d : C) → sides same c d ts ≡ sides same d c ts
      sides_balance r d = elim (cases_lt 0 (with_corner same c ts)) [ inl on ↦ on_ring (r on) | inr none ↦ off_skin (omega arith) d ]
        where
          on_ring : Ring same c ts → sides same c d ts ≡ sides same d c ts
          on_ring g = walk_sides_from g.first g.others g.weighs d ∙ sym (walk_sides_to g.first g.others g.weighs d)
