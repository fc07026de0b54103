-- Where there is one ring around each corner, triangles with a common corner are joined by sides, and parts may be found by corners.
-- Assumes nothing.
use Rattle.std.proofs.Common.{◌≡◌, ℕ, zero, suc, ◌+◌, ◌<◌, ◌≤◌, Bool, true, false, cond, ◌&&◌, ◌||◌, ◌⊎◌, ◌↔◌, List, [], ◌∷◌, length, sym, refl, ap, ◌∙◌, subst, inl, inr, arith}
use mathlib.Core.Bool.{and-false, or-true}
use Rattle.std.proofs.lemmas.Bool.{cases_Bool, cases_lt, and_parts, and_from}
use Rattle.std.specs.List.{AllByRecursion}
use Rattle.theory.specs.Triangle.{Tri, tri, sum_of, one_if, side, has, with_corner, times, steps, read_from, around, walk, corners}
use Rattle.theory.specs.Closed.{Ring}
use Rattle.theory.proofs.Sums.{sum_append}
use Rattle.theory.proofs.Around.{walk_leaves}
use Rattle.theory_parts.specs.Parts.{itself, step, back, onward, Stands, between, Joined, Linked}
use Rattle.theory_parts.specs.Parts.{Ringed, CornersJoin, NoCornerInTwoParts, JoinedAsLinked}

pub stands_below : {A : Type 0} (xs : List A) (i : ℕ) (x : A) → Stands xs i x → i < length xs
stands_below [] i x s = absurd s
stands_below (y ∷ ys) zero x s = omega arith
stands_below (y ∷ ys) (suc i) x s = let l = stands_below ys i x s in omega arith

pub stands_one : {A : Type 0} (xs : List A) (i : ℕ) (x y : A) → Stands xs i x → Stands xs i y → x ≡ y
stands_one [] i x y s t = absurd s
stands_one (z ∷ zs) zero x y s t = sym s ∙ t
stands_one (z ∷ zs) (suc i) x y s t = stands_one zs i x y s t

pub stands_sum : {A : Type 0} (h : A → ℕ) (xs : List A) (i : ℕ) (x : A) → Stands xs i x → h x ≤ sum_of h xs
stands_sum h [] i x s = absurd s
stands_sum h (y ∷ ys) zero x s = let e = ap h s in omega arith
stands_sum h (y ∷ ys) (suc i) x s = let l = stands_sum h ys i x s in omega arith

-- if no corner of a triangle is c, it has no side at c
beside : (p q r u v w : Bool) →
    0 < (one_if (p && v) + (one_if (q && w) + one_if (r && u))) + (one_if (u && q) + (one_if (v && r) + one_if (w && p))) →
    0 < one_if (p || (q || r))
beside true q r u v w h = omega arith
beside false true r u v w h = omega arith
beside false false true u v w h = omega arith
beside false false false u v w h = absurd (omega (arith, ap one_if (and-false u), ap one_if (and-false v), ap one_if (and-false w)))

module _ {C : Type 0} (same : C → C → Bool)
    (same_true : (c d : C) → same c d ≡ true → c ≡ d) (same_refl : (c : C) → same c c ≡ true) where
  has_between : (c d : C) (t : Tri C) → 0 < between same c d t → 0 < has same c t
  unfolding side has
  has_between c d (tri a b e) h = beside (same a c) (same b c) (same e c) (same a d) (same b d) (same e d) h

  pub corners_had : (t : Tri C) → AllByRecursion (λ c. 0 < has same c t) (corners t)
  unfolding has
  corners_had (tri a b e) =
      (simp same_refl (omega arith), (simp (same_refl, or-true) (omega arith), (simp (same_refl, or-true) (omega arith), tt)))

  pub first_had : (t : Tri C) → (c : C) × (0 < has same c t)
  first_had (tri a b e) = (a, (corners_had (tri a b e)).0)

  -- a triangle that has c, read from c as (c, d, e), has sides between c and d and between c and e
  Read : C → Tri C → List (C × C) → Type 0
  Read c t ss = (s : C × C) × (ss ≡ s ∷ []) × (0 < between same c s.0 t) × (0 < between same c s.1 t)

  reading : (c : C) (t : Tri C) → ((read_from same c t ≡ []) × (has same c t ≡ 0)) ⊎ Read c t (read_from same c t)
  unfolding Read side has read_from
  reading c (tri a b e) = go (same a c) (same b c) (same e c) refl refl refl
    where
      one : (p q : Bool) → p ≡ true → q ≡ true → one_if (p && q) ≡ 1
      one p q h k = ap one_if (and_from p q h k)

      go : (p q r : Bool) → same a c ≡ p → same b c ≡ q → same e c ≡ r →
          let ss : List (C × C) = cond p ((b, e) ∷ []) (cond q ((e, a) ∷ []) (cond r ((a, b) ∷ []) [])) in
          ((ss ≡ []) × (one_if (p || (q || r)) ≡ 0)) ⊎ Read c (tri a b e) ss
      go true q r h i j =
          let m = one _ _ h (same_refl b) in let n = one _ _ (same_refl e) h in inr ((b, e), refl, omega arith, omega arith)
      go false true r h i j =
          let m = one _ _ i (same_refl e) in let n = one _ _ (same_refl a) i in inr ((e, a), refl, omega arith, omega arith)
      go false false true h i j =
          let m = one _ _ j (same_refl a) in let n = one _ _ (same_refl b) j in inr ((a, b), refl, omega arith, omega arith)
      go false false false h i j = inl (refl, refl)

  module _ (c : C) where
    -- the triangle at the place i has a side between c and d
    Touches : List (Tri C) → ℕ → C → Type 0
    Touches ts i d = (t : Tri C) × Stands ts i t × (0 < between same c d t)

    touching_joined : (ts : List (Tri C)) (i j : ℕ) (d : C) → Touches ts i d → Touches ts j d → Joined same ts i j
    unfolding Touches
    touching_joined ts i j d t u =
        step (record { this = t.0; that = u.0; this_stands = t.1; that_stands = u.1; from = c; to = d; side_of_this = t.2; side_of_that = u.2 })

    -- a triangle at c touches a corner from which a step around c starts
    reads_step : (ts : List (Tri C)) (i : ℕ) (t : Tri C) → Stands ts i t → 0 < has same c t →
        (d : C) × (0 < between same c d t) × (0 < sum_of (λ s. one_if (same s.0 d)) (around same c ts))
    unfolding Read
    reads_step [] i t s h = absurd s
    reads_step (u ∷ ts) zero t s h =
        elim (reading c u) [
          | inl n ↦ let e = ap (has same c) s in absurd (omega arith)
          | inr (r, e, a, b) ↦
              let m = ap one_if (same_refl r.0) in
              let k = ap (sum_of (λ s. one_if (same s.0 r.0))) e in (
                r.0,
                subst (λ t. 0 < between same c r.0 t) s a,
                omega (arith, sum_append (λ s. one_if (same s.0 r.0)) (read_from same c u) (around same c ts)),
              )
        ]
    reads_step (u ∷ ts) (suc i) t s h =
        let r = reads_step ts i t s h in
        (r.0, r.1, omega (arith, r.2, sum_append (λ s. one_if (same s.0 r.0)) (read_from same c u) (around same c ts)))

    -- the triangle of a step around c touches both its ends
    step_read : (ts : List (Tri C)) (d e : C) → 0 < steps same d e (around same c ts) → (i : ℕ) × Touches ts i d × Touches ts i e
    unfolding Touches Read
    step_read [] d e h = absurd (omega arith)
    step_read (u ∷ ts) d e h =
        let split = sum_append (λ s. one_if (same s.0 d && same s.1 e)) (read_from same c u) (around same c ts) in
        elim (cases_lt 0 (steps same d e (around same c ts))) [
          | inl k ↦ let r = step_read ts d e k in (suc r.0, r.1, r.2)
          | inr k ↦ elim (reading c u) [
            | inl n ↦ absurd (omega (arith, ap (steps same d e) n.0))
            | inr (s, n, a, b) ↦ elim (cases_Bool (same s.0 d && same s.1 e)) [
              | inl t ↦
                  let p = and_parts (same s.0 d) (same s.1 e) t in (
                    0,
                    (u, refl, subst (λ d. 0 < between same c d u) (same_true _ _ p.0) a),
                    (u, refl, subst (λ d. 0 < between same c d u) (same_true _ _ p.1) b),
                  )
              | inr t ↦ absurd (omega (arith, ap (steps same d e) n, ap one_if t))
            ]
          ]
        ]

    -- along a walk whose steps are read around c, each triangle is joined to the next: both touch the corner between them
    walk_joined :
        (ts : List (Tri C)) (a : C) (ds : List C) (b : C) →
        ((d e : C) → 0 < steps same d e (walk a ds b) → 0 < steps same d e (around same c ts)) →
        (i j : ℕ) (d : C) → 0 < times same d (a ∷ ds) → Touches ts i d → Touches ts j a → Joined same ts i j
    walk_joined ts a [] b w i j d h t u =
        elim (cases_Bool (same a d)) [
          | inl e ↦ touching_joined ts i j a (subst (Touches ts i) (sym (same_true a d e)) t) u
          | inr e ↦ absurd (omega (arith, ap one_if e))
        ]
    walk_joined ts a (x ∷ xs) b w i j d h t u =
        elim (cases_Bool (same a d)) [
          | inl e ↦ touching_joined ts i j a (subst (Touches ts i) (sym (same_true a d e)) t) u
          | inr e ↦
              let r = step_read ts a x (w a x (omega (arith, ap one_if (and_from _ _ (same_refl a) (same_refl x))))) in
              onward (walk_joined ts x xs b (λ d e k. w d e (omega arith)) i r.0 d (omega (arith, ap one_if e)) t r.2)
              (touching_joined ts r.0 j a r.1 u)
        ]

    walk_starts : (a : C) (ds : List C) (b : C) → (d : C) × (0 < steps same a d (walk a ds b))
    walk_starts a [] b = (b, omega (arith, ap one_if (and_from _ _ (same_refl a) (same_refl b))))
    walk_starts a (x ∷ xs) b = (x, omega (arith, ap one_if (and_from _ _ (same_refl a) (same_refl x))))

    module _ (ts : List (Tri C)) (r : Ring same c ts) where
      ring_begins : (k : ℕ) × Touches ts k r.first
      ring_begins =
          let s = walk_starts r.first r.others r.first in
          let b = step_read ts r.first s.0 (subst (λ n. 0 < n) (sym (r.reads r.first s.0)) s.1) in
          (b.0, b.1)

      -- each triangle at c is joined to the one with which the ring begins
      ring_joined : (i : ℕ) (t : Tri C) → Stands ts i t → 0 < has same c t → Joined same ts i ring_begins.0
      unfolding Touches
      ring_joined i t s h =
          let d = reads_step ts i t s h in
          walk_joined ts r.first r.others r.first (λ d e l. subst (λ n. 0 < n) (sym (r.reads d e)) l) i ring_begins.0 d.0
          (subst (λ n. 0 < n) (r.weighs _ ∙ walk_leaves (λ x. one_if (same x d.0)) r.first r.first r.others) d.2)
          (t, s, d.1) ring_begins.1

  pub corners_join : CornersJoin same
  corners_join ts ringed i j s =
      let on : 0 < with_corner same s.corner ts = omega (arith, stands_sum (has same s.corner) ts i s.this s.this_stands, s.of_this) in
      let r = ringed s.corner on in
      onward (ring_joined s.corner ts r i s.this s.this_stands s.of_this)
      (back (ring_joined s.corner ts r j s.that s.that_stands s.of_that))

  pub no_corner_in_two_parts : NoCornerInTwoParts same
  no_corner_in_two_parts ts ps n ringed numbered i j s =
      (numbered.alike i j (stands_below ts i _ s.this_stands) (stands_below ts j _ s.that_stands)).1 (corners_join ts ringed i j s)

  module _ (ts : List (Tri C)) where
    -- there is a triangle at the place i; there is one with the corner c
    Placed : ℕ → Type 0
    Placed i = (t : Tri C) × Stands ts i t

    Had : C → Type 0
    Had c = (i : ℕ) × (t : Tri C) × Stands ts i t × (0 < has same c t)

    placed_joined : {i j : ℕ} → Joined same ts i j → Placed i ↔ Placed j
    unfolding Placed
    placed_joined (itself i) = ((λ p. p), λ p. p)
    placed_joined (step s) = ((λ _. (s.that, s.that_stands)), λ _. (s.this, s.this_stands))
    placed_joined (back j) = let r = placed_joined j in (r.1, r.0)
    placed_joined (onward j k) = let r = placed_joined j in let s = placed_joined k in ((λ p. s.0 (r.0 p)), λ p. r.1 (s.1 p))

    had_linked : {c d : C} → Linked same ts c d → Had c ↔ Had d
    unfolding Had
    had_linked (itself c) = ((λ p. p), λ p. p)
    had_linked (step s) = ((λ _. (s.place, s.triangle, s.stands, s.has_d)), λ _. (s.place, s.triangle, s.stands, s.has_c))
    had_linked (back j) = let r = had_linked j in (r.1, r.0)
    had_linked (onward j k) = let r = had_linked j in let s = had_linked k in ((λ p. s.0 (r.0 p)), λ p. r.1 (s.1 p))

    corner_shared : (i : ℕ) (t : Tri C) (c d : C) → Stands ts i t → 0 < has same c t → 0 < has same d t → Linked same ts c d
    corner_shared i t c d s h k = step (record { place = i; triangle = t; stands = s; has_c = h; has_d = k })

    pub joined_linked :
        {i j : ℕ} → Joined same ts i j → (t u : Tri C) → Stands ts i t → Stands ts j u →
        (c d : C) → 0 < has same c t → 0 < has same d u → Linked same ts c d
    unfolding Placed
    joined_linked (itself i) t u s v c d h k =
        corner_shared i t c d s h (subst (λ w. 0 < has same d w) (stands_one ts i u t v s) k)
    joined_linked {i} {j} (step r) t u s v c d h k =
        let a = has_between r.from r.to r.this r.side_of_this in
        let b = has_between r.from r.to r.that r.side_of_that in
        onward (corner_shared i t c r.from s h (subst (λ w. 0 < has same r.from w) (stands_one ts i _ _ r.this_stands s) a))
        (corner_shared j u r.from d v (subst (λ w. 0 < has same r.from w) (stands_one ts j _ _ r.that_stands v) b) k)
    joined_linked (back r) t u s v c d h k = back (joined_linked r u t v s d c k h)
    joined_linked (onward {b = m} q r) t u s v c d h k =
        let p = (placed_joined q).0 (t, s) in
        let e = first_had p.0 in
        onward (joined_linked q t p.0 s p.1 c e.0 h e.1) (joined_linked r p.0 u p.1 v e.0 d e.1 k)

    at_corner :
        Ringed same ts → (c : C) (i j : ℕ) (t u : Tri C) → Stands ts i t → Stands ts j u → 0 < has same c t → 0 < has same c u →
        Joined same ts i j
    at_corner ringed c i j t u s v h k =
        corners_join ts ringed i j (record { this = t; that = u; this_stands = s; that_stands = v; corner = c; of_this = h; of_that = k })

    linked_joined :
        Ringed same ts → {c d : C} → Linked same ts c d →
        (i j : ℕ) (t u : Tri C) → Stands ts i t → Stands ts j u → 0 < has same c t → 0 < has same d u → Joined same ts i j
    unfolding Had
    linked_joined ringed (itself c) i j t u s v h k = at_corner ringed c i j t u s v h k
    linked_joined ringed {c} {d} (step r) i j t u s v h k =
        onward (at_corner ringed c i r.place t r.triangle s r.stands h r.has_c)
        (at_corner ringed d r.place j r.triangle u r.stands v r.has_d k)
    linked_joined ringed (back r) i j t u s v h k = back (linked_joined ringed r j i u t v s k h)
    linked_joined ringed (onward q r) i j t u s v h k =
        let p = (had_linked q).0 (i, t, s, h) in
        onward (linked_joined ringed q i p.0 t p.1 s p.2 h p.3) (linked_joined ringed r p.0 j p.1 u p.2 v p.3 k)

  pub joined_as_linked : JoinedAsLinked same
  joined_as_linked ts ringed i j t u s v c d h k =
      ((λ q. joined_linked ts q t u s v c d h k), λ q. linked_joined ts ringed q i j t u s v h k)
