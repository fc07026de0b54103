-- A map of corners that is one-to-one on the corners that occur keeps what is counted of triangles: their sides, who has a corner, what is
-- read around it, and rings. Stated over any two sorts of corner. Assumes nothing.
use Rattle.std.proofs.Common.{◌≡◌, ℕ, ◌+◌, ◌≤◌, Bool, true, false, cond, ◌⊎◌, List, [], ◌∷◌, ◌++◌, map, sym, refl, ap, ◌∙◌, ap₂, subst₂, inl, inr, arith}
use Rattle.std.proofs.lemmas.List.{map-append}
use Rattle.std.specs.List.{AllByRecursion}
use Rattle.theory.specs.Triangle.{Tri, tri, sum_of, side, sides, has, with_corner, read_from, around, corners}
use Rattle.theory.specs.Closed.{EachSideOnce, ThreeCorners, Ring}
use Rattle.theory.proofs.Sums.{sum_map}
use Rattle.theory.proofs.Bounds.{one_if_then}
use Rattle.theory.proofs.Around.{ring}
use Rattle.theory.proofs.Walks.{sum_walk_map}
use Rattle.theory_numbers.specs.Numbers.{mapped}

-- a step with both its corners replaced
abbrev pub both : {C D : Type 0} → (C → D) → C × C → D × D
both m s = (m s.0, m s.1)

first_passed :
    {A B : Type 0} (g : A → B) (p q r : Bool) (x y z : A) →
    cond p (g x ∷ []) (cond q (g y ∷ []) (cond r (g z ∷ []) [])) ≡ map g (cond p (x ∷ []) (cond q (y ∷ []) (cond r (z ∷ []) [])))
first_passed g true q r x y z = refl
first_passed g false true r x y z = refl
first_passed g false false true x y z = refl
first_passed g false false false x y z = refl

-- the corners of the triangles are all of a kind
abbrev pub AllCorners : {C : Type 0} → (C → Type 0) → List (Tri C) → Type 0
AllCorners P ts = AllByRecursion (λ t. AllByRecursion P (corners t)) ts

sum_mapped :
    {C D : Type 0} (m : C → D) (P : C → Type 0) (h : Tri D → ℕ) (g : Tri C → ℕ) →
    ((t : Tri C) → AllByRecursion P (corners t) → h (mapped m t) ≡ g t) →
    (ts : List (Tri C)) → AllCorners P ts → sum_of h (map (mapped m) ts) ≡ sum_of g ts
sum_mapped m P h g e [] a = refl
sum_mapped m P h g e (t ∷ ts) a = ap₂ (λ p q. p + q) (e t a.0) (sum_mapped m P h g e ts a.1)

none_mapped :
    {C D : Type 0} (m : C → D) (P : C → Type 0) (h : Tri D → ℕ) → ((t : Tri C) → AllByRecursion P (corners t) → h (mapped m t) ≡ 0) →
    (ts : List (Tri C)) → AllCorners P ts → sum_of h (map (mapped m) ts) ≡ 0
none_mapped m P h e [] a = refl
none_mapped m P h e (t ∷ ts) a = omega (arith, e t a.0, none_mapped m P h e ts a.1)

-- what no corner that occurs is mapped to
abbrev pub Missed : {C D : Type 0} → (D → D → Bool) → (C → D) → (C → Type 0) → D → Type 0
Missed {C} sD m P d = (a : C) → P a → sD (m a) d ≡ false

module _ {C D : Type 0} (sC : C → C → Bool) (sD : D → D → Bool) (m : C → D) (P : C → Type 0)
    (keeps : (a b : C) → P a → P b → sD (m a) (m b) ≡ sC a b) where
  pub sides_mapped :
      (c d : C) → P c → P d → (ts : List (Tri C)) → AllCorners P ts → sides sD (m c) (m d) (map (mapped m) ts) ≡ sides sC c d ts
  unfolding side
  sides_mapped c d k l = sum_mapped m P _ _ one
    where
      one : (t : Tri C) → AllByRecursion P (corners t) → side sD (m c) (m d) (mapped m t) ≡ side sC c d t
      one (tri a b e) p =
          rw (
            keeps a c p.0 k,
            keeps b c p.1.0 k,
            keeps e c p.1.1.0 k,
            keeps a d p.0 l,
            keeps b d p.1.0 l,
            keeps e d p.1.1.0 l,
          )

  pub with_corner_mapped :
      (c : C) → P c → (ts : List (Tri C)) → AllCorners P ts → with_corner sD (m c) (map (mapped m) ts) ≡ with_corner sC c ts
  unfolding has
  with_corner_mapped c k = sum_mapped m P _ _ one
    where
      one : (t : Tri C) → AllByRecursion P (corners t) → has sD (m c) (mapped m t) ≡ has sC c t
      one (tri a b e) p = rw (keeps a c p.0 k, keeps b c p.1.0 k, keeps e c p.1.1.0 k)

  pub around_mapped :
      (c : C) → P c → (ts : List (Tri C)) → AllCorners P ts → around sD (m c) (map (mapped m) ts) ≡ map (both m) (around sC c ts)
  unfolding read_from
  around_mapped c k [] a = refl
  around_mapped c k (tri a b e ∷ ts) p =
      ap₂ ◌++◌
      (rw (keeps a c p.0.0 k, keeps b c p.0.1.0 k, keeps e c p.0.1.1.0 k)
      (first_passed (both m) (sC a c) (sC b c) (sC e c) (b, e) (e, a) (a, b)))
      (around_mapped c k ts p.1)
      ∙ sym (map-append (both m) (read_from sC c (tri a b e)) (around sC c ts))

  pub whole_mapped : (ts : List (Tri C)) → AllCorners P ts → AllByRecursion (ThreeCorners sC) ts → AllByRecursion (ThreeCorners sD) (map (mapped m) ts)
  whole_mapped [] a w = tt
  whole_mapped (tri a b e ∷ ts) p w = (
    (
      keeps a b p.0.0 p.0.1.0 ∙ w.0.0,
      keeps b e p.0.1.0 p.0.1.1.0 ∙ w.0.1,
      keeps e a p.0.1.1.0 p.0.0 ∙ w.0.2,
    ),
    whole_mapped ts p.1 w.1,
  )

  sides_from_missed : (d e : D) → Missed sD m P d → (ts : List (Tri C)) → AllCorners P ts → sides sD d e (map (mapped m) ts) ≡ 0
  unfolding side
  sides_from_missed d e n = none_mapped m P _ one
    where
      one : (t : Tri C) → AllByRecursion P (corners t) → side sD d e (mapped m t) ≡ 0
      one (tri a b c) p = rw (n a p.0, n b p.1.0, n c p.1.1.0)

  sides_to_missed : (d e : D) → Missed sD m P d → (ts : List (Tri C)) → AllCorners P ts → sides sD e d (map (mapped m) ts) ≡ 0
  unfolding side
  sides_to_missed d e n = none_mapped m P _ one
    where
      one : (t : Tri C) → AllByRecursion P (corners t) → side sD e d (mapped m t) ≡ 0
      one (tri a b c) p = simp (one_if_then, n a p.0, n b p.1.0, n c p.1.1.0)

  pub with_corner_missed : (d : D) → Missed sD m P d → (ts : List (Tri C)) → AllCorners P ts → with_corner sD d (map (mapped m) ts) ≡ 0
  unfolding has
  with_corner_missed d n = none_mapped m P _ one
    where
      one : (t : Tri C) → AllByRecursion P (corners t) → has sD d (mapped m t) ≡ 0
      one (tri a b e) p = rw (n a p.0, n b p.1.0, n e p.1.1.0)

  module _ (reached : (d : D) → ((c : C) × P c × (m c ≡ d)) ⊎ Missed sD m P d) (ts : List (Tri C)) (all : AllCorners P ts) where
    pub closed_mapped : EachSideOnce sC ts → EachSideOnce sD (map (mapped m) ts)
    closed_mapped once d e =
        elim (reached d) [
          | inl c ↦ elim (reached e) [
            | inl b ↦ subst₂
                (λ d e. (sides sD d e (map (mapped m) ts) ≤ 1) × (sides sD d e (map (mapped m) ts) ≡ sides sD e d (map (mapped m) ts)))
                c.2 b.2
                (let o = once c.0 b.0 in
                let p = sides_mapped c.0 b.0 c.1 b.1 ts all in
                let q = sides_mapped b.0 c.0 b.1 c.1 ts all in
                omega arith)
            | inr n ↦ none (sides_to_missed e d n ts all) (sides_from_missed e d n ts all)
          ]
          | inr n ↦ none (sides_from_missed d e n ts all) (sides_to_missed d e n ts all)
        ]
      where
        none : {a b : ℕ} → a ≡ 0 → b ≡ 0 → (a ≤ 1) × (a ≡ b)
        none p q = omega arith

    module _ (true-D : (c d : D) → sD c d ≡ true → c ≡ d) (refl-D : (c : D) → sD c c ≡ true) where
      pub ring_mapped :
          EachSideOnce sC ts → AllByRecursion (ThreeCorners sC) ts → (c : C) → P c → Ring sC c ts → Ring sD (m c) (map (mapped m) ts)
      ring_mapped once whole c k r =
          ring sD true-D refl-D (m c) (map (mapped m) ts) (whole_mapped ts all whole) (m r.first) (map m r.others)
          (λ h. ap (sum_of h) (around_mapped c k ts all) ∙ sum_map h (both m) (around sC c ts) ∙ r.weighs _
          ∙ sym (sum_walk_map m h r.first r.first r.others))
          (λ d. (closed_mapped once (m c) d).0)
