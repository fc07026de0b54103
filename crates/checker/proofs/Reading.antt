-- A triangle read from one of its corners: which sides it has there, and what is read. Assumes nothing.
use Rattle.std.proofs.Common.{◌≡◌, ℕ, ◌<◌, ◌≤◌, Bool, true, false, ◌&&◌, ◌||◌, eqb, ◌⊎◌, [], ◌∷◌, sym, refl, ap, ◌∙◌, inl, inr, ⊎_elim, arith}
use Rattle.std.specs.List.{AllByRecursion}
use Rattle.std.proofs.lemmas.Bool.{cases_Bool, cases_lt, cond_both, or_from, or_parts, eqb-true, ne_eqb, eqb-false}
use Rattle.theory.specs.Triangle.{Tri, tri, one_if, side, has, read_from, corners}
use Rattle.theory.specs.Closed.{ThreeCorners}
use Rattle.part.proofs.Places.{one_had}
use Rattle.checker.specs.declared.chains.Seen.{Seen}
use Rattle.checker.specs.Chained.{seen_from}

-- exactly one of three corners is c
abbrev pub Which : ℕ → ℕ → ℕ → ℕ → Type 0
Which c a b e =
    ((eqb a c ≡ true) × (eqb b c ≡ false) × (eqb e c ≡ false))
    ⊎ (((eqb a c ≡ false) × (eqb b c ≡ true) × (eqb e c ≡ false)) ⊎ ((eqb a c ≡ false) × (eqb b c ≡ false) × (eqb e c ≡ true)))

-- where x is c and y is not x, y is not c
apart : (c x y : ℕ) → eqb x c ≡ true → (x ≡ y → ⊥) → eqb y c ≡ false
apart c x y e n = ne_eqb y c (λ z. n (eqb-true x c e ∙ sym z))

pub which : (c a b e : ℕ) → ThreeCorners eqb (tri a b e) → 0 < has eqb c (tri a b e) → Which c a b e
unfolding has
which c a b e w h =
    let ab = eqb-false a b w.0 in
    let be = eqb-false b e w.1 in
    let ea = eqb-false e a w.2 in
    ⊎_elim (λ t. inl (t, apart c a b t ab, apart c a e t (λ z. ea (sym z))))
    (λ f. ⊎_elim (λ t. inr (inl (f, t, apart c b e t be)))
    (λ g. ⊎_elim (λ t. inr (inr (f, g, t)))
    (λ k. absurd (omega (arith, ap one_if (or_from (eqb a c) (eqb b c || eqb e c) f (or_from (eqb b c) (eqb e c) g k)))))
    (cases_Bool (eqb e c)))
    (cases_Bool (eqb b c)))
    (cases_Bool (eqb a c))

-- a triangle without c has no side at c
none_at : (c a b e : ℕ) → has eqb c (tri a b e) ≡ 0 → (eqb a c ≡ false) × (eqb b c ≡ false) × (eqb e c ≡ false)
unfolding has
none_at c a b e h =
    let all : (eqb a c || (eqb b c || eqb e c)) ≡ false = off (eqb a c || (eqb b c || eqb e c)) h in
    let p = or_parts (eqb a c) (eqb b c || eqb e c) all in
    let q = or_parts (eqb b c) (eqb e c) p.1 in
    (p.0, q.0, q.1)
  where
    off : (x : Bool) → one_if x ≡ 0 → x ≡ false
    off true h = absurd (omega arith)
    off false h = refl

pub no_side_out : (c d : ℕ) (t : Tri ℕ) → has eqb c t ≡ 0 → side eqb c d t ≡ 0
unfolding side
no_side_out c d (tri a b e) h = let n = none_at c a b e h in simp (n.0, n.1, n.2)

pub no_side_in : (c d : ℕ) (t : Tri ℕ) → has eqb c t ≡ 0 → side eqb d c t ≡ 0
unfolding side
no_side_in c d (tri a b e) h = let n = none_at c a b e h in simp (n.0, n.1, n.2, and_off)
  where
    and_off : (x : Bool) → (x && false) ≡ false
    and_off true = refl
    and_off false = refl

-- what the triangle has at a corner of its own, read from there
pub record At (c : ℕ) (t : Tri ℕ) : Type 0 where
  pub out : (d : ℕ) → side eqb c d t ≡ one_if (eqb (seen_from c t).second d)
  pub into : (d : ℕ) → side eqb d c t ≡ one_if (eqb (seen_from c t).third d)
  pub read : read_from eqb c t ≡ ((seen_from c t).second, (seen_from c t).third) ∷ []

pub at : (c : ℕ) (t : Tri ℕ) → ThreeCorners eqb t → 0 < has eqb c t → At c t
unfolding side seen_from read_from
at c (tri a b e) w h = ⊎_elim first (⊎_elim second third) (which c a b e w h)
  where
    and_off : (x : Bool) → (x && false) ≡ false
    and_off true = refl
    and_off false = refl

    and_on : (x : Bool) → (x && true) ≡ x
    and_on true = refl
    and_on false = refl

    first : (eqb a c ≡ true) × (eqb b c ≡ false) × (eqb e c ≡ false) → At c (tri a b e)
    first n = record {
      out = λ d. simp (n.0, n.1, n.2) (omega arith);
      into = λ d. simp (n.0, n.1, n.2, and_off, and_on) (omega arith);
      read = simp n.0;
    }

    second : (eqb a c ≡ false) × (eqb b c ≡ true) × (eqb e c ≡ false) → At c (tri a b e)
    second n = record {
      out = λ d. simp (n.0, n.1, n.2) (omega arith);
      into = λ d. simp (n.0, n.1, n.2, and_off, and_on) (omega arith);
      read = simp (n.0, n.1);
    }

    third : (eqb a c ≡ false) × (eqb b c ≡ false) × (eqb e c ≡ true) → At c (tri a b e)
    third n = record {
      out = λ d. simp (n.0, n.1, n.2) (omega arith);
      into = λ d. simp (n.0, n.1, n.2, and_off, and_on) (omega arith);
      read = simp (n.0, n.1, n.2);
    }

-- which corner c is, and the place that is told
abbrev pub Place : ℕ → ℕ → ℕ → ℕ → ℕ → Type 0
Place c a b e k = ((c ≡ a) × (k ≡ 0)) ⊎ (((c ≡ b) × (k ≡ 1)) ⊎ ((c ≡ e) × (k ≡ 2)))

pub place_at : (c a b e : ℕ) → ThreeCorners eqb (tri a b e) → 0 < has eqb c (tri a b e) → Place c a b e (seen_from c (tri a b e)).place
unfolding seen_from
place_at c a b e w h =
    ⊎_elim (λ n. inl (sym (eqb-true a c n.0), simp n.0))
    (⊎_elim (λ n. inr (inl (sym (eqb-true b c n.1), simp (n.0, n.1)))) (λ n. inr (inr (sym (eqb-true e c n.2), simp (n.0, n.1)))))
    (which c a b e w h)

-- the two corners that follow are in range as all are
pub seen_below : (n c : ℕ) (t : Tri ℕ) → AllByRecursion (λ d. d < n) (corners t) → ((seen_from c t).second < n) × ((seen_from c t).third < n)
unfolding seen_from
seen_below n c (tri a b e) r =
    let P : Seen → Type 0 = λ s. (s.second < n) × (s.third < n) in
    cond_both (eqb a c) _ _ P (λ _. (r.1.0, r.1.1.0))
    (λ _. cond_both (eqb b c) _ _ P (λ _. (r.1.1.0, r.0)) (λ _. (r.0, r.1.0)))

pub place_below : (c : ℕ) (t : Tri ℕ) → (seen_from c t).place < 3
unfolding seen_from
place_below c (tri a b e) =
    let P : Seen → Type 0 = λ s. s.place < 3 in
    cond_both (eqb a c) _ _ P (λ _. omega arith) (λ _. cond_both (eqb b c) _ _ P (λ _. omega arith) (λ _. omega arith))

-- a corner of a triangle is in range as all are
pub corner_below : (n c : ℕ) (t : Tri ℕ) → AllByRecursion (λ d. d < n) (corners t) → 0 < has eqb c t → c < n
corner_below n c (tri a b e) r h = ⊎_elim (λ x. omega (arith, r.0)) (⊎_elim (λ x. omega (arith, r.1.0)) (λ x. omega (arith, r.1.1.0))) (one_had c a b e h)

-- a triangle without a corner twice has a side at most once
pub side_most : (c d : ℕ) (t : Tri ℕ) → ThreeCorners eqb t → side eqb c d t ≤ 1
side_most c d t w =
    ⊎_elim (λ h. let o = (at c t w h).out d in let m = most (eqb (seen_from c t).second d) in omega arith)
    (λ z. let o = no_side_out c d t (omega arith) in omega arith) (cases_lt 0 (has eqb c t))
  where
    most : (x : Bool) → one_if x ≤ 1
    most true = omega arith
    most false = omega arith

-- a triangle without c is not read from it
pub no_read : (c : ℕ) (t : Tri ℕ) → has eqb c t ≡ 0 → read_from eqb c t ≡ []
unfolding read_from
no_read c (tri a b e) h = let n = none_at c a b e h in simp (n.0, n.1, n.2)

pub has_most : (c : ℕ) (t : Tri ℕ) → has eqb c t ≤ 1
unfolding has
has_most c (tri a b e) = most (eqb a c || (eqb b c || eqb e c))
  where
    most : (x : Bool) → one_if x ≤ 1
    most true = omega arith
    most false = omega arith
