-- Steps of which each corner has at most one out and as many in: whoever follows them from a corner comes back to it, and the steps are one
-- ring exactly if that takes as many steps as there are. Assumes nothing.
use Rattle.std.proofs.Common.{◌≡◌, ℕ, zero, suc, ◌+◌, ◌*◌, ◌<◌, ◌≤◌, Bool, true, false, cond, not, eqb, ◌≢◌, ◌⊎◌, List, [], ◌∷◌, length, sym, refl, ap, ◌∙◌, inl, inr, ⊎_elim, add-mul, one-mul, zero-mul, arith}
use Rattle.std.specs.List.{AllByRecursion}
use Rattle.std.proofs.lemmas.Bool.{cases_lt, cases_eq, eq-eqb, ne_eqb}
use Rattle.theory.specs.Triangle.{sum_of, one_if, times, walk}
use Rattle.theory.proofs.Sums.{sum_ones}
use Rattle.checker.specs.Passes.{led}

-- no way back to s in fewer than n steps
abbrev pub NoReturn : (ℕ → ℕ) → ℕ → ℕ → Type 0
NoReturn f s n = (j : ℕ) → 0 < j → j < n → led f s j ≡ s → ⊥

-- the first way back to s, in fewer than n steps
pub record EarlyReturn (f : ℕ → ℕ) (s n : ℕ) : Type 0 where
  pub taken : ℕ
  pub some : 0 < taken
  pub early : taken < n
  pub first : NoReturn f s taken
  pub there : led f s taken ≡ s

pub late_or_early : (f : ℕ → ℕ) (s n : ℕ) → NoReturn f s n ⊎ EarlyReturn f s n
late_or_early f s zero = inl (λ j a b. absurd (omega arith))
late_or_early f s (suc n) =
    ⊎_elim
    (λ late. ⊎_elim
    (λ e. ⊎_elim (λ some. inr (record { taken = n; some = some; early = omega arith; first = late; there = e }))
    (λ none. inl (λ j a b. absurd (omega arith))) (cases_lt 0 n))
    (λ no_way. inl (λ j a b e.
    ⊎_elim (λ less. late j a less e) (λ more. let z : j ≡ n = omega arith in no_way (ap (led f s) (sym z) ∙ e)) (cases_lt j n)))
    (cases_eq (led f s n) s))
    (λ r. inr (record { taken = r.taken; some = r.some; early = omega (arith, r.early); first = r.first; there = r.there }))
    (late_or_early f s n)

-- sums and what holds of each element
pub every_with : {A : Type 0} (P Q : A → Type 0) → ((x : A) → P x → Q x) → (xs : List A) → AllByRecursion P xs → AllByRecursion Q xs
every_with P Q g [] a = tt
every_with P Q g (x ∷ xs) a = (g x a.0, every_with P Q g xs a.1)

pub every_all : {A : Type 0} (P : A → Type 0) → ((x : A) → P x) → (xs : List A) → AllByRecursion P xs
every_all P g [] = tt
every_all P g (x ∷ xs) = (g x, every_all P g xs)

sum_every_same : {A : Type 0} (g h : A → ℕ) (xs : List A) → AllByRecursion (λ x. g x ≡ h x) xs → sum_of g xs ≡ sum_of h xs
sum_every_same g h [] a = refl
sum_every_same g h (x ∷ xs) a = let r = sum_every_same g h xs a.1 in omega (arith, a.0)

sum_every_most : {A : Type 0} (g h : A → ℕ) (xs : List A) → AllByRecursion (λ x. g x ≤ h x) xs → sum_of g xs ≤ sum_of h xs
sum_every_most g h [] a = omega arith
sum_every_most g h (x ∷ xs) a = let r = sum_every_most g h xs a.1 in omega (arith, a.0)

sum_add : {A : Type 0} (g h : A → ℕ) (xs : List A) → sum_of (λ x. g x + h x) xs ≡ sum_of g xs + sum_of h xs
sum_add g h [] = refl
sum_add g h (x ∷ xs) = let r = sum_add g h xs in omega arith

sum_zeros : {A : Type 0} (xs : List A) → sum_of (λ x. 0) xs ≡ 0
sum_zeros [] = refl
sum_zeros (x ∷ xs) = let r = sum_zeros xs in omega arith

-- a sum of sums may be taken either way round
sum_swap : {A B : Type 0} (g : A → B → ℕ) (xs : List A) (ys : List B) → sum_of (λ x. sum_of (g x) ys) xs ≡ sum_of (λ y. sum_of (λ x. g x y) xs) ys
sum_swap g [] ys = sym (sum_zeros ys)
sum_swap g (x ∷ xs) ys = ap (λ n. sum_of (g x) ys + n) (sum_swap g xs ys) ∙ sym (sum_add (g x) (λ y. sum_of (λ x. g x y) xs) ys)

-- one weight wherever a test passes
sum_picked : {A : Type 0} (b : A → Bool) (m : ℕ) (xs : List A) → sum_of (λ x. cond (b x) m 0) xs ≡ sum_of (λ x. one_if (b x)) xs * m
sum_picked b m [] = sym (zero-mul m)
sum_picked b m (x ∷ xs) = let r = sum_picked b m xs in let t = once (b x) in omega (arith, add-mul (one_if (b x)) (sum_of (λ x. one_if (b x)) xs) m)
  where
    once : (t : Bool) → cond t m 0 ≡ one_if t * m
    once true = sym (one-mul m)
    once false = sym (zero-mul m)

-- where each of some weights is at most 1 and they sum up to how many there are, each is 1
all_ones : {A : Type 0} (h : A → ℕ) (xs : List A) → AllByRecursion (λ x. h x ≤ 1) xs → sum_of h xs ≡ length xs → AllByRecursion (λ x. h x ≡ 1) xs
all_ones h [] a e = tt
all_ones h (x ∷ xs) a e =
    let m = sum_every_most h (λ x. 1) xs a.1 in
    let o = sum_ones xs in
    (omega (arith, a.0), all_ones h xs a.1 (omega (arith, a.0)))

module _ (f : ℕ → ℕ) where
  -- the corners that k steps leave
  abbrev pub trail : ℕ → ℕ → List ℕ
  trail s zero = []
  trail s (suc k) = s ∷ trail (f s) k

  pub led_next : (s k : ℕ) → led f (f s) k ≡ f (led f s k)
  led_next s zero = refl
  led_next s (suc k) = led_next (f s) k

  trail_length : (s k : ℕ) → length (trail s k) ≡ k
  trail_length s zero = refl
  trail_length s (suc k) = ap suc (trail_length (f s) k)

  trail_turn : (g : ℕ → ℕ) (s k : ℕ) → sum_of g (trail (f s) k) + g s ≡ sum_of g (trail s k) + g (led f s k)
  trail_turn g s zero = refl
  trail_turn g s (suc k) = let r = trail_turn g (f s) k in omega arith

  trail_image : (g : ℕ → ℕ) (s k : ℕ) → sum_of g (trail (f s) k) ≡ sum_of (λ v. g (f v)) (trail s k)
  trail_image g s zero = refl
  trail_image g s (suc k) = ap (λ n. g (f s) + n) (trail_image g (f s) k)

  walk_trail : (h : ℕ × ℕ → ℕ) (s m e : ℕ) → led f s (suc m) ≡ e → sum_of h (walk s (trail (f s) m) e) ≡ sum_of (λ v. h (v, f v)) (trail s (suc m))
  walk_trail h s zero e r = ap (λ x. h (s, x) + 0) (sym r)
  walk_trail h s (suc m) e r = ap (λ n. h (s, f s) + n) (walk_trail h (f s) m e r)

  not_in_trail : (x s k : ℕ) → ((j : ℕ) → j < k → led f s j ≡ x → ⊥) → times eqb x (trail s k) ≡ 0
  not_in_trail x s zero n = refl
  not_in_trail x s (suc k) n =
      omega (arith, ap one_if (ne_eqb s x (n 0 (omega arith))), not_in_trail x (f s) k (λ j l. n (suc j) (omega arith)))

  in_trail : (x s k : ℕ) → 0 < times eqb x (trail s k) → (j : ℕ) × (j < k) × (led f s j ≡ x)
  in_trail x s zero h = absurd (omega arith)
  in_trail x s (suc k) h =
      ⊎_elim (λ e. (0, omega arith, e))
      (λ n. let r = in_trail x (f s) k (omega (arith, ap one_if (ne_eqb s x n))) in (suc r.0, omega (arith, r.1), r.2)) (cases_eq s x)

  trail_every : (P : ℕ → Type 0) (s k : ℕ) → ((j : ℕ) → j < k → P (led f s j)) → AllByRecursion P (trail s k)
  trail_every P s zero a = tt
  trail_every P s (suc k) a = (a 0 (omega arith), trail_every P (f s) k (λ j l. a (suc j) (omega arith)))

  -- no two of the first k corners are one
  abbrev pub Apart : ℕ → ℕ → Type 0
  Apart s k = (i j : ℕ) → i < j → j < k → led f s i ≢ led f s j

  apart_once : (s k : ℕ) → Apart s k → (x : ℕ) → times eqb x (trail s k) ≤ 1
  apart_once s zero a x = omega arith
  apart_once s (suc k) a x =
      ⊎_elim
      (λ e. omega (arith, ap one_if (eq-eqb s x e), not_in_trail x (f s) k (λ j l g. a 0 (suc j) (omega arith) (omega arith) (e ∙ sym g))))
      (λ m. omega (arith, ap one_if (ne_eqb s x m), apart_once (f s) k (λ i j l h. a (suc i) (suc j) (omega arith) (omega arith)) x))
      (cases_eq s x)

-- how many steps leave a corner, and how many arrive there
abbrev pub leaving : List (ℕ × ℕ) → ℕ → ℕ
leaving L d = sum_of (λ p. one_if (eqb d p.0)) L

abbrev pub arriving : List (ℕ × ℕ) → ℕ → ℕ
arriving L d = sum_of (λ p. one_if (eqb d p.1)) L

-- each step leaves a corner that a step leaves
leaves : (L : List (ℕ × ℕ)) → AllByRecursion (λ p. 0 < leaving L p.0) L
leaves [] = tt
leaves (p ∷ L) = (omega (arith, ap one_if (eq-eqb p.0 p.0 refl)), every_with _ _ (λ q h. omega arith) L (leaves L))

-- a trail of which each corner is left by one step
module _ (f : ℕ → ℕ) (L : List (ℕ × ℕ)) (s k : ℕ) (left : (j : ℕ) → j < k → leaving L (led f s j) ≡ 1) where
  -- so many of the steps leave a corner of it
  covered : sum_of (λ p. times eqb p.0 (trail f s k)) L ≡ k
  covered =
      sum_swap (λ p v. one_if (eqb v p.0)) L (trail f s k)
      ∙ sum_every_same (leaving L) (λ v. 1) (trail f s k) (trail_every f (λ v. leaving L v ≡ 1) s k left)
      ∙ sum_ones (trail f s k) ∙ trail_length f s k

  -- if that is all of them, each step leaves a corner of it
  pub all_left : Apart f s k → length L ≡ k → AllByRecursion (λ p. (j : ℕ) × (j < k) × (led f s j ≡ p.0)) L
  all_left apart long =
      every_with _ _ (λ p e. in_trail f p.0 s k (omega arith)) L
      (all_ones (λ p. times eqb p.0 (trail f s k)) L (every_all _ (λ p. apart_once f s k apart p.0) L) (covered ∙ sym long))

module _ (f : ℕ → ℕ) (L : List (ℕ × ℕ)) (follows : AllByRecursion (λ p. f p.0 ≡ p.1) L)
    (once : (d : ℕ) → leaving L d ≤ 1) (even : (d : ℕ) → leaving L d ≡ arriving L d) where
  onward : (d : ℕ) → leaving L d ≤ leaving L (f d)
  onward d = omega (arith, even (f d), sum_every_most (λ p. one_if (eqb d p.0)) (λ p. one_if (eqb (f d) p.1)) L (every_with _ _ step L follows))
    where
      step : (p : ℕ × ℕ) → f p.0 ≡ p.1 → one_if (eqb d p.0) ≤ one_if (eqb (f d) p.1)
      step p e =
          ⊎_elim (λ s. omega (arith, ap one_if (eq-eqb d p.0 s), ap one_if (eq-eqb (f d) p.1 (ap f s ∙ e))))
          (λ n. omega (arith, ap one_if (ne_eqb d p.0 n))) (cases_eq d p.0)

  one_way_in : (d e : ℕ) → 0 < leaving L d → 0 < leaving L e → f d ≡ f e → d ≡ e
  one_way_in d e a b same = ⊎_elim (λ s. s) (λ n. absurd (apart n)) (cases_eq d e)
    where
      step : (d ≡ e → ⊥) → (p : ℕ × ℕ) → f p.0 ≡ p.1 → one_if (eqb d p.0) + one_if (eqb e p.0) ≤ one_if (eqb (f d) p.1)
      step n p g =
          ⊎_elim (λ s. omega (arith, ap one_if (eq-eqb d p.0 s), ap one_if (ne_eqb e p.0 (λ z. n (s ∙ sym z))), ap one_if (eq-eqb (f d) p.1 (ap f s ∙ g))))
          (λ m. ⊎_elim (λ s. omega (arith, ap one_if (ne_eqb d p.0 m), ap one_if (eq-eqb e p.0 s), ap one_if (eq-eqb (f d) p.1 (same ∙ ap f s ∙ g))))
          (λ k. omega (arith, ap one_if (ne_eqb d p.0 m), ap one_if (ne_eqb e p.0 k))) (cases_eq e p.0))
          (cases_eq d p.0)

      apart : (d ≡ e → ⊥) → ⊥
      apart n =
          omega (
            arith,
            sum_every_most (λ p. one_if (eqb d p.0) + one_if (eqb e p.0)) (λ p. one_if (eqb (f d) p.1)) L (every_with _ _ (step n) L follows),
            sum_add (λ p. one_if (eqb d p.0)) (λ p. one_if (eqb e p.0)) L,
            even (f d),
            once (f d),
          )

  pub leaving_led : (s : ℕ) → 0 < leaving L s → (k : ℕ) → 0 < leaving L (led f s k)
  leaving_led s a zero = a
  leaving_led s a (suc k) = leaving_led (f s) (omega (arith, onward s)) k

  pub late_apart : (s k : ℕ) → 0 < leaving L s → NoReturn f s k → Apart f s k
  late_apart s k a n zero j l m e = n j l m (sym e)
  late_apart s k a n (suc i) zero l m e = absurd (omega arith)
  late_apart s k a n (suc i) (suc j) l m e =
      late_apart s k a n i j (omega arith) (omega arith)
      (one_way_in (led f s i) (led f s j) (leaving_led s a i) (leaving_led s a j) (sym (led_next f s i) ∙ e ∙ led_next f s j))

  trail_once : (s k : ℕ) → 0 < leaving L s → NoReturn f s k → (x : ℕ) → times eqb x (trail f s k) ≤ 1
  trail_once s k a n = apart_once f s k (late_apart s k a n)

  left_once : (s : ℕ) → 0 < leaving L s → (k j : ℕ) → j < k → leaving L (led f s j) ≡ 1
  left_once s a k j l = omega (arith, once (led f s j), leaving_led s a j)

  covered_most : (s k : ℕ) → 0 < leaving L s → NoReturn f s k → k ≤ length L
  covered_most s k a n =
      omega (arith, covered f L s k (left_once s a k), sum_ones L, sum_every_most (λ p. times eqb p.0 (trail f s k)) (λ p. 1) L (every_all _ (λ p. trail_once s k a n p.0) L))

  module _ (s : ℕ) (a : 0 < leaving L s) where
    -- the way back takes at most as many steps as there are
    pub back : (m : ℕ) → length L ≡ suc m → NoReturn f s (suc m) → led f s (suc m) ≡ s
    back m l n =
        ⊎_elim (λ e. e) (λ no_way. absurd (omega (arith, covered_most s (suc (suc m)) a (longer no_way)))) (cases_eq (led f s (suc m)) s)
      where
        longer : (led f s (suc m) ≡ s → ⊥) → NoReturn f s (suc (suc m))
        longer no_way j p q e =
            ⊎_elim (λ less. n j p less e) (λ more. let z : j ≡ suc m = omega arith in no_way (ap (led f s) (sym z) ∙ e)) (cases_lt j (suc m))

    -- if it takes that many, the steps are those of the walk round
    pub walked : (m : ℕ) → length L ≡ suc m → NoReturn f s (suc m) → (h : ℕ × ℕ → ℕ) → sum_of h L ≡ sum_of h (walk s (trail f (f s) m) s)
    walked m l n h =
        sum_every_same h (λ p. sum_of (λ v. cond (eqb v p.0) (h p) 0) vs) L (every_with _ _ one_each L ones)
        ∙ sum_swap (λ p v. cond (eqb v p.0) (h p) 0) L vs
        ∙ sum_every_same (λ v. sum_of (λ p. cond (eqb v p.0) (h p) 0) L) (λ v. h (v, f v)) vs (every_with _ _ from_each vs (trail_every f (λ v. leaving L v ≡ 1) s (suc m) (left_once s a (suc m))))
        ∙ sym (walk_trail f h s m s (back m l n))
      where
        vs : List ℕ
        vs = trail f s (suc m)

        ones : AllByRecursion (λ p. times eqb p.0 (trail f s (suc m)) ≡ 1) L
        ones = all_ones _ L (every_all _ (λ p. trail_once s (suc m) a n p.0) L) (covered f L s (suc m) (left_once s a (suc m)) ∙ sym l)

        one_each : (p : ℕ × ℕ) → times eqb p.0 (trail f s (suc m)) ≡ 1 → h p ≡ sum_of (λ v. cond (eqb v p.0) (h p) 0) (trail f s (suc m))
        one_each p e = sym (sum_picked (λ v. eqb v p.0) (h p) (trail f s (suc m)) ∙ ap (λ n. n * h p) e ∙ one-mul (h p))

        same_step : (v : ℕ) (p : ℕ × ℕ) → f p.0 ≡ p.1 → cond (eqb v p.0) (h p) 0 ≡ cond (eqb v p.0) (h (v, f v)) 0
        same_step v p e =
            ⊎_elim (λ z. ap (λ x. cond (eqb v p.0) x 0) (ap (λ q. h q) (λ i. (sym z i, (sym e ∙ ap f (sym z)) i))))
            (λ z. ap (λ b. cond b (h p) 0) (ne_eqb v p.0 z) ∙ ap (λ b. cond b (h (v, f v)) 0) (sym (ne_eqb v p.0 z))) (cases_eq v p.0)

        from_each : (v : ℕ) → leaving L v ≡ 1 → sum_of (λ p. cond (eqb v p.0) (h p) 0) L ≡ h (v, f v)
        from_each v e =
            sum_every_same _ _ L (every_with _ _ (same_step v) L follows)
            ∙ sum_picked (λ p. eqb v p.0) (h (v, f v)) L ∙ ap (λ n. n * h (v, f v)) e ∙ one-mul (h (v, f v))

    pub walk_apart : (m : ℕ) → NoReturn f s (suc m) → (d : ℕ) → times eqb d (s ∷ trail f (f s) m) ≤ 1
    walk_apart m n = trail_once s (suc m) a n

    -- if there is a shorter way back, they are not the steps of any walk round
    pub not_walked :
        (k : ℕ) → 0 < k → k < length L → NoReturn f s k → led f s k ≡ s →
        (b : ℕ) (others : List ℕ) → ((h : ℕ × ℕ → ℕ) → sum_of h L ≡ sum_of h (walk b others b)) → ⊥
    not_walked k p q n e b others weighs =
        ⊎_elim
        (λ on. let one : V b ≡ 1 = omega (arith, trail_once s k a n b) in
        omega (arith, all_b, ap (λ v. sum_of (λ s. v) (walk b others b)) one, weighs (λ s. 1), sum_ones L))
        (λ off. let none : V b ≡ 0 = omega arith in omega (arith, all_b, ap (λ v. sum_of (λ s. v) (walk b others b)) none, sum_zeros (walk b others b)))
        (cases_lt 0 (V b))
      where
        V : ℕ → ℕ
        V x = times eqb x (trail f s k)

        steady : (x : ℕ) → 0 < leaving L x → times eqb x (trail f s k) ≡ times eqb (f x) (trail f s k)
        steady x h =
            sym (sum_every_same (λ v. one_if (eqb (f v) (f x))) (λ v. one_if (eqb v x)) (trail f s k) (every_with _ _ image (trail f s k) (trail_every f (λ v. leaving L v ≡ 1) s k (left_once s a k))))
            ∙ sym (trail_image f (λ v. one_if (eqb v (f x))) s k)
            ∙ omega (arith, trail_turn f (λ v. one_if (eqb v (f x))) s k, ap (λ v. one_if (eqb v (f x))) e)
          where
            image : (v : ℕ) → leaving L v ≡ 1 → one_if (eqb (f v) (f x)) ≡ one_if (eqb v x)
            image v l =
                ⊎_elim (λ z. ap one_if (eq-eqb (f v) (f x) (ap f z) ∙ sym (eq-eqb v x z)))
                (λ z. ap one_if (ne_eqb (f v) (f x) (λ y. z (one_way_in v x (omega arith) h y)) ∙ sym (ne_eqb v x z))) (cases_eq v x)

        unsteady : ℕ × ℕ → ℕ
        unsteady r = one_if (not (eqb (times eqb r.0 (trail f s k)) (times eqb r.1 (trail f s k))))

        level : (u w : ℕ) → u ≡ w → one_if (not (eqb u w)) ≡ 0
        level u w z = ap (λ t. one_if (not t)) (eq-eqb u w z)

        unlevel : (u w : ℕ) → one_if (not (eqb u w)) ≡ 0 → u ≡ w
        unlevel u w z = ⊎_elim (λ y. y) (λ y. absurd (omega (arith, z, ap (λ t. one_if (not t)) (ne_eqb u w y)))) (cases_eq u w)

        both_with : (xs : List (ℕ × ℕ)) → AllByRecursion (λ r. 0 < leaving L r.0) xs → AllByRecursion (λ r. f r.0 ≡ r.1) xs → AllByRecursion (λ r. unsteady r ≡ 0) xs
        both_with [] c d = tt
        both_with (r ∷ xs) c d = (level _ _ (steady r.0 c.0 ∙ ap (λ x. times eqb x (trail f s k)) d.0), both_with xs c.1 d.1)

        none_unsteady : sum_of unsteady (walk b others b) ≡ 0
        none_unsteady = sym (weighs unsteady) ∙ sum_every_same unsteady (λ r. 0) L (both_with L (leaves L) follows) ∙ sum_zeros L

        along : (c : ℕ) (xs : List ℕ) (d : ℕ) → sum_of unsteady (walk c xs d) ≡ 0 → sum_of (λ r. V r.0) (walk c xs d) ≡ sum_of (λ r. V c) (walk c xs d)
        along c [] d z = refl
        along c (x ∷ xs) d z =
            ap (λ n. V c + n) (along x xs d (omega arith) ∙ ap (λ v. sum_of (λ r. v) (walk x xs d)) (sym (unlevel (V c) (V x) (omega arith))))

        all_b : k ≡ sum_of (λ r. V b) (walk b others b)
        all_b = sym (covered f L s k (left_once s a k)) ∙ weighs (λ r. V r.0) ∙ along b others b none_unsteady
