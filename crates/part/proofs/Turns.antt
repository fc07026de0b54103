-- Numbers given in turn to the roots that triangles have: who has which number, and that there are numbers enough. Assumes nothing.
use Rattle.std.proofs.Common.{◌≡◌, ℕ, zero, suc, ◌+◌, ◌*◌, ◌^◌, ◌<◌, ◌≤◌, eqb, ltb, ◌≢◌, ◌⊎◌, List, [], ◌∷◌, ◌++◌, map, length, get_or, set, replicate, sym, refl, ap, ◌∙◌, subst, ap₂, inl, inr, arith, length-set, below_more}
use Rattle.std.specs.List.{range_with_len}
use Rattle.std.proofs.lemmas.List.FromFn.{map-range_with_len_more}
use Rattle.std.proofs.lemmas.List.{get_or-set_same, get_or-set_other, get_or-replicate, length-replicate}
use Rattle.std.proofs.lemmas.Bool.{cases_eq, cases_Bool, cond_both, eqb-true, eqb-false, lt-ltb}
use Rattle.theory.specs.Triangle.{sum_of, one_if}
use Rattle.theory_parts.specs.Parts.{InTurn}
use Rattle.theory_parts.specs.Buffer.{part_at, count_in, first_parts}
use Rattle.part.specs.Passes.{SameCorners, PartsBelow, SameParts, no_number, given_at}

-- 1 for the number of a root that has one
abbrev numbered : ℕ → ℕ
numbered x = one_if (ltb x no_number)

-- how many roots have numbers
abbrev tally : List ℕ → ℕ
tally m = sum_of numbered m

sum_set : (h : ℕ → ℕ) (xs : List ℕ) (i v : ℕ) → i < length xs → sum_of h (set xs i v) + h (get_or xs i 0) ≡ sum_of h xs + h v
sum_set h [] i v l = absurd (omega arith)
sum_set h (x ∷ xs) zero v l = omega arith
sum_set h (x ∷ xs) (suc i) v l = let r = sum_set h xs i v (omega arith) in omega arith

numbered_le : (x : ℕ) → numbered x ≤ 1
numbered_le x = elim (cases_Bool (ltb x no_number)) [ inl e ↦ omega (arith, ap one_if e) | inr e ↦ omega (arith, ap one_if e) ]

tally_le : (m : List ℕ) → tally m ≤ length m
tally_le [] = omega arith
tally_le (x ∷ m) = let r = tally_le m in omega (arith, numbered_le x)

-- where a root has no number, fewer numbers are given than there are roots
tally_lt : (m : List ℕ) (r : ℕ) → r < length m → get_or m r 0 ≡ no_number → tally m < length m
tally_lt m r l e = omega (arith, sum_set numbered m r 0 l, ap numbered e, tally_le (set m r 0), length-set m r 0)

tally_none : (k : ℕ) → tally (replicate k no_number) ≡ 0
tally_none zero = refl
tally_none (suc k) = let r = tally_none k in omega arith

-- the n roots that have numbers have those below n, each its own
pub record Given (m : List ℕ) (n : ℕ) : Type 0 where
  pub tallied : tally m ≡ n
  pub below : (r : ℕ) → r < length m → (get_or m r 0 ≡ no_number) ⊎ (get_or m r 0 < n)
  pub apart : (r s : ℕ) → r < length m → s < length m → get_or m r 0 ≡ get_or m s 0 → (get_or m r 0 ≡ no_number) ⊎ (r ≡ s)

given_none : (k : ℕ) → Given (replicate k no_number) 0
given_none k =
    record { tallied = tally_none k; below = λ r l. inl (none r l); apart = λ r s l h e. inl (none r l) }
  where
    none : (r : ℕ) → r < length (replicate k no_number) → get_or (replicate k no_number) r 0 ≡ no_number
    none r l = get_or-replicate k r no_number 0 (omega (arith, length-replicate k no_number))

given_le : (m : List ℕ) (n : ℕ) → Given m n → n ≤ length m
given_le m n g = omega (arith, g.tallied, tally_le m)

-- the root r is given the number n
module _ (m : List ℕ) (n r : ℕ) (g : Given m n) (l : r < length m) (small : length m < 2 ^ 32) (none : get_or m r 0 ≡ no_number) where
  room : n < length m
  room = omega (arith, g.tallied, tally_lt m r l none)

  same : get_or (set m r n) r 0 ≡ n
  same = get_or-set_same m r n 0 l

  other : (s : ℕ) → s ≢ r → get_or (set m r n) s 0 ≡ get_or m s 0
  other s e = get_or-set_other m r s n 0 e

  -- no other root has that number
  new : (s : ℕ) → s < length m → get_or m s 0 ≢ n
  new s h e = omega (arith, g.below s h, room)

  given_set : Given (set m r n) (n + 1)
  given_set =
      record {
        tallied =
            omega (arith, g.tallied, sum_set numbered m r n l, ap numbered none, ap one_if (lt-ltb n no_number (omega (arith, room))));
        below = λ s h. elim (cases_eq s r) [
          | inl e ↦ inr (omega (arith, ap (λ x. get_or (set m r n) x 0) e, same))
          | inr e ↦ elim (g.below s (omega (arith, length-set m r n)))
              [ inl b ↦ inl (other s e ∙ b) | inr b ↦ inr (omega (arith, other s e)) ]
        ];
        apart = λ s t h k e. elim (cases_eq s r) [
          | inl a ↦ elim (cases_eq t r) [
            | inl b ↦ inr (a ∙ sym b)
            | inr b ↦ absurd (new t (omega (arith, length-set m r n)) (sym (other t b) ∙ sym e ∙ ap (λ x. get_or (set m r n) x 0) a ∙ same))
          ]
          | inr a ↦ elim (cases_eq t r) [
            | inl b ↦ absurd (new s (omega (arith, length-set m r n)) (sym (other s a) ∙ e ∙ ap (λ x. get_or (set m r n) x 0) b ∙ same))
            | inr b ↦ elim (g.apart s t (omega (arith, length-set m r n)) (omega (arith, length-set m r n)) (sym (other s a) ∙ e ∙ other t b))
                [ inl x ↦ inl (other s a ∙ x) | inr x ↦ inr x ]
          ]
        ];
      }

-- x is the number of a root that had one, or the next
abbrev OldOrNext : List ℕ → ℕ → ℕ → Type 0
OldOrNext m n x = ((x < n) × Given m n) ⊎ ((x ≡ n) × Given m (n + 1))

-- the root r is given the number n if it has none
module _ (m : List ℕ) (n r : ℕ) (g : Given m n) (l : r < length m) (small : length m < 2 ^ 32) where
  given_more : OldOrNext (given_at m r n) n (get_or (given_at m r n) r 0)
  given_more =
      cond_both (eqb (get_or m r 0) no_number) (set m r n) m (λ k. OldOrNext k n (get_or k r 0))
      (λ e. let none = eqb-true (get_or m r 0) no_number e in inr (same m n r g l small none, given_set m n r g l small none))
      (λ e. inl (omega (arith, g.below r l, eqb-false (get_or m r 0) no_number e), g))

  -- a number that was given stays
  given_stays : (s : ℕ) → get_or m s 0 < n → get_or (given_at m r n) s 0 ≡ get_or m s 0
  given_stays s h =
      cond_both (eqb (get_or m r 0) no_number) (set m r n) m (λ k. get_or k s 0 ≡ get_or m s 0)
      (λ e. get_or-set_other m r s n 0 (λ i. omega (arith, ap (λ x. get_or m x 0) i, eqb-true (get_or m r 0) no_number e, given_le m n g)))
      (λ e. refl)

  given_long : length (given_at m r n) ≡ length m
  given_long = cond_both (eqb (get_or m r 0) no_number) (set m r n) m (λ k. length k ≡ length m) (λ e. length-set m r n) (λ e. refl)

pub in_turn_old : (k : ℕ) (ps : List ℕ) (n p : ℕ) → InTurn k ps n → p < n → InTurn k (ps ++ p ∷ []) n
in_turn_old k [] n p t l = inl (omega arith, t)
in_turn_old k (q ∷ ps) n p (inl t) l = inl (t.0, in_turn_old k ps n p t.1 l)
in_turn_old k (q ∷ ps) n p (inr t) l = inr (t.0, in_turn_old (suc k) ps n p t.1 l)

pub in_turn_new : (k : ℕ) (ps : List ℕ) (n p : ℕ) → InTurn k ps n → p ≡ n → InTurn k (ps ++ p ∷ []) (n + 1)
in_turn_new k [] n p t e = inr (e ∙ sym t, omega arith)
in_turn_new k (q ∷ ps) n p (inl t) e = inl (t.0, in_turn_new k ps n p t.1 e)
in_turn_new k (q ∷ ps) n p (inr t) e = inr (t.0, in_turn_new (suc k) ps n p t.1 e)

pub map_counting_same :
    {X : Type 0} (f g : ℕ → X) (a n : ℕ) → ((k : ℕ) → k < a + n → f k ≡ g k) → map f (range_with_len a n) ≡ map g (range_with_len a n)
map_counting_same f g a zero e = refl
map_counting_same f g a (suc n) e = ap₂ ◌∷◌ (e a (omega arith)) (map_counting_same f g (a + 1) n (λ k l. e k (omega arith)))

pub first_parts_set :
    (ms : List ℕ) (i x : ℕ) → i < count_in ms → first_parts (set ms (4 * i + 3) x) (i + 1) ≡ first_parts ms i ++ x ∷ []
first_parts_set ms i x l =
    map-range_with_len_more (part_at (set ms (4 * i + 3) x)) 0 i i (omega arith)
    ∙ ap₂ (λ ps p. ps ++ p ∷ []) (map_counting_same _ _ 0 i (λ k h. get_or-set_other ms (4 * i + 3) (4 * k + 3) x 0 (omega arith)))
    (get_or-set_same ms (4 * i + 3) x 0 (omega arith))

-- The triangles ms before the place i have the numbers that m gives to their roots in ns; the others still have their roots.
pub record Turn (ns ms m : List ℕ) (n i : ℕ) : Type 0 where
  pub given : Given m n
  pub same_corners : SameCorners ns ms
  pub ahead : (k : ℕ) → i ≤ k → part_at ms k ≡ part_at ns k
  pub known : (k : ℕ) → k < i → get_or m (part_at ns k) 0 ≡ part_at ms k
  pub started : (k : ℕ) → k < i → part_at ms k < n
  pub in_turn : InTurn 0 (map (part_at ms) (range_with_len 0 i)) n

pub turn_none : (ns : List ℕ) (k : ℕ) → Turn ns ns (replicate k no_number) 0 0
turn_none ns k =
    record {
      given = given_none k;
      same_corners = λ j h. refl;
      ahead = λ j h. refl;
      known = λ j h. absurd (omega arith);
      started = λ j h. absurd (omega arith);
      in_turn = refl;
    }

-- one more triangle is numbered
module _
    (ns ms m : List ℕ) (n i : ℕ) (t : Turn ns ms m n i) (roots : PartsBelow ns (length m))
    (long : length ms ≡ length ns) (l : i < count_in ns) (small : length m < 2 ^ 32)
    (m' : List ℕ) (x : ℕ) (is : m' ≡ given_at m (part_at ms i) n) (now : x ≡ get_or m' (part_at ms i) 0) where
  root_below : part_at ms i < length m
  root_below = omega (arith, t.ahead i (omega arith), roots i l)

  either : OldOrNext m' n x
  either =
      subst (λ k. OldOrNext k n x) (sym is)
      (subst (λ y. OldOrNext (given_at m (part_at ms i) n) n y) (sym (now ∙ ap (λ k. get_or k (part_at ms i) 0) is))
      (given_more m n (part_at ms i) t.given root_below small))

  kept : (k : ℕ) → k ≢ i → part_at (set ms (4 * i + 3) x) k ≡ part_at ms k
  kept k e = get_or-set_other ms (4 * i + 3) (4 * k + 3) x 0 (omega arith)

  here : part_at (set ms (4 * i + 3) x) i ≡ x
  here = get_or-set_same ms (4 * i + 3) x 0 (omega arith)

  turn_to :
      (n' : ℕ) → n ≤ n' → Given m' n' → x < n' → InTurn 0 (map (part_at ms) (range_with_len 0 i) ++ x ∷ []) n' →
      Turn ns (set ms (4 * i + 3) x) m' n' (i + 1)
  turn_to n' le g lt turn =
      record {
        given = g;
        same_corners = λ j h. get_or-set_other ms (4 * i + 3) j x 0 (omega arith) ∙ t.same_corners j h;
        ahead = λ k h. kept k (omega arith) ∙ t.ahead k (omega arith);
        known = below_more (λ k. get_or m' (part_at ns k) 0 ≡ part_at (set ms (4 * i + 3) x) k) i
            (λ k h. ap (λ y. get_or y (part_at ns k) 0) is
            ∙ given_stays m n (part_at ms i) t.given root_below small (part_at ns k) (omega (arith, t.known k h, t.started k h))
            ∙ t.known k h ∙ sym (kept k (omega arith)))
            (ap (λ y. get_or m' y 0) (sym (t.ahead i (omega arith))) ∙ sym now ∙ sym here);
        started = below_more (λ k. part_at (set ms (4 * i + 3) x) k < n') i
            (λ k h. omega (arith, kept k (omega arith), t.started k h)) (omega (arith, here));
        in_turn = subst (λ ps. InTurn 0 ps n') (sym (first_parts_set ms i x (omega arith))) turn;
      }

  pub turn_old : x ≢ n → Turn ns (set ms (4 * i + 3) x) m' n (i + 1)
  turn_old e =
      elim either
      [ inl h ↦ turn_to n (omega arith) h.1 h.0 (in_turn_old 0 _ n x t.in_turn h.0) | inr h ↦ absurd (e h.0) ]

  pub turn_new : x ≡ n → Turn ns (set ms (4 * i + 3) x) m' (n + 1) (i + 1)
  turn_new e =
      elim either [
        | inl h ↦ absurd (omega (arith, h.0))
        | inr h ↦ turn_to (n + 1) (omega arith) h.1 (omega arith) (in_turn_new 0 _ n x t.in_turn e)
      ]

  -- the next number is there to be given
  pub turn_room : x ≡ n → n + 1 < 2 ^ 32
  turn_room e =
      elim either [
        | inl h ↦ absurd (omega (arith, h.0))
        | inr h ↦ omega (arith, given_le m' (n + 1) h.1, ap length is, given_long m n (part_at ms i) t.given root_below small)
      ]

-- at the end, equal numbers stand for equal roots
pub turn_parts :
    (ns ms m : List ℕ) (n : ℕ) → Turn ns ms m n (count_in ns) → PartsBelow ns (length m) →
    length m < 2 ^ 32 → SameParts ns ms
turn_parts ns ms m n t roots small i j h k = (
  (λ e. elim (t.given.apart (part_at ns i) (part_at ns j) (roots i h) (roots j k) (t.known i h ∙ e ∙ sym (t.known j k)))
      [ inl x ↦ absurd (omega (arith, t.known i h, t.started i h, given_le m n t.given)) | inr x ↦ x ]),
  λ e. sym (t.known i h) ∙ ap (λ r. get_or m r 0) e ∙ t.known j k,
)
