-- The ring around a corner: its steps are joined in a buffer; that they lead round says that each side into the corner has its reverse, and
-- in a closed skin it says exactly that there is one ring. Assumes nothing.
use Rattle.std.proofs.Common.{◌≡◌, ℕ, zero, suc, ◌+◌, ◌^◌, ◌<◌, ◌≤◌, Bool, true, false, not, eqb, ◌≢◌, ◌⊎◌, ◌↔◌, List, [], ◌∷◌, length, get_or, set, sym, refl, ap, ◌∙◌, subst, inl, inr, ⊎_elim, arith, length-set}
use Rattle.std.specs.List.{AllByRecursion}
use Rattle.std.proofs.lemmas.List.{get_or-set_same, get_or-set_other}
use Rattle.std.proofs.lemmas.Bool.{cases_lt, cases_eq, cases_order, ne_eqb, eq-eqb}
use Rattle.theory.specs.Triangle.{Tri, sum_of, one_if, has, side, sides, with_corner, read_from, around, steps}
use Rattle.theory.specs.Closed.{EachSideOnce}
use Rattle.theory.proofs.Sums.{sum_joined, sum_below_same, sum_ones, every_joined}
use Rattle.theory_parts.proofs.Joining.{stands_sum}
use Rattle.theory_parts.specs.Buffer.{triangle_at, count_in, triangles_in}
use Rattle.part.proofs.Places.{stands_in}
use Rattle.checker.specs.declared.chains.Step.{Step}
use Rattle.checker.specs.Verdict.{Matched, RingedOnce, All}
use Rattle.checker.specs.Chained.{seen_from, Next, Ready, Stepped}
use Rattle.checker.specs.Passes.{before, Follows, nobody, Blank, Within, Joined, led, led_in, Round, Cleared, Returned}
use Rattle.checker.proofs.Reading.{At, at, corner_below, no_side_out, no_side_in, no_read, has_most}
use Rattle.checker.proofs.Linking.{next_before, before_all, before_most}
use Rattle.checker.proofs.Counting.{out_sum}
use Rattle.checker.proofs.Cycles.{NoReturn, late_or_early, leaving, arriving, trail, led_next, all_left, late_apart, leaving_led}
use Rattle.checker.proofs.Cycles.{back, walked, walk_apart, not_walked}
use Rattle.checker.proofs.Verdicts.{every_counting}

one_if_sym : (a b : ℕ) → one_if (eqb a b) ≡ one_if (eqb b a)
one_if_sym a b =
    ⊎_elim (λ e. ap one_if (eq-eqb a b e ∙ sym (eq-eqb b a (sym e)))) (λ n. ap one_if (ne_eqb a b n ∙ sym (ne_eqb b a (λ z. n (sym z))))) (cases_eq a b)

before_grows : (ns : List ℕ) (h : Tri ℕ → ℕ) (j k : ℕ) → j ≤ k → before ns j h ≤ before ns k h
before_grows ns h j zero l = let z : 0 ≡ j = omega arith in omega (arith, ap (λ m. before ns m h) z)
before_grows ns h j (suc k) l =
    ⊎_elim (λ less. omega (arith, before_grows ns h j k (omega arith))) (λ more. let z : suc k ≡ j = omega arith in omega (arith, ap (λ m. before ns m h) z)) (cases_lt j (suc k))

-- what follows a corner counts as a step out of it
told : (x : ℕ) → x ≢ nobody → one_if (not (eqb x nobody)) ≡ 1
told x n = ap (λ b. one_if (not b)) (ne_eqb x nobody n)

untold : (x : ℕ) → x ≡ nobody → one_if (not (eqb x nobody)) ≡ 0
untold x e = ap (λ b. one_if (not b)) (eq-eqb x nobody e)

some_told : (x : ℕ) → 0 < one_if (not (eqb x nobody)) → x ≢ nobody
some_told x l e = omega (arith, untold x e)

-- as many steps lead to a corner in range as can be taken
led_below :
    (follow : List ℕ) (s n : ℕ) → s < length follow → Within follow →
    ((k : ℕ) → k < n → led_in follow s k < length follow → get_or follow (led_in follow s k) 0 ≢ nobody) →
    (k : ℕ) → k ≤ n → led_in follow s k < length follow
led_below follow s n l within on zero m = l
led_below follow s n l within on (suc k) m =
    let h = led_below follow s n l within on k (omega arith) in
    omega (arith, led_next (λ d. get_or follow d 0) s k, within _ h (on k (omega arith) h))

module _ (ns heads nexts : List ℕ) (ready : Ready ns heads nexts) (c : ℕ) where
  -- a triangle that has c, or has not
  read_cases : (i : ℕ) → i < count_in ns → (has eqb c (triangle_at ns i) ≡ 0) ⊎ ((0 < has eqb c (triangle_at ns i)) × At c (triangle_at ns i))
  read_cases i l =
      ⊎_elim (λ h. inr (h, at c (triangle_at ns i) (ready.sound i l).whole h)) (λ z. inl (omega arith)) (cases_lt 0 (has eqb c (triangle_at ns i)))

  sum_around :
      (h : ℕ × ℕ → ℕ) (g : Tri ℕ → ℕ) → ((i : ℕ) → i < count_in ns → sum_of h (read_from eqb c (triangle_at ns i)) ≡ g (triangle_at ns i)) →
      sum_of h (around eqb c (triangles_in ns)) ≡ sum_of g (triangles_in ns)
  sum_around h g e =
      sum_joined h (read_from eqb c) (triangles_in ns) ∙ sym (before_all ns (λ t. sum_of h (read_from eqb c t)))
      ∙ sum_below_same (count_in ns) _ _ e ∙ before_all ns g

  leaving_sides : (d : ℕ) → leaving (around eqb c (triangles_in ns)) d ≡ sides eqb c d (triangles_in ns)
  leaving_sides d = sum_around (λ p. one_if (eqb d p.0)) (side eqb c d) (λ i l.
      ⊎_elim (λ z. ap (sum_of (λ p. one_if (eqb d p.0))) (no_read c (triangle_at ns i) z) ∙ sym (no_side_out c d (triangle_at ns i) z))
      (λ r. ap (sum_of (λ p. one_if (eqb d p.0))) r.1.read ∙ omega (arith, one_if_sym d (seen_from c (triangle_at ns i)).second, r.1.out d))
      (read_cases i l))

  arriving_sides : (d : ℕ) → arriving (around eqb c (triangles_in ns)) d ≡ sides eqb d c (triangles_in ns)
  arriving_sides d = sum_around (λ p. one_if (eqb d p.1)) (side eqb d c) (λ i l.
      ⊎_elim (λ z. ap (sum_of (λ p. one_if (eqb d p.1))) (no_read c (triangle_at ns i) z) ∙ sym (no_side_in c d (triangle_at ns i) z))
      (λ r. ap (sum_of (λ p. one_if (eqb d p.1))) r.1.read ∙ omega (arith, one_if_sym d (seen_from c (triangle_at ns i)).third, r.1.into d))
      (read_cases i l))

  around_length : length (around eqb c (triangles_in ns)) ≡ with_corner eqb c (triangles_in ns)
  around_length = sym (sum_ones (around eqb c (triangles_in ns))) ∙ sum_around (λ p. 1) (has eqb c) (λ i l.
      ⊎_elim (λ z. ap (sum_of (λ p. 1)) (no_read c (triangle_at ns i) z) ∙ sym z)
      (λ r. ap (sum_of (λ p. 1)) r.1.read ∙ omega (arith, r.0, has_most c (triangle_at ns i))) (read_cases i l))

  pub around_few : (i : ℕ) → before ns i (has eqb c) ≤ i
  around_few i = before_most ns i (has eqb c) (λ k m. has_most c (triangle_at ns k))

  -- one more triangle of the chain of c, at place i
  module _ (i : ℕ) (l : i < count_in ns) (here : Next ns c i i) (s : Step) (st : Stepped ns (length heads) c i s) where
    pub around_more : before ns s.next (has eqb c) ≡ before ns i (has eqb c) + 1
    around_more =
        next_before ns c (suc i) s.next (has eqb c) (λ k z. z) st.onward
        ∙ omega (arith, here.here l, has_most c (triangle_at ns i))

    -- where a triangle before has the same second corner, the skin is not closed
    pub met_twice :
        (f : List ℕ) → length f ≡ length heads → get_or f s.second 0 ≢ nobody → Joined ns c i f → EachSideOnce eqb (triangles_in ns) → ⊥
    met_twice f e some old closed =
        omega (
          arith,
          told _ some,
          old.once s.second (omega (arith, st.second_below)),
          before_grows ns (side eqb c s.second) (suc i) (count_in ns) l,
          before_all ns (side eqb c s.second),
          (closed c s.second).0,
          st.out s.second,
          ap one_if (eq-eqb s.second s.second refl),
        )

    module _ (f : List ℕ) (e : length f ≡ length heads) (few : length heads < 2 ^ 32) (new : get_or f s.second 0 ≡ nobody)
        (old : Joined ns c i f) where
      abbrev f' : List ℕ
      f' = set f s.second s.third

      here_new : get_or (set f s.second s.third) s.second 0 ≡ s.third
      here_new = get_or-set_same f s.second s.third 0 (omega (arith, st.second_below))

      -- no triangle before has the same second corner
      new_second : (k : ℕ) → k < i → side eqb c s.second (triangle_at ns k) ≡ 0
      new_second k m =
          omega (arith, before_grows ns (side eqb c s.second) (suc k) i m, old.once s.second (omega (arith, st.second_below)), untold _ new)

      follows_more : Follows ns c s.next (set f s.second s.third)
      follows_more k m =
          ⊎_elim (λ z. subst (λ x. AllByRecursion Kept (read_from eqb c (triangle_at ns x))) (sym z) (subst (AllByRecursion Kept) (sym st.read) (here_new, tt)))
          (⊎_elim (λ less. ⊎_elim (nothing k) (λ r. subst (AllByRecursion Kept) (sym r.1.read) (kept less r.1, tt)) (read_cases k (omega arith)))
          (λ more. nothing k (st.onward.none k more m)))
          (cases_order k i)
        where
          Kept : ℕ × ℕ → Type 0
          Kept p = get_or (set f s.second s.third) p.0 0 ≡ p.1

          nothing : (k : ℕ) → has eqb c (triangle_at ns k) ≡ 0 → AllByRecursion Kept (read_from eqb c (triangle_at ns k))
          nothing k z = subst (AllByRecursion Kept) (sym (no_read c (triangle_at ns k) z)) tt

          kept : k < i → At c (triangle_at ns k) → get_or (set f s.second s.third) (seen_from c (triangle_at ns k)).second 0 ≡ (seen_from c (triangle_at ns k)).third
          kept less r =
              get_or-set_other f s.second (seen_from c (triangle_at ns k)).second s.third 0
              (λ z. absurd (omega (arith, new_second k less, r.out s.second, ap one_if (eq-eqb _ s.second z))))
              ∙ (subst (AllByRecursion (λ p. get_or f p.0 0 ≡ p.1)) r.read (old.follows k less)).0

      pub joined_more : Joined ns c s.next (set f s.second s.third)
      joined_more = record {
        follows = follows_more;
        once = λ d h.
            let sum = out_sum ns (length heads) c i s st d in
            let o = old.once d (simp length-set at h) in
            ⊎_elim
            (λ (z : s.second ≡ d).
            let was = untold (get_or f d 0) (ap (λ x. get_or f x 0) (sym z) ∙ new) in
            let g = ap (λ x. get_or f' x 0) (sym z) ∙ here_new in
            omega (arith, sum, ap one_if (eq-eqb s.second d z), told (get_or f' d 0) (omega (arith, st.third_below))))
            (λ (n : s.second ≢ d).
            let g = get_or-set_other f s.second d s.third 0 (λ z. n (sym z)) in
            omega (arith, sum, ap one_if (ne_eqb s.second d n), ap (λ x. one_if (not (eqb x nobody))) g))
            (cases_eq s.second d);
        within = λ d h some.
            ⊎_elim (λ (z : s.second ≡ d). simp length-set (omega (arith, ap (λ x. get_or f' x 0) z, here_new, st.third_below)))
            (λ (n : s.second ≢ d). let g : get_or f' d 0 ≡ get_or f d 0 = get_or-set_other f s.second d s.third 0 (λ z. n (sym z)) in
            simp length-set (omega (arith, g, old.within d (simp length-set at h) (λ z. some (g ∙ z)))))
            (cases_eq s.second d);
      }

  pub joined_first : (j : ℕ) (f : List ℕ) → Next ns c 0 j → Blank f → Joined ns c j f
  joined_first j f n blank = record {
    follows = λ k l. subst (AllByRecursion _) (sym (no_read c (triangle_at ns k) (n.none k (omega arith) l))) tt;
    once = λ d l. next_before ns c 0 j (side eqb c d) (λ k. no_side_out c d (triangle_at ns k)) n ∙ sym (untold _ (blank d l));
    within = λ d l some. absurd (some (blank d l));
  }

  pub unused : (j : ℕ) → Next ns c 0 j → count_in ns ≤ j → with_corner eqb c (triangles_in ns) ≡ 0
  unused j n l =
      let e : count_in ns ≡ j = omega (arith, n.to) in
      sym (before_all ns (has eqb c)) ∙ ap (λ k. before ns k (has eqb c)) e ∙ next_before ns c 0 j (has eqb c) (λ k z. z) n

  -- the way round from the second corner s of a triangle at c, at place i
  module _ (follow : List ℕ) (long : length follow ≡ length heads) (joined : Joined ns c (count_in ns) follow)
      (i : ℕ) (l : i < count_in ns) (s : Step) (st : Stepped ns (length heads) c i s) where
    abbrev f : ℕ → ℕ
    f d = get_or follow d 0

    abbrev L : List (ℕ × ℕ)
    L = around eqb c (triangles_in ns)

    all_follow : AllByRecursion (λ p. f p.0 ≡ p.1) L
    all_follow =
        every_joined _ (read_from eqb c) (triangles_in ns)
        (every_counting _ (triangle_at ns) 0 (count_in ns) (λ k m. joined.follows (0 + k) (omega arith)))

    leaving_told : (d : ℕ) → d < length follow → leaving L d ≡ one_if (not (eqb (f d) nobody))
    leaving_told d m = leaving_sides d ∙ sym (before_all ns (side eqb c d)) ∙ joined.once d m

    begun : 0 < leaving L s.second
    begun =
        omega (
          arith,
          leaving_sides s.second,
          st.out s.second,
          ap one_if (eq-eqb s.second s.second refl),
          stands_sum (side eqb c s.second) (triangles_in ns) i (triangle_at ns i) (stands_in (triangle_at ns) (count_in ns) i l),
        )

    used : 0 < with_corner eqb c (triangles_in ns)
    used =
        ⊎_elim (λ h. omega (arith, h, stands_sum (has eqb c) (triangles_in ns) i (triangle_at ns i) (stands_in (triangle_at ns) (count_in ns) i l)))
        (λ z. absurd (omega (arith, no_side_out c s.second (triangle_at ns i) (omega arith), st.out s.second, ap one_if (eq-eqb s.second s.second refl))))
        (cases_lt 0 (has eqb c (triangle_at ns i)))

    -- steps that lead round
    module _ (n : ℕ) (many : n ≡ with_corner eqb c (triangles_in ns)) (round : Round follow s.second n) where
      below : (k : ℕ) → k ≤ n → led f s.second k < length follow
      below = led_below follow s.second n (omega (arith, st.second_below)) joined.within (λ k m _. round.steps.onward k m)

      left : (k : ℕ) → k < n → leaving L (led f s.second k) ≡ 1
      left k m = leaving_told _ (below k (omega arith)) ∙ told _ (round.steps.onward k m)

      -- a corner that one of the steps leaves
      abbrev Met : ℕ → Type 0
      Met d = (j : ℕ) × (j < n) × (led f s.second j ≡ d)

      met : AllByRecursion (λ p. Met p.0) L
      met = all_left f L s.second n left round.steps.apart (around_length ∙ sym many)

      -- the end of each step is left by one
      onward : (p : ℕ × ℕ) → f p.0 ≡ p.1 → Met p.0 → 0 < leaving L p.1
      onward p e m =
          let z : led f s.second (suc m.0) ≡ p.1 = led_next f s.second m.0 ∙ ap f m.2 ∙ e in
          ⊎_elim (λ less. omega (arith, left (suc m.0) less, ap (leaving L) z))
          (λ more. let y : n ≡ suc m.0 = omega (arith, m.1) in
          omega (arith, begun, ap (leaving L) (sym round.there ∙ ap (led f s.second) y ∙ z)))
          (cases_lt (suc m.0) n)

      reversed :
          (d : ℕ) (M : List (ℕ × ℕ)) → AllByRecursion (λ p. f p.0 ≡ p.1) M → AllByRecursion (λ p. Met p.0) M → 0 < arriving M d → 0 < leaving L d
      reversed d [] a b h = absurd (omega arith)
      reversed d (p ∷ M) a b h =
          ⊎_elim (λ e. omega (arith, onward p a.0 b.0, ap (leaving L) e))
          (λ z. reversed d M a.1 b.1 (omega (arith, ap one_if (ne_eqb d p.1 z)))) (cases_eq d p.1)

      pub returned : Returned (triangles_in ns) (length heads) c
      returned = record {
        once = λ d m. omega (arith, leaving_sides d, leaving_told d (omega arith), one_most (not (eqb (f d) nobody)));
        reverse = λ d h. omega (arith, leaving_sides d, reversed d L all_follow met (omega (arith, arriving_sides d)));
      }
        where
          one_most : (b : Bool) → one_if b ≤ 1
          one_most true = omega arith
          one_most false = omega arith

      -- whoever is followed is left
      found : (d : ℕ) (M : List (ℕ × ℕ)) → AllByRecursion (λ p. Met p.0) M → 0 < leaving M d → Met d
      found d [] b h = absurd (omega arith)
      found d (p ∷ M) b h =
          ⊎_elim (λ e. (b.0.0, b.0.1, b.0.2 ∙ sym e)) (λ z. found d M b.1 (omega (arith, ap one_if (ne_eqb d p.0 z)))) (cases_eq d p.0)

      pub blank_after : (after : List ℕ) → length after ≡ length follow → Cleared follow s.second n after → Blank after
      blank_after after e cleared d m =
          ⊎_elim (λ z. cleared.kept d (λ k h y. round.steps.onward k h (ap f y ∙ z)) ∙ z)
          (λ some. let r = found d L met (omega (arith, leaving_told d (omega arith), told _ some)) in
          ap (λ x. get_or after x 0) (sym r.2) ∙ cleared.gone r.0 r.1)
          (cases_eq (f d) nobody)

    -- in a closed skin
    module _ (closed : EachSideOnce eqb (triangles_in ns)) (n : ℕ) (many : n ≡ with_corner eqb c (triangles_in ns)) where
      once : (d : ℕ) → leaving L d ≤ 1
      once d = omega (arith, leaving_sides d, (closed c d).0)

      even : (d : ℕ) → leaving L d ≡ arriving L d
      even d = leaving_sides d ∙ (closed c d).1 ∙ sym (arriving_sides d)

      ring_if_late : (m : ℕ) → suc m ≡ with_corner eqb c (triangles_in ns) → NoReturn f s.second (suc m) → RingedOnce (triangles_in ns) c
      ring_if_late m e late = record {
        used = used;
        ring = record {
          first = s.second;
          others = trail f (f s.second) m;
          apart = walk_apart f L all_follow once even s.second begun m late;
          reads = λ d g. weighs (λ p. one_if _);
          weighs = weighs;
        };
      }
        where
          weighs : (h : ℕ × ℕ → ℕ) → sum_of h L ≡ sum_of h (Rattle.theory.specs.Triangle.walk s.second (trail f (f s.second) m) s.second)
          weighs = walked f L all_follow once even s.second begun m (around_length ∙ sym e) late

      pub ringed_if_round : Round follow s.second n → RingedOnce (triangles_in ns) c
      ringed_if_round round = late n many (λ j a b e. round.steps.apart 0 j a b (sym e))
        where
          late : (n : ℕ) → n ≡ with_corner eqb c (triangles_in ns) → NoReturn f s.second n → RingedOnce (triangles_in ns) c
          late zero e r = absurd (omega (arith, e, used))
          late (suc m) e r = ring_if_late m e r

      round_if_late : (n : ℕ) → n ≡ with_corner eqb c (triangles_in ns) → NoReturn f s.second n → Round follow s.second n
      round_if_late zero e late = absurd (omega (arith, e, used))
      round_if_late (suc m) e late = record {
        steps = record { onward = λ k h. on k (below k (omega arith)); apart = late_apart f L all_follow once even s.second (suc m) begun late };
        there = back f L all_follow once even s.second begun m (around_length ∙ sym e) late;
      }
        where
          on : (k : ℕ) → led f s.second k < length follow → f (led f s.second k) ≢ nobody
          on k h = some_told _ (omega (arith, leaving_told _ h, leaving_led f L all_follow once even s.second begun k))

          below : (k : ℕ) → k ≤ suc m → led f s.second k < length follow
          below = led_below follow s.second (suc m) (omega (arith, st.second_below)) joined.within (λ k _ h. on k h)

      pub round_if_ringed : RingedOnce (triangles_in ns) c → Round follow s.second n
      round_if_ringed ringed =
          ⊎_elim (round_if_late n many)
          (λ early.
          absurd (not_walked f L all_follow once even s.second begun early.taken early.some (omega (arith, early.early, around_length))
          early.first early.there ringed.ring.first ringed.ring.others ringed.ring.weighs))
          (late_or_early f s.second n)

    -- what a test of the steps tells
    module _ (n : ℕ) (many : n ≡ with_corner eqb c (triangles_in ns)) (r : Bool) (tells : (r ≡ true) ↔ Round follow s.second n) where
      pub ring_told : EachSideOnce eqb (triangles_in ns) → (r ≡ true) ↔ RingedOnce (triangles_in ns) c
      ring_told closed = (λ e. ringed_if_round closed n many (tells.0 e), λ ringed. tells.1 (round_if_ringed closed n many ringed))

-- where each side into a corner has its reverse, at each corner, all sides are matched
pub returned_matched :
    (ns heads nexts : List ℕ) → Ready ns heads nexts → All (Returned (triangles_in ns) (length heads)) (length heads) →
    All (λ k. Matched (triangles_in ns) (triangle_at ns k)) (count_in ns)
returned_matched ns heads nexts ready all k l c d h =
    let some = stands_sum (side eqb c d) (triangles_in ns) k (triangle_at ns k) (stands_in (triangle_at ns) (count_in ns) k l) in
    let at_c = all c in_c in
    let at-d = all d in_d in
    (omega (arith, at_c.once d in_d), omega (arith, at-d.once c in_c, at-d.reverse c (omega arith)))
  where
    within : (x : ℕ) → 0 < has eqb x (triangle_at ns k) → x < length heads
    within x = corner_below (length heads) x (triangle_at ns k) (ready.sound k l).in_range

    in_c : c < length heads
    in_c =
        ⊎_elim (within c) (λ none. absurd (omega (arith, no_side_out c d (triangle_at ns k) (omega arith)))) (cases_lt 0 (has eqb c (triangle_at ns k)))

    in_d : d < length heads
    in_d =
        ⊎_elim (within d) (λ none. absurd (omega (arith, no_side_in d c (triangle_at ns k) (omega arith)))) (cases_lt 0 (has eqb d (triangle_at ns k)))
