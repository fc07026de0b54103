-- The sides at a corner, counted along its chain: what one more triangle adds, what the counts say of it, and how they are cleared.
-- Assumes nothing.
use Rattle.std.proofs.Common.{◌≡◌, ℕ, suc, ◌+◌, ◌*◌, ◌<◌, ◌≤◌, Bool, true, false, eqb, List, [], ◌∷◌, length, get_or, set, sym, refl, ap, ◌∙◌, subst, ⊎_elim, arith, length-set}
use Rattle.std.proofs.lemmas.List.{get_or-set_same, get_or-set_other}
use Rattle.std.proofs.lemmas.Bool.{cases_lt, cases_eq, cases_order, eqb-true, ne_eqb, eq-eqb}
use Rattle.theory.specs.Triangle.{one_if, has, side, sides}
use Rattle.theory_parts.specs.Buffer.{triangle_at, count_in, triangles_in}
use Rattle.checker.specs.Verdict.{Matched, All}
use Rattle.checker.specs.declared.chains.Step.{Step}
use Rattle.checker.specs.Chained.{seen_from, Next, Stepped, Ready}
use Rattle.checker.specs.Passes.{before, Clear, CountsOut, CountsIn, Counts, MatchedFrom}
use Rattle.checker.proofs.Reading.{At, at, seen_below, corner_below, side_most, no_side_out, no_side_in}
use Rattle.checker.proofs.Linking.{next_before, before_all, before_most}

bumped : (xs : List ℕ) (k b : ℕ) → k < length xs → get_or (set xs k (get_or xs k 0 + 1)) b 0 ≡ get_or xs b 0 + one_if (eqb k b)
bumped xs k b l =
    ⊎_elim
    (λ e. let o = ap one_if (eq-eqb k b e) in
    let g = ap (λ x. get_or xs x 0) e in
    let w = get_or-set_same xs k (get_or xs k 0 + 1) 0 l in
    let v = ap (λ x. get_or (set xs k (get_or xs k 0 + 1)) x 0) e in
    omega arith)
    (λ n. let o = ap one_if (ne_eqb k b n) in let w = get_or-set_other xs k b (get_or xs k 0 + 1) 0 (λ z. n (sym z)) in omega arith)
    (cases_eq k b)

one_if_above : (x : Bool) → 0 < one_if x → x ≡ true
one_if_above true l = refl
one_if_above false l = absurd (omega arith)

-- what is left of the counts behind place j: where there is any, a side is still to come
abbrev pub LeftOut : List ℕ → ℕ → ℕ → List ℕ → Type 0
LeftOut ns c j xs = (b : ℕ) → b < length xs → 0 < get_or xs b 0 → before ns j (side eqb c b) < before ns (count_in ns) (side eqb c b)

abbrev pub LeftIn : List ℕ → ℕ → ℕ → List ℕ → Type 0
LeftIn ns c j xs = (b : ℕ) → b < length xs → 0 < get_or xs b 0 → before ns j (side eqb b c) < before ns (count_in ns) (side eqb b c)

pub none_left_out : (ns : List ℕ) (c j : ℕ) (xs : List ℕ) → count_in ns ≤ j → j ≤ count_in ns → LeftOut ns c j xs → Clear xs
none_left_out ns c j xs l m left b h =
    ⊎_elim (λ p. let e : j ≡ count_in ns = omega arith in absurd (omega (arith, left b h p, ap (λ k. before ns k (side eqb c b)) e))) (λ z. omega arith) (cases_lt 0 (get_or xs b 0))

pub none_left_in : (ns : List ℕ) (c j : ℕ) (xs : List ℕ) → count_in ns ≤ j → j ≤ count_in ns → LeftIn ns c j xs → Clear xs
none_left_in ns c j xs l m left b h =
    ⊎_elim (λ p. let e : j ≡ count_in ns = omega arith in absurd (omega (arith, left b h p, ap (λ k. before ns k (side eqb b c)) e))) (λ z. omega arith) (cases_lt 0 (get_or xs b 0))

-- where the chain of c begins
module _ (ns : List ℕ) (c j : ℕ) (next : Next ns c 0 j) where
  pub counts_out_first : (xs : List ℕ) → Clear xs → CountsOut ns c j xs
  counts_out_first xs z b l = z b l ∙ sym (next_before ns c 0 j (side eqb c b) (λ k. no_side_out c b (triangle_at ns k)) next)

  pub counts_in_first : (xs : List ℕ) → Clear xs → CountsIn ns c j xs
  counts_in_first xs z b l = z b l ∙ sym (next_before ns c 0 j (side eqb b c) (λ k. no_side_in c b (triangle_at ns k)) next)

  pub left_out_first : (xs : List ℕ) → CountsOut ns c (count_in ns) xs → LeftOut ns c j xs
  left_out_first xs t b l p = omega (arith, t b l, next_before ns c 0 j (side eqb c b) (λ k. no_side_out c b (triangle_at ns k)) next)

  pub left_in_first : (xs : List ℕ) → CountsIn ns c (count_in ns) xs → LeftIn ns c j xs
  left_in_first xs t b l p = omega (arith, t b l, next_before ns c 0 j (side eqb b c) (λ k. no_side_in c b (triangle_at ns k)) next)

  pub fine_first : All (λ k. MatchedFrom (triangles_in ns) c (triangle_at ns k)) j
  fine_first k l d h = absurd (omega (arith, no_side_out c d (triangle_at ns k) (next.none k (omega arith) l)))

-- a step along the chain of c, at the triangle at place i
module _ (ns heads nexts : List ℕ) (ready : Ready ns heads nexts) (c i : ℕ) (l : i < count_in ns) where
  pub few_sides : (d e : ℕ) → before ns i (side eqb d e) ≤ i
  few_sides d e = before_most ns i (side eqb d e) (λ k m. side_most d e (triangle_at ns k) (ready.sound k (omega arith)).whole)

  pub stepped : Next ns c i i → (s : Step) → s.at ≡ i → s.second ≡ (seen_from c (triangle_at ns i)).second → s.third ≡ (seen_from c (triangle_at ns i)).third → s.next ≡ get_or nexts (3 * i + (seen_from c (triangle_at ns i)).place) 0 → Stepped ns (length heads) c i s
  stepped here s at_is e f g =
      let t : At c (triangle_at ns i) = at c (triangle_at ns i) (ready.sound i l).whole (here.here l) in
      let b = seen_below (length heads) c (triangle_at ns i) (ready.sound i l).in_range in
      record {
        at_is = at_is;
        second_below = omega (arith, b.0);
        third_below = omega (arith, b.1);
        out = λ d. t.out d ∙ ap (λ x. one_if (eqb x d)) (sym e);
        into = λ d. t.into d ∙ ap (λ x. one_if (eqb x d)) (sym f);
        read = t.read ∙ (λ k. (sym e k, sym f k) ∷ []);
        onward = subst (Next ns c (suc i)) (sym g) (ready.chained.after i c (omega arith) l (here.here l));
      }

module _ (ns : List ℕ) (n c i : ℕ) (s : Step) (st : Stepped ns n c i s) where
  abbrev second : ℕ
  second = s.second

  abbrev third : ℕ
  third = s.third

  pub out_sum : (b : ℕ) → before ns s.next (side eqb c b) ≡ before ns i (side eqb c b) + one_if (eqb second b)
  out_sum b = next_before ns c (suc i) s.next (side eqb c b) (λ k. no_side_out c b (triangle_at ns k)) st.onward ∙ ap (λ n. before ns i (side eqb c b) + n) (st.out b)

  in_sum : (b : ℕ) → before ns s.next (side eqb b c) ≡ before ns i (side eqb b c) + one_if (eqb third b)
  in_sum b = next_before ns c (suc i) s.next (side eqb b c) (λ k. no_side_in c b (triangle_at ns k)) st.onward ∙ ap (λ n. before ns i (side eqb b c) + n) (st.into b)

  pub out_more : (xs : List ℕ) → length xs ≡ n → CountsOut ns c i xs → CountsOut ns c s.next (set xs second (get_or xs second 0 + 1))
  out_more xs e counts b h = omega (arith, bumped xs second b (omega (arith, st.second_below)), out_sum b, counts b (simp length-set at h))

  pub in_more : (xs : List ℕ) → length xs ≡ n → CountsIn ns c i xs → CountsIn ns c s.next (set xs third (get_or xs third 0 + 1))
  in_more xs e counts b h = omega (arith, bumped xs third b (omega (arith, st.third_below)), in_sum b, counts b (simp length-set at h))

  pub left_out_more : (xs : List ℕ) → length xs ≡ n → LeftOut ns c i xs → LeftOut ns c s.next (set xs second 0)
  left_out_more xs e left b h p =
      ⊎_elim (λ same. absurd (omega (arith, p, ap (λ x. get_or (set xs second 0) x 0) same, get_or-set_same xs second 0 0 (omega (arith, st.second_below)))))
      (λ n. let w = get_or-set_other xs second b 0 0 (λ z. n (sym z)) in omega (arith, left b (simp length-set at h) (omega arith), out_sum b, ap one_if (ne_eqb second b n)))
      (cases_eq second b)

  pub left_in_more : (xs : List ℕ) → length xs ≡ n → LeftIn ns c i xs → LeftIn ns c s.next (set xs third 0)
  left_in_more xs e left b h p =
      ⊎_elim (λ same. absurd (omega (arith, p, ap (λ x. get_or (set xs third 0) x 0) same, get_or-set_same xs third 0 0 (omega (arith, st.third_below)))))
      (λ n. let w = get_or-set_other xs third b 0 0 (λ z. n (sym z)) in omega (arith, left b (simp length-set at h) (omega arith), in_sum b, ap one_if (ne_eqb third b n)))
      (cases_eq third b)

  pub fine_more : All (λ k. MatchedFrom (triangles_in ns) c (triangle_at ns k)) i → MatchedFrom (triangles_in ns) c (triangle_at ns i) → All (λ k. MatchedFrom (triangles_in ns) c (triangle_at ns k)) s.next
  fine_more fine this k m =
      ⊎_elim (λ e. subst (λ k. MatchedFrom (triangles_in ns) c (triangle_at ns k)) (sym e) this)
      (⊎_elim (λ less. fine k less) (λ more d h. absurd (omega (arith, no_side_out c d (triangle_at ns k) (st.onward.none k more m)))))
      (cases_order k i)

  module _ (outs ins : List ℕ) (counts : Counts ns c outs ins) (a : second < length outs) (b : second < length ins) where
    at_second : (sides eqb c second (triangles_in ns) ≡ get_or outs second 0) × (sides eqb second c (triangles_in ns) ≡ get_or ins second 0)
    at_second = (sym (before_all ns (side eqb c second)) ∙ sym (counts.out second a), sym (before_all ns (side eqb second c)) ∙ sym (counts.into second b))

    pub ones_match : get_or outs second 0 ≡ 1 → get_or ins second 0 ≡ 1 → MatchedFrom (triangles_in ns) c (triangle_at ns i)
    ones_match o p d h =
        let e : second ≡ d = eqb-true second d (one_if_above (eqb second d) (omega (arith, st.out d))) in
        subst (λ d. (sides eqb c d (triangles_in ns) ≡ 1) × (sides eqb d c (triangles_in ns) ≡ 1)) e (at_second.0 ∙ o, at_second.1 ∙ p)

    pub match_ones : Matched (triangles_in ns) (triangle_at ns i) → (get_or outs second 0 ≡ 1) × (get_or ins second 0 ≡ 1)
    match_ones m =
        let r = m c second (omega (arith, st.out second, ap one_if (eq-eqb second second refl))) in
        (sym at_second.0 ∙ r.0, sym at_second.1 ∙ r.1)

-- sides from all corners
pub matched_all :
    (ns heads nexts : List ℕ) → Ready ns heads nexts → (w : ℕ) → w ≤ count_in ns →
    ((d : ℕ) → d < length heads → All (λ k. MatchedFrom (triangles_in ns) d (triangle_at ns k)) w) → All (λ k. Matched (triangles_in ns) (triangle_at ns k)) w
matched_all ns heads nexts ready w most each k l c d h =
    ⊎_elim (λ there. each c (corner_below (length heads) c (triangle_at ns k) (ready.sound k (omega arith)).in_range there) k l d h)
    (λ none. absurd (omega (arith, no_side_out c d (triangle_at ns k) (omega arith))))
    (cases_lt 0 (has eqb c (triangle_at ns k)))
