-- The corners that are first met in a cube stand behind those met before, in the order in which its triangles meet them; and after they are
-- written their numbers are at hand. Assumes nothing.
use Rattle.std.proofs.Common.{◌≡◌, ℕ, ◌+◌, ◌<◌, false, eqb, ◌≢◌, List, [], ◌∷◌, ◌++◌, map, length, get_or, set, sym, refl, ap, ◌∙◌, subst, ap₂, inl, inr, ⊎_elim, append_assoc, append-nil, arith, length-append, length-set}
use lib.Bits.{bit_or, bit_xor}
use Rattle.std.proofs.lemmas.List.{get_or-set_same, get_or-set_other}
use Rattle.std.proofs.lemmas.Bool.{both_ways, cases_Bool, cond-true, cond-false, cond_both, eqb-true, eq-eqb, ne_eqb}
use Rattle.std.specs.List.{flat_map, AllByRecursion}
use Rattle.theory.specs.Triangle.{Edge, edge, Tri, one_if, times, corners, firsts}
use Rattle.theory.specs.Skin.{Corner, same, cube}
use Rattle.theory.proofs.Same.{same_true, same_refl}
use Rattle.theory.proofs.Sums.{sum_append}
use Rattle.theory_numbers.specs.Numbers.{index_of, meet, meet_all, corners_met}
use Rattle.theory_numbers.proofs.Meeting.{index_append, meet_known, meet_all_firsts}
use Rattle.block.specs.Scan.{inside}
use Rattle.triangle.specs.Cubes.{lowest_of, point_in, corner_at, on_points, OfBlock}
use Rattle.triangle.specs.Cases.{cube_table, edges_in, steps_met, new_steps}
use Rattle.triangle.specs.Output.{noted, with_corner_met, new_corner, met_by, Crossing, Holds, RoomForCorners}
use Rattle.triangle.specs.Progress.{earlier}
use Rattle.triangle.specs.declared.cube.Cube.{Cube}
use Rattle.triangle.specs.declared.write.Out.{Out}
use Rattle.triangle.proofs.Tables.{pair_facts}
use Rattle.triangle.proofs.Computed.{every_with, Distinct}
use Rattle.triangle.proofs.Corners.{same_new, corners_moved, CornerOf, CornerFacts}
use Rattle.triangle.proofs.Growth.{holds_still, times_push, number, met_more}
use Rattle.triangle.proofs.Pieces.{cube_by_table}

-- who was not met is met behind all that were
meet_behind : (met more : List Corner) (c : Corner) → times same c met ≡ 0 → meet same (met ++ more) c ≡ met ++ meet same more c
meet_behind [] more c e = refl
meet_behind (d ∷ ds) more c e =
    cond_both (same d c) _ _ (λ xs. xs ≡ d ∷ (ds ++ meet same more c)) (λ p. absurd (omega (arith, ap one_if p)))
    (λ n. ap (λ xs. d ∷ xs) (meet_behind ds more c (omega (arith, ap one_if n))))

module _ (bs : List ℕ) (k : Cube) where
  abbrev before : List Corner
  before = corners_met (earlier bs (lowest_of k))

  -- a step to the highest point along which a corner is new
  pub record New (met : List Corner) (s : ℕ) : Type 0 where
    pub below : s < 8
    pub crossing : Crossing bs (new_corner k s)
    pub fresh : times same (new_corner k s) met ≡ 0

  meet_new_step :
      (ss : List ℕ) (s : ℕ) → AllByRecursion (New before) ss → s < 8 →
      meet same (map (new_corner k) ss) (new_corner k s) ≡ map (new_corner k) (meet eqb ss s)
  meet_new_step [] s n l = refl
  meet_new_step (t ∷ ts) s n l =
      let e = same_new k t s n.0.below l in
      elim (cases_Bool (eqb t s)) [
        | inl y ↦ cond-true _ _ _ (e ∙ y) ∙ sym (ap (map (new_corner k)) (cond-true (eqb t s) (t ∷ ts) (t ∷ meet eqb ts s) y))
        | inr y ↦
            cond-false _ _ _ (e ∙ y) ∙ ap (λ cs. new_corner k t ∷ cs) (meet_new_step ts s n.1 l)
            ∙ sym (ap (map (new_corner k)) (cond-false (eqb t s) (t ∷ ts) (t ∷ meet eqb ts s) y))
      ]

  every_meet : (P : ℕ → Type 0) (ss : List ℕ) (s : ℕ) → AllByRecursion P ss → P s → AllByRecursion P (meet eqb ss s)
  every_meet P [] s e p = (p, tt)
  every_meet P (t ∷ ts) s e p = cond_both (eqb t s) (t ∷ ts) (t ∷ meet eqb ts s) (AllByRecursion P) (λ _. e) (λ _. (e.0, every_meet P ts s e.1 p))

  -- a corner of the table on an edge to the highest point
  pub new_of : (p q : ℕ) → CornerFacts bs k p q → bit_or p q ≡ 7 → (corner_at k p q ≡ new_corner k (bit_xor p q)) × New before (bit_xor p q)
  new_of p q c e =
      elim c.facts.top [
        | inl low ↦ absurd (omega arith)
        | inr t ↦
            let is : corner_at k p q ≡ new_corner k (bit_xor p q) = ap (on_points (point_in k)) t.0 in (
              is,
              record {
                below = (pair_facts p q c.facts.from c.facts.to).step_below;
                crossing = subst (Crossing bs) is c.crossing;
                fresh = subst (λ c. times same c before ≡ 0) is (c.new e);
              },
            )
      ]

  -- the order of first meetings, by steps; and each of the steps is a new one's
  in_order :
      (es : List (Edge ℕ)) (ss : List ℕ) → AllByRecursion (CornerOf bs k) es → AllByRecursion (New before) ss →
      (meet_all same (before ++ map (new_corner k) ss) (map (on_points (point_in k)) es) ≡ before ++ map (new_corner k) (steps_met ss es))
      × AllByRecursion (New before) (steps_met ss es)
  in_order [] ss c n = (refl, n)
  in_order (edge p q ∷ es) ss c n =
      ⊎_elim
      (λ e.
      let o = new_of p q c.0 e in
      let s = bit_xor p q in
      let yes = cond-true (eqb (bit_or p q) 7) (meet eqb ss s) ss (eq-eqb (bit_or p q) 7 e) in
      let i = in_order es (meet eqb ss s) c.1 (every_meet (New before) ss s n o.1) in
      let one : meet same (before ++ map (new_corner k) ss) (corner_at k p q) ≡ before ++ map (new_corner k) (meet eqb ss s) =
      ap (meet same (before ++ map (new_corner k) ss)) o.0 ∙ meet_behind before (map (new_corner k) ss) (new_corner k s) o.1.fresh
      ∙ ap (λ cs. before ++ cs) (meet_new_step ss s n o.1.below) in (
        ap (λ cs. meet_all same cs (map (on_points (point_in k)) es)) one ∙ i.0
            ∙ ap (λ ts. before ++ map (new_corner k) (steps_met ts es)) (sym yes),
        subst (λ ts. AllByRecursion (New before) (steps_met ts es)) (sym yes) i.1,
      ))
      (λ low.
      let no = cond-false (eqb (bit_or p q) 7) (meet eqb ss (bit_xor p q)) ss (ne_eqb (bit_or p q) 7 (λ e. omega (arith, low.0))) in
      let i = in_order es ss c.1 n in
      let there : 0 < times same (corner_at k p q) (before ++ map (new_corner k) ss) =
      omega (arith, c.0.known low.0, sum_append (λ d. one_if (same d (corner_at k p q))) before (map (new_corner k) ss)) in (
        ap (λ cs. meet_all same cs (map (on_points (point_in k)) es)) (meet_known same _ _ there) ∙ i.0
            ∙ ap (λ ts. before ++ map (new_corner k) (steps_met ts es)) (sym no),
        subst (λ ts. AllByRecursion (New before) (steps_met ts es)) (sym no) i.1,
      ))
      (pair_facts p q c.0.facts.from c.0.facts.to).top

  pub news_stand :
      OfBlock bs k → AllByRecursion (CornerOf bs k) (edges_in k.bits) →
      (corners_met (earlier bs (lowest_of k) ++ cube (inside bs) (lowest_of k)) ≡ before ++ map (new_corner k) (new_steps k.bits))
      × AllByRecursion (New before) (new_steps k.bits)
  news_stand h c =
      let E = earlier bs (lowest_of k) in
      let T = cube (inside bs) (lowest_of k) in
      let i = in_order (edges_in k.bits) [] c tt in (
        ap (firsts same) (joined_append E T) ∙ sym (meet_all_firsts same same_true same_refl (flat_map corners E) (flat_map corners T))
            ∙ ap₂ (meet_all same) (sym (append-nil before))
            (ap (flat_map corners) (cube_by_table bs k h) ∙ corners_moved (point_in k) (cube_table k.bits))
            ∙ i.0,
        i.1,
      )
    where
      joined_append : (ts us : List (Tri Corner)) → flat_map corners (ts ++ us) ≡ flat_map corners ts ++ flat_map corners us
      joined_append [] us = refl
      joined_append (t ∷ ts) us =
          ap (λ cs. corners t ++ cs) (joined_append ts us) ∙ sym (append_assoc (corners t) (flat_map corners ts) (flat_map corners us))

  -- after some new corners are written, by their steps
  pub record Noted (old : Out) (ts : List (Tri ℕ)) (ss : List ℕ) (o : Out) (met : List Corner) : Type 0 where
    pub holds : Holds bs old (met_by bs k ss o) (met ++ map (new_corner k) ss) ts
    pub other : (i : ℕ) → ((s : ℕ) → 0 < times eqb s ss → i ≢ 56 + s) → get_or (met_by bs k ss o).numbers i 0 ≡ get_or o.numbers i 0
    pub noted :
        (s : ℕ) → s < 8 → 0 < times eqb s ss →
        get_or (met_by bs k ss o).numbers (56 + s) 0 ≡ index_of same (new_corner k s) (met ++ map (new_corner k) ss)

  none_of : (s : ℕ) (ss : List ℕ) → AllByRecursion (λ t. eqb s t ≡ false) ss → times eqb s ss ≡ 0
  none_of s [] e = refl
  none_of s (t ∷ ts) e =
      let ne : eqb t s ≡ false = ne_eqb t s (λ d. both_ways (eqb s t) e.0 (eq-eqb s t (sym d))) in
      omega (arith, none_of s ts e.1, ap one_if ne)

  pub news_noted :
      (old : Out) (ts : List (Tri ℕ)) (h : OfBlock bs k) (ss : List ℕ) (o : Out) (met : List Corner) →
      AllByRecursion (New met) ss → Distinct ss →
      length o.numbers ≡ 64 → Holds bs old o met ts → RoomForCorners old (met ++ map (new_corner k) ss) → Noted old ts ss o met
  news_noted old ts h [] o met n d long holds room =
      record {
        holds = subst (λ cs. Holds bs old o cs ts) (sym (append-nil met)) holds;
        other = λ i _. refl;
        noted = λ s _ m. absurd (omega arith);
      }
  news_noted old ts h (s ∷ ss) o met n d long holds room =
      let c = new_corner k s in
      let o' = noted o (56 + s) in
      let holds' = holds_still bs old o (set o.numbers (56 + s) o.met) met ts holds in
      let regroup = append_assoc met (c ∷ []) (map (new_corner k) ss) in
      let all = length-append met (c ∷ map (new_corner k) ss) in
      let one = length-append met (c ∷ []) in
      let first = met_more bs h.taken old o' met ts holds' c n.0.crossing n.0.fresh (omega (arith, room.0), omega (arith, room.1)) in
      let still : AllByRecursion (New (met ++ c ∷ [])) ss =
      every_with (New met) (λ t. eqb s t ≡ false) (New (met ++ c ∷ []))
      (λ t w e.
      record {
        below = w.below;
        crossing = w.crossing;
        fresh = omega (arith, times_push met c (new_corner k t), w.fresh, ap one_if (same_new k s t n.0.below w.below ∙ e));
      })
      ss n.1 d.0 in
      let rest = news_noted old ts h ss (with_corner_met bs o' c) (met ++ c ∷ []) still d.1
      (length-set o.numbers (56 + s) o.met ∙ long) first (subst (RoomForCorners old) (sym regroup) room) in
      record {
        holds = subst (λ cs. Holds bs old (met_by bs k ss (with_corner_met bs o' c)) cs ts) regroup rest.holds;
        other =
            λ i a.
            rest.other i (λ t m. a t (omega arith))
            ∙ get_or-set_other o.numbers (56 + s) i o.met 0 (a s (omega (arith, ap one_if (eq-eqb s s refl))));
        noted =
            λ t l m.
            elim (cases_Bool (eqb s t)) [
              | inl y ↦
                  let is : s ≡ t = eqb-true s t y in
                  let alone = none_of s ss d.0 in
                  subst (λ t. get_or (met_by bs k ss (with_corner_met bs o' c)).numbers (56 + t) 0
                  ≡ index_of same (new_corner k t) (met ++ c ∷ map (new_corner k) ss)) is
                  (rest.other (56 + s)
                  (λ u w e. let is : s ≡ u = omega arith in absurd (omega (arith, subst (λ u. 0 < times eqb u ss) (sym is) w)))
                  ∙ get_or-set_same o.numbers (56 + s) o.met 0 (omega (arith, n.0.below))
                  ∙ holds.corner_count ∙ sym (number bs h.taken old o met ts holds c n.0.crossing n.0.fresh)
                  ∙ sym (index_append same (met ++ c ∷ []) (map (new_corner k) ss) c
                  (omega (arith, times_push met c c, ap one_if (same_refl c))))
                  ∙ ap (index_of same c) regroup)
              | inr y ↦ rest.noted t l (omega (arith, ap one_if y)) ∙ ap (index_of same (new_corner k t)) regroup
            ];
      }
