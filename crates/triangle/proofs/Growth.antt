-- What the buffers hold after a corner is met for the first time, and after a triangle is made. Assumes nothing.
use Rattle.std.proofs.Common.{◌≡◌, ℕ, ◌+◌, ◌*◌, ◌^◌, ◌<◌, ◌≤◌, true, false, cond, ltb, leb, ◌≢◌, List, [], ◌∷◌, ◌++◌, map, length, get_or, take, drop, set, sym, refl, ap, ◌∙◌, subst, ap₂, inl, inr, append_assoc, append-nil, arith, length-append, length-set}
use Rattle.std.proofs.lemmas.List.{get_or-set_same, get_or-set_other, map_push, length-map}
use Rattle.std.proofs.lemmas.Bool.{both_ways, cases_Bool, cond-true, cond_both, le-leb, lt-ltb, ltb-true}
use Rattle.theory.specs.Grid.{pt}
use Rattle.theory.specs.Triangle.{Tri, tri, one_if, times}
use Rattle.theory.specs.Skin.{Corner, same}
use Rattle.theory.specs.Places.{Place, place}
use Rattle.theory.proofs.Sums.{sum_append}
use Rattle.theory.proofs.Same.{same_true, same_refl}
use Rattle.theory_numbers.specs.Numbers.{index_of}
use Rattle.theory_numbers.proofs.Meeting.{as_they_are_met, index_append, meet_new}
use Rattle.block.specs.Scan.{size_x, size_y, size_z, Taken}
use Rattle.corner.specs.Fraction.{fraction_in}
use Rattle.corner.specs.Buffer.{coordinates, filled}
use Rattle.triangle.specs.Slots.{step_of, slot}
use Rattle.triangle.specs.Output.{quad, with_triangle, with_triangles, with_numbers, with_corner_met, Crossing, Holds, RoomForCorners}
use Rattle.triangle.specs.declared.write.Out.{Out}
use Rattle.triangle.proofs.Buffers.{begun_more, length_begun}
use Rattle.triangle.proofs.Slots.{slot_apart, slot_below}

pub length_coordinates : (s : Place) → length (coordinates s) ≡ 3
length_coordinates (pt x y z) = refl

pub length_quad : (t : Tri ℕ) → length (quad t) ≡ 4
length_quad (tri a b c) = refl

same_from : (c d : Corner) → c ≡ d → same c d ≡ true
same_from c d e = subst (λ d. same c d ≡ true) e (same_refl c)

-- how often a corner stands in a list with one put behind it
pub times_push : (met : List Corner) (c d : Corner) → times same d (met ++ c ∷ []) ≡ times same d met + one_if (same c d)
times_push met c d = let e = sum_append (λ e. one_if (same e d)) met (c ∷ []) in omega arith

-- numbers by code exchanged once more
pub with_more : (old o o' : Out) (ns ns' : List ℕ) → o ≡ with_numbers old ns → o' ≡ with_numbers o ns' → o' ≡ with_numbers old o'.numbers
with_more old o o' ns ns' e e' =
    e' ∙ ap (λ o. with_numbers o ns') e ∙ sym (ap (λ o. with_numbers old o.numbers) e')

-- the numbers by code are a cube's own
pub holds_still :
    (bs : List ℕ) (old o : Out) (ns : List ℕ) (met : List Corner) (ts : List (Tri ℕ)) → Holds bs old o met ts → Holds bs old (with_numbers o ns) met ts
holds_still bs old o ns met ts h =
    record {
      corner_count = h.corner_count;
      triangle_count = h.triangle_count;
      corners = h.corners;
      triangles = h.triangles;
      own_corners = h.own_corners;
      own_triangles = h.own_triangles;
      own_work = h.own_work;
      room = h.room;
      crossing = h.crossing;
      kept = h.kept;
    }

module _ (bs : List ℕ) (taken : Taken bs) (old : Out) where
  -- the triangle's numbers are written behind the others
  made_more :
      (o : Out) (met : List Corner) (ts : List (Tri ℕ)) (t : Tri ℕ) → Holds bs old o met ts →
      4 * length (ts ++ t ∷ []) ≤ length old.triangles.now → length (ts ++ t ∷ []) < 2 ^ 32 → Holds bs old (with_triangle o t) met (ts ++ t ∷ [])
  made_more o met ts t h fits small =
      let more = length-append ts (t ∷ []) in
      let long : length o.triangles.now ≡ length old.triangles.now = ap length h.triangles ∙ length_begun quad 4 length_quad ts old.triangles.now (omega arith) in
      let room : leb (4 * o.made + 4) (length o.triangles.now) ≡ true = le-leb _ _ (omega (arith, h.triangle_count)) in
      record {
        corner_count = h.corner_count;
        triangle_count = omega (arith, h.triangle_count);
        corners = h.corners;
        triangles =
            cond-true _ _ _ room
            ∙ ap₂ (λ n xs. take (4 * n) xs ++ (quad t ++ drop (4 * n + 4) xs)) h.triangle_count h.triangles
            ∙ begun_more quad 4 length_quad ts t old.triangles.now;
        own_corners = h.own_corners;
        own_triangles = h.own_triangles;
        own_work = h.own_work;
        room = h.room;
        crossing = h.crossing;
        kept = h.kept;
      }

  -- one triangle after the other
  pub made_all :
      (us : List (Tri ℕ)) (o : Out) (met : List Corner) (ts : List (Tri ℕ)) → Holds bs old o met ts →
      4 * length (ts ++ us) ≤ length old.triangles.now → length (ts ++ us) < 2 ^ 32 → Holds bs old (with_triangles o us) met (ts ++ us)
  made_all [] o met ts h fits small = subst (Holds bs old o met) (sym (append-nil ts)) h
  made_all (u ∷ us) o met ts h fits small =
      let all = length-append ts (u ∷ us) in
      let one = length-append ts (u ∷ []) in
      let regroup = append_assoc ts (u ∷ []) us in
      subst (Holds bs old (with_triangles (with_triangle o u) us) met) regroup
      (made_all us (with_triangle o u) met (ts ++ u ∷ []) (made_more o met ts u h (omega arith) (omega arith))
      (subst (λ vs. 4 * length vs ≤ length old.triangles.now) (sym regroup) fits)
      (subst (λ vs. length vs < 2 ^ 32) (sym regroup) small))

  module _ (o : Out) (met : List Corner) (ts : List (Tri ℕ)) (h : Holds bs old o met ts)
      (c : Corner) (crosses : Crossing bs c) (fresh : times same c met ≡ 0) where
    met' : List Corner
    met' = met ++ c ∷ []

    pub number : index_of same c (met ++ c ∷ []) ≡ length met
    number = ap (index_of same c) (sym (meet_new same met c fresh)) ∙ as_they_are_met.new_number met c fresh

    -- what holds of c, and of each corner that was met before
    each : (P : Corner → Type 0) → P c → ((d : Corner) → same c d ≡ false → 0 < times same d met → P d) → (d : Corner) → 0 < times same d met' → P d
    unfolding met'
    each P here before d h =
        elim (cases_Bool (same c d)) [
          | inl e ↦ subst P (same_true c d e) here
          | inr e ↦ before d e (omega (arith, times_push met c d, ap one_if e))
        ]

    work' : List ℕ
    work' = cond (ltb (step_of c) 7) (set o.work.now (slot bs c) o.met) o.work.now

    length_work : length work' ≡ length o.work.now
    unfolding work'
    length_work =
        cond_both (ltb (step_of c) 7) (set o.work.now (slot bs c) o.met) o.work.now (λ xs. length xs ≡ length o.work.now)
        (λ _. length-set o.work.now (slot bs c) o.met) (λ _. refl)

    kept_more : (d : Corner) → 0 < times same d met' → step_of d < 7 → get_or work' (slot bs d) 0 ≡ index_of same d met'
    unfolding met' work'
    kept_more =
        each (λ d. step_of d < 7 → get_or work' (slot bs d) 0 ≡ index_of same d met')
        (λ s.
        ap (λ xs. get_or xs (slot bs c) 0) (cond-true _ _ _ (lt-ltb (step_of c) 7 s))
        ∙ get_or-set_same o.work.now (slot bs c) o.met 0 (omega (arith, h.room, slot_below bs taken c crosses s))
        ∙ h.corner_count ∙ sym number)
        (λ d e m s.
        cond_both (ltb (step_of c) 7) _ _ (λ xs. get_or xs (slot bs d) 0 ≡ get_or o.work.now (slot bs d) 0)
        (λ t.
        let ne : slot bs d ≢ slot bs c =
        λ q. both_ways (same c d) e (same_from c d (slot_apart bs taken c d crosses (h.crossing d m) (ltb-true (step_of c) 7 t) s (sym q))) in
        get_or-set_other o.work.now (slot bs c) (slot bs d) o.met 0 ne)
        (λ _. refl)
        ∙ h.kept d m s ∙ sym (index_append same met (c ∷ []) d m))

    pub met_more : RoomForCorners old (met ++ c ∷ []) → Holds bs old (with_corner_met bs o c) (met ++ c ∷ []) ts
    unfolding met' work'
    met_more room =
        let more = length-append met (c ∷ []) in
        let places = map (place (fraction_in bs)) met in
        let many : length places ≡ length met = length-map met (place (fraction_in bs)) in
        let long : length o.corners.now ≡ length old.corners.now =
        ap length h.corners ∙ length_begun coordinates 3 length_coordinates places old.corners.now (omega arith) in
        let fits : leb (3 * o.met + 3) (length o.corners.now) ≡ true = le-leb _ _ (omega (arith, h.corner_count, room.0)) in
        record {
          corner_count = omega (arith, h.corner_count, room.1);
          triangle_count = h.triangle_count;
          corners =
              cond-true _ _ _ fits
              ∙ ap₂ (λ n xs. take (3 * n) xs ++ (coordinates (place (fraction_in bs) c) ++ drop (3 * n + 3) xs)) (h.corner_count ∙ sym many) h.corners
              ∙ begun_more coordinates 3 length_coordinates places (place (fraction_in bs) c) old.corners.now
              ∙ ap (λ ps. filled ps old.corners.now) (sym (map_push (place (fraction_in bs)) met c));
          triangles = h.triangles;
          own_corners = h.own_corners;
          own_triangles = h.own_triangles;
          own_work = h.own_work;
          room = subst (λ n. 6 * (size_x bs * (size_y bs * size_z bs)) ≤ n) (sym length_work) h.room;
          crossing = each (Crossing bs) crosses (λ d _ m. h.crossing d m);
          kept = kept_more;
        }
