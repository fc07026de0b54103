-- A cube adds one corner for each edge that ends at its highest point and crosses, and the triangles of its pieces. Assumes nothing.
use Rattle.std.proofs.Common.{◌≡◌, ℕ, suc, ◌+◌, ◌-◌, ◌^◌, ◌<◌, ◌≤◌, min, Bool, true, false, not, eqb, leb, ◌≢◌, List, [], ◌∷◌, ◌++◌, map, length, sym, refl, ap, ◌∙◌, subst, ap₂, subst₂, inl, inr, ⊎_elim, arith, length-append}
use mathlib.Core.Bool.{beq}
use Rattle.std.proofs.lemmas.List.{length-map}
use Rattle.std.proofs.lemmas.Bool.{both_ways, cases_Bool, cases_lt, eq-eqb, ne_eqb, leb-true}
use Rattle.std.specs.List.{flat_map, AllByRecursion}
use Rattle.theory.specs.Grid.{Point, pt, same_point, Offset, off, lowest, +x, +y, +z, +xy, +xz, +yz, highest, raised, ◌⊕◌}
use Rattle.theory.specs.Triangle.{edge, one_if, sum_of, corners, has, times, with_corner}
use Rattle.theory.specs.Skin.{Corner, Triangle, same, cube}
use Rattle.theory.proofs.Sums.{sum_append, sum_joined, every_append}
use Rattle.theory.specs.Closed.{Neighbours}
use Rattle.theory.proofs.Same.{same_point_true, same_point_refl, same_true, same_refl}
use Rattle.theory_numbers.specs.Numbers.{mapped, corners_met}
use Rattle.theory_numbers.specs.Order.{upper, FirstMet}
use Rattle.theory_numbers.proofs.Firsts.{length_le, same_from}
use Rattle.theory_numbers.proofs.Numbered.{met_once, met_had}
use Rattle.theory_numbers.proofs.Order.{in_order, first_met}
use Rattle.theory_numbers.proofs.Crossed.{top_has}
use Rattle.theory_numbers.proofs.Six.{at_most_six}
use Rattle.block.specs.Scan.{size_x, size_y, size_z, inside}
use Rattle.piece.specs.Table.{bit, offset_number, offset_at}
use Rattle.triangle.specs.Cubes.{lowest_of, OfBlock}
use Rattle.triangle.specs.Slots.{step_of}
use Rattle.triangle.specs.Output.{Crossing}
use Rattle.triangle.specs.Progress.{earlier}
use Rattle.triangle.specs.Cases.{cube_table, edge_code, code_triangles, new_steps, new_corners, new_triangles}
use Rattle.triangle.specs.Counting.{Counted}
use Rattle.triangle.specs.declared.Counts.{Counts}
use Rattle.triangle.specs.declared.cube.Cube.{Cube}
use Rattle.triangle.proofs.Slots.{across, either_of, step_at, upper_at, directed, rise_of, upper_rise}
use Rattle.triangle.proofs.Tables.{at_below}
use Rattle.triangle.proofs.Corners.{cube_crosses}
use Rattle.triangle.proofs.Computed.{case_facts}
use Rattle.triangle.proofs.Pieces.{cube_by_table}
use Rattle.triangle.proofs.Fronts.{cube_front, met_le, cubes_few, skin_few}

-- the corner between two points, by who of them is inside
abbrev between : Bool → Bool → Point → Point → List Corner
between true false p q = edge p q ∷ []
between false true p q = edge q p ∷ []
between true true p q = []
between false false p q = []

length_between : (a b : Bool) (p q : Point) → length (between a b p q) ≡ one_if (not (beq a b))
length_between true false p q = refl
length_between false true p q = refl
length_between true true p q = refl
length_between false false p q = refl

length_joined : {A : Type 0} (g : A → List Corner) (xs : List A) → length (flat_map g xs) ≡ sum_of (λ x. length (g x)) xs
length_joined g [] = refl
length_joined g (x ∷ xs) = length-append (g x) (flat_map g xs) ∙ ap (λ n. length (g x) + n) (length_joined g xs)

-- what stands in a list is one of its elements
one_of : (R : Corner → Type 0) (c : Corner) (cs : List Corner) → AllByRecursion R cs → 0 < times same c cs → R c
one_of R c [] e m = absurd (omega arith)
one_of R c (d ∷ ds) e m =
    elim (cases_Bool (same d c)) [
      | inl t ↦ subst R (same_true d c t) e.0
      | inr t ↦ one_of R c ds e.1 (omega (arith, ap one_if t))
    ]

-- the points of a cube below its highest
abbrev seven : List Offset
seven = lowest ∷ +x ∷ +y ∷ +xy ∷ +z ∷ +xz ∷ +yz ∷ []

abbrev opposite : Offset → Offset
opposite (off a b c) = off (not a) (not b) (not c)

-- how many of the steps to the highest point a step is
abbrev keys : ℕ → ℕ
keys s = one_if (eqb 7 s) + (one_if (eqb 6 s) + (one_if (eqb 5 s) + (one_if (eqb 4 s) + (one_if (eqb 3 s) + (one_if (eqb 2 s) + one_if (eqb 1 s))))))

one_key : (s : ℕ) → keys s ≤ 1
one_key s =
    ⊎_elim (λ l. leb-true (keys s) 1 (at_below 8 (λ s. leb (keys s) 1) refl s l))
    (λ m. omega (arith, other 7 (omega arith), other 6 (omega arith), other 5 (omega arith), other 4 (omega arith), other 3 (omega arith), other 2 (omega arith), other 1 (omega arith)))
    (cases_lt s 8)
  where
    other : (n : ℕ) → n < s → one_if (eqb n s) ≡ 0
    other n l = ap one_if (ne_eqb n s (λ e. omega arith))

module _ (bs : List ℕ) (k : Cube) (h : OfBlock bs k) where
  abbrev f : Point → Bool
  f = inside bs

  abbrev l : Point
  l = lowest_of k

  abbrev top : Point
  top = l ⊕ highest

  abbrev to_top : Offset → List Corner
  to_top o = between (f (l ⊕ o)) (f top) (l ⊕ o) top

  -- the corners on edges that end at the highest point
  abbrev tops : List Corner
  tops = flat_map to_top seven

  length_tops : length tops ≡ new_corners k.bits
  length_tops = length_joined to_top seven ∙ (λ i. term 0 (omega arith) i + (term 1 (omega arith) i + (term 2 (omega arith) i + (term 3 (omega arith) i + (term 4 (omega arith) i + (term 5 (omega arith) i + (term 6 (omega arith) i + 0)))))))
    where
      term : (n : ℕ) → n < 8 → length (to_top (offset_at n)) ≡ one_if (not (beq (bit k.bits n) (bit k.bits 7)))
      term n ln =
          length_between (f (l ⊕ offset_at n)) (f top) (l ⊕ offset_at n) top
          ∙ ap₂ (λ a t. one_if (not (beq a t))) (sym (h.bits n ln)) (sym (h.bits 7 (omega arith)))

  Tops : Corner → Type 0
  Tops c = Crossing bs c × (upper c ≡ top)

  between_tops : (a b : Bool) (p q : Point) → f p ≡ a → f q ≡ b → Neighbours p q → Neighbours q p → upper (edge p q) ≡ top → upper (edge q p) ≡ top → AllByRecursion Tops (between a b p q)
  unfolding Tops
  between_tops true false p q ep eq n m u v = (((n, ep, eq), u), tt)
  between_tops false true p q ep eq n m u v = (((m, eq, ep), v), tt)
  between_tops true true p q ep eq n m u v = tt
  between_tops false false p q ep eq n m u v = tt

  -- from a point of the cube up to its highest point
  rises : (o u : Offset) → u ≢ lowest → top ≡ (l ⊕ o) ⊕ u → Neighbours (l ⊕ o) top × Neighbours top (l ⊕ o)
  rises o u n e = ((u, n, inl e), (u, n, inr e))

  to_top_tops : (o u : Offset) → u ≢ lowest → top ≡ (l ⊕ o) ⊕ u → either_of o highest ≡ highest → either_of highest o ≡ highest → AllByRecursion Tops (to_top o)
  to_top_tops o u n e a b =
      between_tops (f (l ⊕ o)) (f top) (l ⊕ o) top refl refl (rises o u n e).0 (rises o u n e).1
      (upper_at l o highest ∙ ap (λ o. l ⊕ o) a) (upper_at l highest o ∙ ap (λ o. l ⊕ o) b)

  all_tops : AllByRecursion Tops tops
  all_tops =
      every_append Tops (to_top lowest) _ (to_top_tops lowest highest (λ e. differ (ap offset_number e)) refl refl refl)
      (every_append Tops (to_top +x) _ (to_top_tops +x +yz (λ e. differ (ap offset_number e)) refl refl refl)
      (every_append Tops (to_top +y) _ (to_top_tops +y +xz (λ e. differ (ap offset_number e)) refl refl refl)
      (every_append Tops (to_top +xy) _ (to_top_tops +xy +z (λ e. differ (ap offset_number e)) refl refl refl)
      (every_append Tops (to_top +z) _ (to_top_tops +z +xy (λ e. differ (ap offset_number e)) refl refl refl)
      (every_append Tops (to_top +xz) _ (to_top_tops +xz +y (λ e. differ (ap offset_number e)) refl refl refl)
      (every_append Tops (to_top +yz) _ (to_top_tops +yz +x (λ e. differ (ap offset_number e)) refl refl refl) tt))))))
    where
      differ : {n : ℕ} → suc n ≡ 0 → ⊥
      differ e = omega arith

  -- each stands there once: its step tells which it is
  step_once : (a b : Bool) (p q : Point) (n : ℕ) → step_of (edge p q) ≡ n → step_of (edge q p) ≡ n → (c : Corner) → times same c (between a b p q) ≤ one_if (eqb n (step_of c))
  step_once true false p q n e d c = key (edge p q) e c
    where
      key : (x : Corner) → step_of x ≡ n → (c : Corner) → one_if (same x c) + 0 ≤ one_if (eqb n (step_of c))
      key x e c = elim (cases_Bool (same x c)) [ inl t ↦ omega (arith, ap one_if t, ap one_if (eq-eqb n (step_of c) (sym e ∙ ap step_of (same_true x c t)))) | inr t ↦ omega (arith, ap one_if t) ]
  step_once false true p q n e d c = key (edge q p) d c
    where
      key : (x : Corner) → step_of x ≡ n → (c : Corner) → one_if (same x c) + 0 ≤ one_if (eqb n (step_of c))
      key x e c = elim (cases_Bool (same x c)) [ inl t ↦ omega (arith, ap one_if t, ap one_if (eq-eqb n (step_of c) (sym e ∙ ap step_of (same_true x c t)))) | inr t ↦ omega (arith, ap one_if t) ]
  step_once true true p q n e d c = omega arith
  step_once false false p q n e d c = omega arith

  to_top_once : (o : Offset) (n : ℕ) → across o highest ≡ n → across highest o ≡ n → (c : Corner) → times same c (to_top o) ≤ one_if (eqb n (step_of c))
  to_top_once o n a b = step_once (f (l ⊕ o)) (f top) (l ⊕ o) top n (step_at l o highest ∙ a) (step_at l highest o ∙ b)

  times_tops : (c : Corner) → times same c tops ≡ times same c (to_top lowest) + (times same c (to_top +x) + (times same c (to_top +y) + (times same c (to_top +xy) + (times same c (to_top +z) + (times same c (to_top +xz) + times same c (to_top +yz))))))
  times_tops c = sum_joined (λ d. one_if (same d c)) to_top seven ∙ omega arith

  tops_once : (c : Corner) → times same c tops ≤ 1
  tops_once c =
      omega (arith, times_tops c, one_key (step_of c), to_top_once lowest 7 refl refl c, to_top_once +x 6 refl refl c, to_top_once +y 5 refl refl c, to_top_once +xy 4 refl refl c, to_top_once +z 3 refl refl c, to_top_once +xz 2 refl refl c, to_top_once +yz 1 refl refl c)

  -- and each crossing edge that ends at the highest point stands there
  tops_at : (u : Offset) (c : Corner) → u ≢ lowest → 0 < times same c (to_top (opposite u)) → 0 < times same c tops
  tops_at (off false false false) c n m = absurd (n refl)
  tops_at (off true false false) c n m = omega (arith, times_tops c)
  tops_at (off false true false) c n m = omega (arith, times_tops c)
  tops_at (off true true false) c n m = omega (arith, times_tops c)
  tops_at (off false false true) c n m = omega (arith, times_tops c)
  tops_at (off true false true) c n m = omega (arith, times_tops c)
  tops_at (off false true true) c n m = omega (arith, times_tops c)
  tops_at (off true true true) c n m = omega (arith, times_tops c)

  below_top : (p : Point) (u : Offset) → p ⊕ u ≡ top → p ≡ l ⊕ opposite u
  below_top (pt x y z) (off a b c) e =
      let p : raised a x ≡ suc k.lowest.x = cc in let q : raised b y ≡ suc k.lowest.y = cc in let r : raised c z ≡ suc k.lowest.z = cc in
      λ t. pt (down a x k.lowest.x p t) (down b y k.lowest.y q t) (down c z k.lowest.z r t)
    where
      down : (a : Bool) (u i : ℕ) → raised a u ≡ suc i → u ≡ raised (not a) i
      down false u i e = e
      down true u i e = omega arith

  in_between : (up : Bool) (p q : Point) (u : Offset) → p ⊕ u ≡ q → (c : Corner) → c ≡ directed up p u → 0 < times same c (between up (not up) p q)
  in_between true p q u e c d = omega (arith, ap one_if (same_from same same_true same_refl (edge p q) c (sym (d ∙ ap (edge p) e))))
  in_between false p q u e c d = omega (arith, ap one_if (same_from same same_true same_refl (edge q p) c (sym (d ∙ ap (λ q. edge q p) e))))

  tops_all : (c : Corner) → Crossing bs c → upper c ≡ top → 0 < times same c tops
  tops_all c x u =
      let r = rise_of bs c x in
      let e : r.low ⊕ r.by ≡ top = sym (upper_rise bs c r) ∙ u in
      let low : r.low ≡ l ⊕ opposite r.by = below_top r.low r.by e in
      tops_at r.by c r.steps
      (subst₂ (λ a b. 0 < times same c (between a b (l ⊕ opposite r.by) top))
      (sym (ap f (sym low) ∙ r.starts)) (sym (ap f (sym e) ∙ r.ends))
      (subst (λ p. 0 < times same c (between r.up (not r.up) p top)) low (in_between r.up r.low top r.by e c r.is)))

  crossing_has : (c : Corner) → Crossing bs c → upper c ≡ top → 0 < with_corner same c (cube f l)
  crossing_has (edge p q) x u = top_has f l p q x.0 x.1 x.2 u

  module _ (c : Corner) where
    both_met : with_corner same c (earlier bs l ++ cube f l) ≡ with_corner same c (earlier bs l) + with_corner same c (cube f l)
    both_met = sum_append (has same c) (earlier bs l) (cube f l)

    first : 0 < with_corner same c (cube f l) → FirstMet f (size_x bs - 1) (size_y bs - 1) k.lowest.x k.lowest.y k.lowest.z c
    first m =
        first_met f (size_x bs - 1) (size_y bs - 1) (size_z bs - 1) k.lowest.x k.lowest.y k.lowest.z h.taken.border
        (omega (arith, h.along_x)) (omega (arith, h.along_y)) (omega (arith, h.along_z)) c m

    -- met in the end: met before, or one of the new ones
    met_then : 0 < times same c (corners_met (earlier bs l ++ cube f l)) → 0 < times same c (corners_met (earlier bs l)) + times same c tops
    met_then m =
        let some = (met_had c (earlier bs l ++ cube f l)).0 m in
        elim (cases_lt 0 (with_corner same c (earlier bs l))) [
          | inl b ↦ omega (arith, (met_had c (earlier bs l)).1 b)
          | inr b ↦
              let in-cube : 0 < with_corner same c (cube f l) = omega (arith, both_met) in
              elim (cases_Bool (same_point (upper c) top)) [
                | inl t ↦ omega (arith, tops_all c (cube_crosses bs k h c in-cube) (same_point_true (upper c) top t))
                | inr t ↦
                    let known = (first in-cube).known (λ e. both_ways (same_point (upper c) top) t (subst (λ p. same_point (upper c) p ≡ true) e (same_point_refl (upper c)))) in
                    omega arith
              ]
        ]

    -- a new one was not met before, and is met here
    new_then : 0 < times same c tops → (times same c (corners_met (earlier bs l)) ≡ 0) × (0 < times same c (corners_met (earlier bs l ++ cube f l)))
    unfolding Tops
    new_then m =
        let t = one_of Tops c tops all_tops m in
        let in-cube : 0 < with_corner same c (cube f l) = crossing_has c t.0 t.1 in
        let new = (first in-cube).new t.1 in (
          ⊎_elim (λ b. absurd (omega (arith, (met_had c (earlier bs l)).0 b))) (λ b. omega arith) (cases_lt 0 (times same c (corners_met (earlier bs l)))),
          (met_had c (earlier bs l ++ cube f l)).1 (omega (arith, both_met)),
        )

    met_still : 0 < times same c (corners_met (earlier bs l)) → 0 < times same c (corners_met (earlier bs l ++ cube f l))
    met_still m = (met_had c (earlier bs l ++ cube f l)).1 (omega (arith, both_met, (met_had c (earlier bs l)).0 m))

    no_more : times same c (corners_met (earlier bs l ++ cube f l)) ≤ min 1 (times same c (corners_met (earlier bs l) ++ tops))
    no_more =
        let s = sum_append (λ d. one_if (same d c)) (corners_met (earlier bs l)) tops in
        let once = met_once c (earlier bs l ++ cube f l) in
        ⊎_elim (λ m. omega (arith, met_then m)) (λ m. omega arith) (cases_lt 0 (times same c (corners_met (earlier bs l ++ cube f l))))

    no_less : times same c (corners_met (earlier bs l) ++ tops) ≤ min 1 (times same c (corners_met (earlier bs l ++ cube f l)))
    no_less =
        let s = sum_append (λ d. one_if (same d c)) (corners_met (earlier bs l)) tops in
        let once = met_once c (earlier bs l) in
        let once-top = tops_once c in
        ⊎_elim (λ m. let n = new_then m in omega arith)
        (λ m. ⊎_elim (λ b. let n = met_still b in omega arith) (λ b. omega arith) (cases_lt 0 (times same c (corners_met (earlier bs l)))))
        (cases_lt 0 (times same c tops))

  corners_more : length (corners_met (earlier bs l ++ cube f l)) ≡ length (corners_met (earlier bs l)) + new_corners k.bits
  corners_more =
      let a = length_le same same_true same_refl (corners_met (earlier bs l ++ cube f l)) (corners_met (earlier bs l) ++ tops) no_more in
      let b = length_le same same_true same_refl (corners_met (earlier bs l) ++ tops) (corners_met (earlier bs l ++ cube f l)) no_less in
      omega (arith, length-append (corners_met (earlier bs l)) tops, length_tops)

triangles_more : (bs : List ℕ) (k : Cube) → OfBlock bs k → length (cube (inside bs) (lowest_of k)) ≡ new_triangles k.bits
triangles_more bs k h = ap length (cube_by_table bs k h) ∙ length-map (cube_table k.bits) _ ∙ (case_facts k.bits h.byte).triangle_count

-- what a cube adds, as the code has it, and that it fits
module _ (bs : List ℕ) (k : Cube) (h : OfBlock bs k) (old r : Counts) (w : Counted bs old r (earlier bs (lowest_of k))) where
  abbrev ts : List Triangle
  ts = earlier bs (lowest_of k) ++ cube (inside bs) (lowest_of k)

  more : (length (corners_met ts) ≡ r.corners + length (new_steps k.bits)) × (length ts ≡ r.triangles + length (map corners (code_triangles k.bits)))
  more =
      let coded = length-map (code_triangles k.bits) corners ∙ length-map (cube_table k.bits) (mapped edge_code) in
      let facts = case_facts k.bits h.byte in (
        omega (arith, corners_more bs k h, w.corners, facts.step_count),
        omega (
          arith,
          length-append (earlier bs (lowest_of k)) (cube (inside bs) (lowest_of k)),
          triangles_more bs k h,
          w.triangles,
          facts.triangle_count,
          coded,
        ),
      )

  pub sums_fit : (r.corners + length (new_steps k.bits) < 2 ^ 32) × (r.triangles + length (map corners (code_triangles k.bits)) < 2 ^ 32)
  sums_fit =
      let front = cube_front bs k.lowest.x k.lowest.y k.lowest.z (omega (arith, h.along_x)) (omega (arith, h.along_y)) (omega (arith, h.along_z)) in
      let six = at_most_six (inside bs) (size_x bs - 1) (size_y bs - 1) (size_z bs - 1) h.taken.border in (
        omega (arith, more.0, met_le ts front.0, ap (λ us. length (corners_met us)) front.1, six, cubes_few bs h.taken),
        omega (arith, more.1, ap length front.1, length-append ts front.0, skin_few bs h.taken),
      )

  pub counted_more :
      (t : Counts) → t.corners ≡ r.corners + length (new_steps k.bits) → t.triangles ≡ r.triangles + length (map corners (code_triangles k.bits)) →
      Counted bs old t (earlier bs (pt (suc k.lowest.x) k.lowest.y k.lowest.z))
  counted_more t ec et =
      subst (Counted bs old t) (sym ((in_order (inside bs) (size_x bs - 1) (size_y bs - 1)).next_cube k.lowest.x k.lowest.y k.lowest.z))
      record { corners = ec ∙ sym more.0; triangles = et ∙ sym more.1 }
