-- The corners of a cube by the points between which they lie: the upper ends of their edges, their steps, and which of them were met before
-- the cube. Assumes nothing.
use Rattle.std.proofs.Common.{◌≡◌, ℕ, suc, ◌+◌, ◌-◌, ◌<◌, Bool, true, false, ◌&&◌, eqb, ltb, List, [], ◌∷◌, map, length, get_or, drop, sym, refl, ap, ◌∙◌, subst, inl, inr, ⊎_elim, arith}
use lib.Bits.{bit_or, bit_xor}
use Rattle.std.proofs.ByRecursion.{All-weaker}
use Rattle.std.proofs.lemmas.List.{drop_more}
use Rattle.std.proofs.lemmas.Bool.{and_parts, both_ways, cases_Bool, cases_lt, cond_both, eqb-true, eq-eqb}
use Rattle.std.specs.List.{flat_map, AllByRecursion}
use Rattle.theory.specs.Grid.{Point, pt, Offset, off, highest, raised, ◌⊕◌}
use Rattle.theory.specs.Triangle.{Edge, edge, Tri, tri, has, times, corners, with_corner}
use Rattle.theory.specs.Skin.{Corner, same, cube}
use Rattle.theory.specs.Faces.{renamed}
use Rattle.theory.proofs.Same.{same_true, same_refl}
use Rattle.theory.proofs.Sums.{sum_skin}
use Rattle.theory.proofs.Rings.{parted}
use Rattle.theory_numbers.specs.Numbers.{corners_met}
use Rattle.theory_numbers.specs.Order.{upper}
use Rattle.theory_numbers.proofs.Cubes.{over_cubes_has}
use Rattle.theory_numbers.proofs.Firsts.{every_stands, with_corner_times}
use Rattle.theory_numbers.proofs.Numbered.{met_had}
use Rattle.theory_numbers.proofs.Order.{first_met}
use Rattle.block.specs.Scan.{size_x, size_y, size_z, inside}
use Rattle.piece.specs.Table.{offset_at}
use Rattle.triangle.specs.Cubes.{lowest_of, point_in, corner_at, on_points, OfBlock}
use Rattle.triangle.specs.Cases.{cube_table, edges_in, new_steps}
use Rattle.triangle.specs.Slots.{step_of}
use Rattle.triangle.specs.Output.{noted, with_corner_met, new_corner, met_by, NewIn, Crossing}
use Rattle.triangle.specs.Progress.{earlier}
use Rattle.triangle.specs.declared.cube.Cube.{Cube}
use Rattle.triangle.specs.declared.write.Out.{Out}
use Rattle.triangle.proofs.Slots.{step_at, upper_at}
use Rattle.triangle.proofs.Tables.{at_below, pair_facts, not_highest}
use Rattle.triangle.proofs.Computed.{every_with, EdgeFacts, EdgeOf, case_facts, new_step_at}
use Rattle.triangle.proofs.Pieces.{cube_by_table}

-- each corner of a cube of the block crosses
pub cube_crosses : (bs : List ℕ) (k : Cube) → OfBlock bs k → (d : Corner) → 0 < with_corner same d (cube (inside bs) (lowest_of k)) → Crossing bs d
cube_crosses bs k h (edge p q) m =
    let f = inside bs in
    let x = size_x bs - 1 in let y = size_y bs - 1 in let z = size_z bs - 1 in
    let some = over_cubes_has x y z (λ p'. with_corner same (edge p q) (cube f p')) k.lowest.x k.lowest.y k.lowest.z (omega (arith, h.along_x)) (omega (arith, h.along_y)) (omega (arith, h.along_z)) in
    (parted f x y z h.taken.border p q).0 (omega (arith, sum_skin (has same (edge p q)) f x y z))

raised_true : (b : Bool) (n : ℕ) → raised b n ≡ suc n → b ≡ true
raised_true true n e = refl
raised_true false n e = absurd (omega arith)

highest_only : (l : Point) (o : Offset) → l ⊕ o ≡ l ⊕ highest → o ≡ highest
highest_only (pt x y z) (off a b c) e =
    let p : raised a x ≡ suc x = cc in
    let q : raised b y ≡ suc y = cc in
    let r : raised c z ≡ suc z = cc in
    λ i. off (raised_true a x p i) (raised_true b y q i) (raised_true c z r i)

module _ (k : Cube) where
  pub upper_is : (p q : ℕ) → p < 8 → q < 8 → upper (corner_at k p q) ≡ point_in k (bit_or p q)
  upper_is p q lp lq = upper_at (lowest_of k) (offset_at p) (offset_at q) ∙ ap (λ o. lowest_of k ⊕ o) (sym (pair_facts p q lp lq).upper)

  pub step_is : (p q : ℕ) → p < 8 → q < 8 → step_of (corner_at k p q) ≡ bit_xor p q
  step_is p q lp lq = step_at (lowest_of k) (offset_at p) (offset_at q) ∙ (pair_facts p q lp lq).step

  -- the two points of an edge to the highest one
  to_top : (s : ℕ) → s < 8 → (bit_or (7 - s) 7 ≡ 7) × (bit_or 7 (7 - s) ≡ 7) × (bit_xor (7 - s) 7 ≡ s) × (bit_xor 7 (7 - s) ≡ s)
  to_top s l =
      let t =
      at_below 8 (λ s. eqb (bit_or (7 - s) 7) 7 && (eqb (bit_or 7 (7 - s)) 7 && (eqb (bit_xor (7 - s) 7) s && eqb (bit_xor 7 (7 - s)) s))) refl s l in
      let a = and_parts (eqb (bit_or (7 - s) 7) 7) _ t in
      let b = and_parts (eqb (bit_or 7 (7 - s)) 7) _ a.1 in
      let c = and_parts (eqb (bit_xor (7 - s) 7) s) _ b.1 in
      (eqb-true _ 7 a.0, eqb-true _ 7 b.0, eqb-true _ s c.0, eqb-true _ s c.1)

  pub upper_new : (s : ℕ) → s < 8 → upper (new_corner k s) ≡ lowest_of k ⊕ highest
  upper_new s l =
      cond_both (ltb k.bits 128) _ _ (λ e. upper (on_points (point_in k) e) ≡ lowest_of k ⊕ highest)
      (λ _. upper_is (7 - s) 7 (omega arith) (omega arith) ∙ ap (point_in k) (to_top s l).0)
      (λ _. upper_is 7 (7 - s) (omega arith) (omega arith) ∙ ap (point_in k) (to_top s l).1)

  pub step_new : (s : ℕ) → s < 8 → step_of (new_corner k s) ≡ s
  step_new s l =
      cond_both (ltb k.bits 128) _ _ (λ e. step_of (on_points (point_in k) e) ≡ s)
      (λ _. step_is (7 - s) 7 (omega arith) (omega arith) ∙ (to_top s l).2)
      (λ _. step_is 7 (7 - s) (omega arith) (omega arith) ∙ (to_top s l).3)

  -- new corners are one where their steps are
  pub same_new : (s t : ℕ) → s < 8 → t < 8 → same (new_corner k s) (new_corner k t) ≡ eqb s t
  same_new s t ls lt =
      elim (cases_Bool (eqb s t)) [
        | inl e ↦ subst (λ t. same (new_corner k s) (new_corner k t) ≡ true) (eqb-true s t e) (same_refl (new_corner k s)) ∙ sym e
        | inr e ↦
            elim (cases_Bool (same (new_corner k s) (new_corner k t))) [
              | inl d ↦ absurd (both_ways (eqb s t) e (eq-eqb s t (sym (step_new s ls) ∙ ap step_of (same_true _ _ d) ∙ step_new t lt)))
              | inr d ↦ d ∙ sym e
            ]
      ]

-- the corners of moved triangles
pub corners_moved :
    {P Q : Type 0} (g : P → Q) (ts : List (Tri (Edge P))) → flat_map corners (map (renamed g) ts) ≡ map (on_points g) (flat_map corners ts)
corners_moved g [] = refl
corners_moved g (tri (edge a b) (edge c d) (edge e h) ∷ ts) =
    ap (λ es. edge (g a) (g b) ∷ edge (g c) (g d) ∷ edge (g e) (g h) ∷ es) (corners_moved g ts)

every_unmapped : {A B : Type 0} (P : B → Type 0) (g : A → B) (xs : List A) → AllByRecursion P (map g xs) → AllByRecursion (λ x. P (g x)) xs
every_unmapped P g [] e = tt
every_unmapped P g (x ∷ xs) e = (e.0, every_unmapped P g xs e.1)

-- a corner of a cube, by the points between which it lies
pub record CornerFacts (bs : List ℕ) (k : Cube) (p q : ℕ) : Type 0 where
  pub facts : EdgeFacts k.bits p q
  pub crossing : Crossing bs (corner_at k p q)
  pub known : bit_or p q < 7 → 0 < times same (corner_at k p q) (corners_met (earlier bs (lowest_of k)))
  pub new : bit_or p q ≡ 7 → times same (corner_at k p q) (corners_met (earlier bs (lowest_of k))) ≡ 0

abbrev pub CornerOf : List ℕ → Cube → Edge ℕ → Type 0
CornerOf bs k (edge p q) = CornerFacts bs k p q

module _ (bs : List ℕ) (k : Cube) (h : OfBlock bs k) where
  abbrev f : Point → Bool
  f = inside bs

  abbrev l : Point
  l = lowest_of k

  in_cube : AllByRecursion (λ e. 0 < with_corner same (on_points (point_in k) e) (cube f l)) (edges_in k.bits)
  in_cube =
      every_unmapped (λ c. 0 < with_corner same c (cube f l)) (on_points (point_in k)) (edges_in k.bits)
      (subst (AllByRecursion (λ c. 0 < with_corner same c (cube f l)))
      (ap (flat_map corners) (cube_by_table bs k h) ∙ corners_moved (point_in k) (cube_table k.bits))
      (All-weaker _ _ (λ c m. let w = with_corner_times same c (cube f l) in omega arith) (flat_map corners (cube f l))
      (every_stands same same_true same_refl (flat_map corners (cube f l)))))

  corner_facts : (e : Edge ℕ) → EdgeOf k.bits e → 0 < with_corner same (on_points (point_in k) e) (cube f l) → CornerOf bs k e
  corner_facts (edge p q) t m =
      let c = corner_at k p q in
      let E = earlier bs l in
      let first = first_met f (size_x bs - 1) (size_y bs - 1) (size_z bs - 1) k.lowest.x k.lowest.y k.lowest.z h.taken.border
      (omega (arith, h.along_x)) (omega (arith, h.along_y)) (omega (arith, h.along_z)) c m in
      let up : upper c ≡ point_in k (bit_or p q) = upper_is k p q t.from t.to in
      record {
        facts = t;
        crossing = cube_crosses bs k h c m;
        known = λ low. (met_had c E).1 (first.known (λ u. not_highest (bit_or p q) low (highest_only l (offset_at (bit_or p q)) (sym up ∙ u))));
        new =
            λ e.
            let z = first.new (up ∙ ap (point_in k) e) in
            ⊎_elim (λ some. absurd (omega (arith, (met_had c E).0 some))) (λ none. omega arith) (cases_lt 0 (times same c (corners_met E)));
      }

  pub cube_corners : AllByRecursion (CornerOf bs k) (edges_in k.bits)
  cube_corners = every_with _ _ _ corner_facts (edges_in k.bits) (case_facts k.bits h.byte).edges in_cube

-- one of the corners that are first met in a cube
pub new_at :
    (bs : List ℕ) (k : Cube) → OfBlock bs k → (i : ℕ) → i < length (new_steps k.bits) → NewIn bs k (get_or (new_steps k.bits) i 0)
new_at bs k h i l =
    let t = new_step_at k.bits h.byte i l in
    record { cube = h; above = t.above; below = t.below; parted = t.parted; upper = upper_new k _ t.below; step = step_new k _ t.below }

-- one new corner less is left to meet
pub met_left :
    (bs : List ℕ) (k : Cube) (ss : List ℕ) (o o' : Out) (i : ℕ) → i < length ss →
    o' ≡ with_corner_met bs (noted o (56 + get_or ss i 0)) (new_corner k (get_or ss i 0)) →
    met_by bs k (drop (i + 1) ss) o' ≡ met_by bs k (drop i ss) o
met_left bs k ss o o' i l eo =
    ap (met_by bs k (drop (i + 1) ss)) eo ∙ sym (ap (λ ss. met_by bs k ss o) (drop_more ss i 0 l))
