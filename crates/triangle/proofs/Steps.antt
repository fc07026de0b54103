-- The skin grows cube by cube, and the room that was compared suffices.
-- Assumes nothing.
use Rattle.std.proofs.Common.{◌≡◌, ℕ, suc, ◌+◌, ◌-◌, ◌*◌, ◌^◌, ◌<◌, ◌≤◌, ◌≢◌, List, [], ◌∷◌, ◌++◌, map, length, get_or, sym, refl, ap, ◌∙◌, subst, ap₂, subst₂, ⊎_elim, arith, length-append}
use lib.Bits.{bit_or, bit_xor}
use Rattle.std.proofs.ByRecursion.{All-weaker}
use Rattle.std.proofs.lemmas.List.{map-append, length-map}
use Rattle.std.proofs.lemmas.Bool.{true≢false}
use Rattle.std.specs.List.{flat_map, AllByRecursion}
use Rattle.theory.specs.Grid.{pt}
use Rattle.theory.specs.Triangle.{Edge, edge, Tri, tri, corners, times}
use Rattle.theory.specs.Skin.{Corner, Triangle, same, cube}
use Rattle.theory.specs.Faces.{renamed}
use Rattle.theory_numbers.specs.Numbers.{mapped, index_of, renumber, corners_met}
use Rattle.theory_numbers.proofs.Order.{in_order}
use Rattle.theory_numbers.proofs.Meeting.{as_they_are_met, index_append}
use Rattle.block.specs.Scan.{size_x, size_y, inside}
use Rattle.grid.specs.Numbers.{number_of}
use Rattle.piece.specs.Table.{bit}
use Rattle.triangle.specs.Cubes.{lowest_of, point_in, corner_at, on_points, OfBlock}
use Rattle.triangle.specs.Cases.{cube_table, edges_in, edge_code, code_triangles, new_steps}
use Rattle.triangle.specs.Output.{with_triangles, with_numbers, new_corner, met_by, numbered_by, KnownIn, Holds, RoomForCorners}
use Rattle.triangle.specs.Progress.{skin_of, earlier, RoomIn, Written}
use Rattle.triangle.specs.Passes.{GoesOn}
use Rattle.triangle.specs.declared.cube.Cube.{Cube}
use Rattle.triangle.specs.declared.write.Out.{Out}
use Rattle.triangle.proofs.Tables.{pair_facts}
use Rattle.triangle.proofs.Computed.{case_facts}
use Rattle.triangle.proofs.Fronts.{Front, cube_front, met_le}
use Rattle.triangle.proofs.Growth.{holds_still, made_all}
use Rattle.triangle.proofs.Pieces.{cube_by_table}
use Rattle.triangle.proofs.Corners.{upper_is, step_is, CornerOf, cube_corners}
use Rattle.triangle.proofs.News.{New, new_of, news_stand, Noted, news_noted}

pub front_room :
    (bs : List ℕ) (old : Out) (ts : List Triangle) → RoomIn bs old → Front ts (skin_of bs) →
    ((3 * length (corners_met ts) ≤ length old.corners.now) × (length (corners_met ts) < 2 ^ 32))
    × ((4 * length ts ≤ length old.triangles.now) × (length ts < 2 ^ 32))
front_room bs old ts r (rest, e) =
    let m = met_le ts rest in
    let a = ap (λ us. length (corners_met us)) e in
    let b = ap length e ∙ length-append ts rest in
    let c = r.for_corners in let d = r.for_triangles in let g = r.corner_numbers in let h = r.triangle_numbers in
    ((omega arith, omega arith), (omega arith, omega arith))

-- triangles by the numbers of their corners, where these stand by code
numbered_same :
    (k : Cube) (ns : List ℕ) (met : List Corner) (ts : List (Tri (Edge ℕ))) →
    AllByRecursion (λ e. get_or ns (edge_code e) 0 ≡ index_of same (on_points (point_in k) e) met) (flat_map corners ts) →
    map (numbered_by ns) (map (mapped edge_code) ts) ≡ map (renumber same met) (map (renamed (point_in k)) ts)
numbered_same k ns met [] e = refl
numbered_same k ns met (tri (edge a b) (edge c d) (edge g h) ∷ ts) e =
    λ i. tri (e.0 i) (e.1.0 i) (e.1.1.0 i) ∷ numbered_same k ns met ts e.1.1.1 i

module _ (bs : List ℕ) (k : Cube) (h : OfBlock bs k) where
  -- what a cube adds: its new corners behind those met before, then its triangles
  module _ (old o : Out) (long : length o.numbers ≡ 64) (known : KnownIn bs k o.work.now o.numbers)
      (w : Written bs old o (earlier bs (lowest_of k))) where
    abbrev E : List Triangle
    E = earlier bs (lowest_of k)

    abbrev T : List Triangle
    T = cube (inside bs) (lowest_of k)

    abbrev ss : List ℕ
    ss = new_steps k.bits

    abbrev all : List Corner
    all = corners_met E ++ map (new_corner k) ss

    met_all : (corners_met (E ++ T) ≡ all) × AllByRecursion (New bs k (corners_met E)) ss
    met_all = news_stand bs k h (cube_corners bs k h)

    fits :
        ((3 * length (corners_met (E ++ T)) ≤ length old.corners.now) × (length (corners_met (E ++ T)) < 2 ^ 32))
        × ((4 * length (E ++ T) ≤ length old.triangles.now) × (length (E ++ T) < 2 ^ 32))
    fits =
        front_room bs old (E ++ T) w.room
        (cube_front bs k.lowest.x k.lowest.y k.lowest.z (omega (arith, h.along_x)) (omega (arith, h.along_y)) (omega (arith, h.along_z)))

    after : Noted bs k old (map (renumber same (corners_met E)) E) ss o (corners_met E)
    after =
        news_noted bs k old _ h ss o (corners_met E) met_all.1 (case_facts k.bits h.byte).apart long w.holds
        (subst (RoomForCorners old) met_all.0 fits.0)

    -- the number of each corner of the table is at hand
    at_hand : (e : Edge ℕ) → CornerOf bs k e → get_or (met_by bs k ss o).numbers (edge_code e) 0 ≡ index_of same (on_points (point_in k) e) all
    at_hand (edge p q) c =
        let t = c.facts in
        let d = corner_at k p q in
        let pair = pair_facts p q t.from t.to in
        let apart : p ≢ q = λ e. true≢false (sym t.starts ∙ ap (bit k.bits) e ∙ t.ends) in
        let some = ⊎_elim (λ e. absurd (apart e)) (λ l. l) pair.differ in
        ⊎_elim
        (λ e.
        let n = new_of bs k p q c e in
        let there = ⊎_elim (λ low. absurd (omega arith)) (λ r. r.1) t.top in
        ap (λ u. get_or (met_by bs k ss o).numbers (8 * u + bit_xor p q) 0) e
        ∙ after.noted (bit_xor p q) pair.step_below there ∙ ap (λ c. index_of same c all) (sym n.0))
        (λ low.
        let step = step_is k p q t.from t.to in
        let met : 0 < times same d (corners_met E) = c.known low.0 in
        after.other (8 * bit_or p q + bit_xor p q) (λ s _ e. omega (arith, low.0, low.1))
        ∙ known w.holds.room (bit_or p q) (bit_xor p q) some.1 low.0 some.0 low.1 pair.step_within
        ∙ sym (λ i. get_or o.work.now (6 * number_of (size_x bs) (size_y bs) (upper_is k p q t.from t.to i) + (step i - 1)) 0)
        ∙ w.holds.kept d met (subst (λ s. s < 7) (sym step) low.1)
        ∙ sym (index_append same (corners_met E) (map (new_corner k) ss) d met))
        pair.top

    numbers : map (numbered_by (met_by bs k ss o).numbers) (code_triangles k.bits) ≡ map (renumber same all) T
    numbers =
        numbered_same k _ all (cube_table k.bits) (All-weaker _ _ at_hand (edges_in k.bits) (cube_corners bs k h))
        ∙ ap (map (renumber same all)) (sym (cube_by_table bs k h))

    all_triangles : map (renumber same (corners_met E)) E ++ map (renumber same all) T ≡ map (renumber same (corners_met (E ++ T))) (E ++ T)
    all_triangles =
        ap₂ (λ us cs. us ++ map (renumber same cs) T) (sym (as_they_are_met.so_far E T)) (sym met_all.0)
        ∙ sym (map-append (renumber same (corners_met (E ++ T))) E T)

    abbrev done : Out
    done = with_triangles (met_by bs k ss o) (map (numbered_by (met_by bs k ss o).numbers) (code_triangles k.bits))

    pub cube_written : Written bs old done (earlier bs (pt (suc k.lowest.x) k.lowest.y k.lowest.z))
    cube_written =
        let many : length (map (renumber same (corners_met E)) E ++ map (renumber same all) T) ≡ length (E ++ T) =
        ap length all_triangles ∙ length-map (E ++ T) (renumber same (corners_met (E ++ T))) in
        record {
          room = w.room;
          holds =
              subst (λ ts. Holds bs old done (corners_met ts) (map (renumber same (corners_met ts)) ts))
              (sym ((in_order (inside bs) (size_x bs - 1) (size_y bs - 1)).next_cube k.lowest.x k.lowest.y k.lowest.z))
              (subst₂ (Holds bs old done) (sym met_all.0) all_triangles
              (subst (λ us. Holds bs old (with_triangles (met_by bs k ss o) us) all (map (renumber same (corners_met E)) E ++ map (renumber same all) T))
              (sym numbers)
              (made_all bs h.taken old (map (renumber same all) T) (met_by bs k ss o) all _ after.holds
              (subst (λ n. 4 * n ≤ length old.triangles.now) (sym many) fits.1.0)
              (subst (λ n. n < 2 ^ 32) (sym many) fits.1.1))));
        }

  -- the code's three steps
  pub cube_goes :
      (o o₁ o₂ : Out) (ns : List ℕ) → length ns ≡ 64 → KnownIn bs k o.work.now ns → o₁ ≡ met_by bs k (new_steps k.bits) (with_numbers o ns) →
      o₂ ≡ with_triangles o₁ (map (numbered_by o₁.numbers) (code_triangles k.bits)) →
      GoesOn Written bs (lowest_of k) (pt (suc k.lowest.x) k.lowest.y k.lowest.z) o o₂
  cube_goes o o₁ o₂ ns long known em et old w =
      subst (λ o. Written bs old o (earlier bs (pt (suc k.lowest.x) k.lowest.y k.lowest.z)))
      (sym (et ∙ ap (λ m. with_triangles m (map (numbered_by m.numbers) (code_triangles k.bits))) em))
      (cube_written old (with_numbers o ns) long known
      record { room = w.room; holds = holds_still bs old o ns _ _ w.holds })

-- buffers in which nothing is written yet
pub nothing_written : (bs : List ℕ) (o : Out) → RoomIn bs o → o.met ≡ 0 → o.made ≡ 0 → Written bs o o []
nothing_written bs o room met made =
    record {
      room = room;
      holds =
          record {
            corner_count = met;
            triangle_count = made;
            corners = refl;
            triangles = refl;
            own_corners = refl;
            own_triangles = refl;
            own_work = refl;
            room = room.for_work;
            crossing = λ c h. absurd (omega arith);
            kept = λ c h s. absurd (omega arith);
          };
    }
