-- A skin whose parts are numbered can be measured, and is finished then. Assumes nothing.
use Rattle.std.proofs.Common.{◌≡◌, ℕ, ◌-◌, ◌*◌, ◌/◌, ◌^◌, ◌<◌, min, true, eqb, List, ◌++◌, length, get_or, take, drop, None, sym, ap, ◌∙◌, subst, ap₂, subst₂, arith, length-take}
use lib.ListN.{length-map}
use Rattle.std.specs.List.{AllByRecursion}
use Rattle.std.proofs.lemmas.List.FromFn.{length-map-range_with_len}
use Rattle.std.proofs.ByRecursion.{All-from_get_or}
use Rattle.std.proofs.lemmas.List.{take_at, drop_at, get_or_append_left}
use Rattle.std.proofs.lemmas.Slice.{drop-append-drop}
use Rattle.theory.specs.Triangle.{corners as corners_in}
use Rattle.theory.specs.Skin.{same}
use Rattle.theory.specs.Closed.{EachSideOnce, ThreeCorners, Ring}
use Rattle.theory_numbers.specs.Numbers.{renumber, NumbersClosed}
use Rattle.theory_parts.specs.Parts.{Numbered}
use Rattle.theory_parts.specs.Regions.{of_part}
use Rattle.theory_parts.specs.Buffer.{count_in, triangles_in, parts_in}
use Rattle.theory_volume.specs.Volume.{six_volume}
use Rattle.theory_volume.specs.Sizes.{most_coordinate, CoordinatesTo, Small}
use Rattle.theory_solids.proofs.Solids.{parts_are_solid}
use Rattle.theory_buffers.specs.ByNumber.{CrossedByNumber, PartsByNumber}
use Rattle.theory_buffers.proofs.ByNumber.{skins_parted_by_number}
use Rattle.block.specs.Scan.{size_x, size_y, size_z, inside}
use Rattle.corner.specs.Fraction.{fraction_in}
use Rattle.triangle.specs.Progress.{skin_of, corners_of}
use Rattle.triangle.specs.Built.{Built}
use Rattle.triangle.specs.declared.Counts.{Counts}
use Rattle.part.specs.Links.{ByLinks, Written}
use Rattle.part.proofs.Laws.{skins_numbered}
use Rattle.volume.specs.Buffer.{place_in}
use Rattle.volume.specs.Measure.{part_of, measured, parts_of}
use Rattle.volume.specs.Bounded.{bounded}
use Rattle.volume.specs.declared.Part.{Part}
use Rattle.volume.proofs.Growing.{measured_at}
use Rattle.mesh.specs.Written.{skin_bytes}
use Rattle.checker.specs.Verdict.{Sound, RingedOnce, All, Verdict}
use Rattle.whole.specs.Finished.{numbered_of, PartIs, Finished}
use Rattle.whole.proofs.Skins.{range, closed, promised, sized}
use Rattle.whole.proofs.Building.{placed, given, is_taken, length_placed, length_given, given_beyond, placed_lies, corners_lie, given_triangles}
use Rattle.whole.proofs.Building.{sound_in}
use Rattle.whole.proofs.Measuring.{coordinates_short, small_bounded}
use Rattle.whole.proofs.Solids.{solid_part}
use Rattle.whole.proofs.Accepting.{accepted}

-- ns has the numbers that were given, and those of the parts
module _
    {bs corners triangles work corners' triangles' : List ℕ} {counts : Counts}
    (built : Built bs corners triangles work corners' triangles' counts)
    {work' ns : List ℕ} {n : ℕ} (written : Written (given built) counts.corners work' ns n) (long : length ns ≡ length (given built)) where
  same_triangles : triangles_in ns ≡ numbered_of bs
  same_triangles = written.same_corners ∙ given_triangles built

  numbered_by_links : Numbered eqb (numbered_of bs) (parts_in ns) n
  numbered_by_links =
      skins_numbered _ _ _ _ (is_taken built).border (parts_in ns) n
      (subst (λ ts. ByLinks ts (parts_in ns) n) (given_triangles built) written.numbered)

  parts_by_number :
      PartsByNumber (inside bs) (fraction_in bs) (size_x bs - 1) (size_y bs - 1) (size_z bs - 1) (place_in (placed built)) (parts_in ns) n
  parts_by_number = skins_parted_by_number _ _ _ _ _ _ (placed_lies built) (parts_in ns) n numbered_by_links

  coordinates_low : (c : ℕ) → c < counts.corners → CoordinatesTo most_coordinate (place_in (placed built) c)
  coordinates_low c l = (sized (is_taken built) _ (placed_lies built)).coordinates c (omega (arith, built.corner_count))

  pub can_be_measured : bounded (placed built) ns ≡ true
  can_be_measured =
      let size = sized (is_taken built) _ (placed_lies built) in
      small_bounded (placed built) counts.corners (length_placed built) coordinates_low ns
      (subst₂ (λ n ts. AllByRecursion (λ t. AllByRecursion (λ c. c < n) (corners_in t)) ts) (sym built.corner_count) (sym same_triangles)
      (promised (is_taken built) _ (placed_lies built)).in_range)
      (omega (arith, length_given built))
      (omega (arith, length_given built, built.triangle_count, size.count, length-map (skin_of bs) (renumber same (corners_of bs))))
      (subst (AllByRecursion (Small (place_in (placed built)))) (sym same_triangles) size.small)

  -- what is measured of a part is what it is
  part_measured : (m : ℕ) → m < n → PartIs bs (of_part m (skin_of bs) (parts_in ns)) (measured (placed built) ns (count_in ns) m)
  unfolding measured
  part_measured m l =
      let part = of_part m (skin_of bs) (parts_in ns) in
      subst (PartIs bs part)
      (sym (ap₂ part_of (ap (λ ts. length (of_part m ts (parts_in ns))) same_triangles ∙ parts_by_number.counts m)
      (ap (λ ts. six_volume (place_in (placed built)) (of_part m ts (parts_in ns))) same_triangles ∙ parts_by_number.volumes m)))
      (solid_part bs part
      (parts_are_solid _ _ _ _ (is_taken built).border _ (range (is_taken built)) (parts_in ns) n parts_by_number.of_skin m l))

  accepted_bytes :
      counts.corners < 2 ^ 32 → counts.triangles < 2 ^ 32 → n < 2 ^ 32 → AllByRecursion (λ k. k < 2 ^ 32) ns →
      Verdict (skin_bytes (placed built) ns n) None
  accepted_bytes few_corners few_triangles few-parts short =
      accepted (placed built) ns n
      (record {
        corners_whole = omega (arith, length_placed built);
        corners_few = omega (arith, length_placed built);
        triangles_whole = omega (arith, length_given built);
        triangles_few = omega (arith, length_given built);
        parts_few = few-parts;
        coordinates_short = coordinates_short (placed built) counts.corners (length_placed built) coordinates_low;
        numbers_short = short;
      })
      (subst (λ n. AllByRecursion (Sound n) (triangles_in ns)) count (sound_in built ns same_triangles))
      (subst (EachSideOnce eqb) (sym same_triangles) numbers.closed)
      (subst₂ (λ n ts. All (RingedOnce ts) n) (sym built.corner_count ∙ count) (sym same_triangles)
      (λ c l. record { used = (numbers.occurs c).1 l; ring = numbers.ring c l }))
      (subst (λ ts. Numbered eqb ts (parts_in ns) n) (sym same_triangles) numbered_by_links)
    where
      numbers : NumbersClosed (inside bs) (size_x bs - 1) (size_y bs - 1) (size_z bs - 1)
      numbers = closed (is_taken built)

      count : counts.corners ≡ length (placed built) / 3
      count = omega (arith, length_placed built)

  -- new is what was measured of the parts, as far as there is room
  module _
      (parts : List Part) {new : List Part} {room : ℕ} (room-is : room ≡ min (length parts) n)
      (New-is : new ≡ parts_of (placed built) ns (length (take room parts))) where
    length_new : length new ≡ room
    length_new = ap length New-is ∙ length-map-range_with_len (measured (placed built) ns (count_in ns)) 0 _ ∙ simp length-take (omega arith)

    part_in_buffer :
        (m : ℕ) (other : Part) → m < n → m < length parts →
        PartIs bs (of_part m (skin_of bs) (parts_in ns)) (get_or (new ++ drop room parts) m other)
    part_in_buffer m other l h =
        subst (PartIs bs _)
        (sym (get_or_append_left new (drop room parts) other m (omega (arith, length_new)) ∙ ap (λ ps. get_or ps m other) New-is
        ∙ measured_at (placed built) ns (count_in ns) _ m other (simp length-take (omega arith))))
        (part_measured m l)

    again : take (4 * counts.triangles) (ns ++ drop (4 * counts.triangles) triangles') ≡ ns
    again = take_at ns _ _ (long ∙ length_given built)

    pub finished :
        counts.corners < 2 ^ 32 → counts.triangles < 2 ^ 32 → n < 2 ^ 32 →
        ((i : ℕ) → get_or (ns ++ drop (4 * counts.triangles) triangles') i 0 < 2 ^ 32) →
        Finished bs corners triangles work parts corners' (ns ++ drop (4 * counts.triangles) triangles') (new ++ drop room parts)
        (record { corners = counts.corners; triangles = counts.triangles; parts = n })
    finished few_corners few_triangles few-parts short =
        let triangles_are = ap triangles_in again ∙ same_triangles in
        let numbers = closed (is_taken built) in
        let skin = promised (is_taken built) corners' (corners_lie built) in
        record {
          fits = built.fits;
          corner_count = built.corner_count;
          triangle_count = built.triangle_count;
          corners_placed = built.written.places;
          triangles_numbered = triangles_are;
          triangles_beyond = drop_at ns _ _ (long ∙ length_given built) ∙ given_beyond built;
          parts_numbered = subst (λ ns. Numbered same (skin_of bs) (parts_in ns) n) (sym again) parts_by_number.of_skin;
          parts_beyond = drop-append-drop room parts new n (omega arith) length_new;
          each_side_once = subst (EachSideOnce eqb) (sym triangles_are) numbers.closed;
          three_corners = subst (AllByRecursion (ThreeCorners eqb)) (sym triangles_are) numbers.whole;
          one_ring = λ c l. subst (Ring eqb c) (sym triangles_are) (numbers.ring c (omega (arith, built.corner_count)));
          crossed_once = λ p q near.
              subst (λ count. CrossedByNumber (inside bs) (place_in corners') count p q) (sym built.corner_count) (skin.crossed p q near);
          no_two_at_one_place = λ a b h l. skin.apart a b (omega (arith, built.corner_count)) (omega (arith, built.corner_count));
          encloses = ap (six_volume (place_in corners')) triangles_are ∙ skin.encloses;
          above_zero = skin.above_zero;
          each_part = λ m other l h.
              subst (λ ns. PartIs bs (of_part m (skin_of bs) (parts_in ns)) (get_or (new ++ drop room parts) m other)) (sym again)
              (part_in_buffer m other l h);
          accepted =
              subst (λ ns. Verdict (skin_bytes (placed built) ns n) None) (sym again)
              (accepted_bytes few_corners few_triangles few-parts
              (All-from_get_or (λ k. k < 2 ^ 32) ns 0 (λ i l. subst (λ k. k < 2 ^ 32) (get_or_append_left ns _ 0 i l) (short i))));
        }
