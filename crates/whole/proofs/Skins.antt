-- What is promised of the skin of a block that was taken, by the numbers and places that stand in buffers. Assumes nothing.
use Rattle.std.proofs.Common.{◌≡◌, ℕ, ◌-◌, ◌*◌, ◌<◌, eqb, List, [], ◌∷◌, ◌++◌, map, length, ap, ◌∙◌, arith}
use lib.ListN.{length-map}
use Rattle.std.specs.List.{flat_map, AllByRecursion}
use Rattle.std.proofs.lemmas.List.{get_or-map}
use Rattle.theory.specs.Grid.{pt}
use Rattle.theory.specs.Triangle.{Tri, corners}
use Rattle.theory.specs.Skin.{same}
use Rattle.theory.specs.Closed.{ThreeCorners}
use Rattle.theory.specs.Places.{place, InRange}
use Rattle.theory_numbers.specs.Numbers.{index_of, NumbersClosed}
use Rattle.theory_numbers.proofs.Numbered.{numbered_once, numbers_closed}
use Rattle.theory_buffers.specs.ByNumber.{Placed, ByNumber, SizedByNumber}
use Rattle.theory_buffers.proofs.ByNumber.{skins_by_number, skins_sized_by_number}
use Rattle.block.specs.Scan.{size_x, size_y, size_z, inside, Taken}
use Rattle.corner.specs.Fraction.{fraction_in}
use Rattle.corner.specs.Buffer.{coordinates}
use Rattle.corner.proofs.Fractions.{fractions_in_range}
use Rattle.triangle.specs.Output.{quad}
use Rattle.triangle.specs.Progress.{skin_of, corners_of}
use Rattle.triangle.proofs.Buffers.{length_chunks}
use Rattle.triangle.proofs.Growth.{length_coordinates, length_quad}
use Rattle.volume.specs.Buffer.{place_in}
use Rattle.checker.specs.Verdict.{Sound}
use Rattle.whole.specs.Finished.{numbered_of}
use Rattle.whole.proofs.Front.{place_at_front}

-- the coordinates of a block's corners, and the numbers of its triangles, one after the other
abbrev pub corner_numbers : List ℕ → List ℕ
corner_numbers bs = flat_map coordinates (map (place (fraction_in bs)) (corners_of bs))

abbrev pub triangle_numbers : List ℕ → List ℕ
triangle_numbers bs = flat_map quad (numbered_of bs)

pub length_corner_numbers : (bs : List ℕ) → length (corner_numbers bs) ≡ 3 * length (corners_of bs)
length_corner_numbers bs =
    length_chunks coordinates 3 length_coordinates (map (place (fraction_in bs)) (corners_of bs)) ∙ ap (λ n. 3 * n) (length-map (corners_of bs) _)

pub length_triangle_numbers : (bs : List ℕ) → length (triangle_numbers bs) ≡ 4 * length (skin_of bs)
length_triangle_numbers bs = length_chunks quad 4 length_quad (numbered_of bs) ∙ ap (λ n. 4 * n) (length-map (skin_of bs) _)

-- the corners of a block lie where a buffer says
abbrev pub Lies : List ℕ → List ℕ → Type 0
Lies bs cs = Placed (inside bs) (fraction_in bs) (size_x bs - 1) (size_y bs - 1) (size_z bs - 1) (place_in cs)

-- whatever stands behind their coordinates
pub front_lies : (bs cs more : List ℕ) → cs ≡ corner_numbers bs ++ more → Lies bs cs
front_lies bs cs more e c of_skin =
    let once = numbered_once (inside bs) (size_x bs - 1) (size_y bs - 1) (size_z bs - 1) in
    let number = index_of same c (corners_of bs) in
    let below = once.number_below c of_skin in
    ap (λ cs. place_in cs number) e
    ∙ place_at_front (map (place (fraction_in bs)) (corners_of bs)) more number (pt 0 0 0) (rw length-map below)
    ∙ get_or-map (place (fraction_in bs)) (corners_of bs) number c (pt 0 0 0) below
    ∙ ap (place (fraction_in bs)) (once.corner_at c c of_skin)

sound_both :
    (n : ℕ) (ts : List (Tri ℕ)) → AllByRecursion (λ t. AllByRecursion (λ c. c < n) (corners t)) ts → AllByRecursion (ThreeCorners eqb) ts → AllByRecursion (Sound n) ts
sound_both n [] in_range three = tt
sound_both n (t ∷ ts) in_range three =
    (record { in_range = in_range.0; whole = three.0 }, sound_both n ts in_range.1 three.1)

module _ {bs : List ℕ} (taken : Taken bs) where
  pub range : InRange (inside bs) (fraction_in bs)
  range = fractions_in_range bs taken

  pub closed : NumbersClosed (inside bs) (size_x bs - 1) (size_y bs - 1) (size_z bs - 1)
  closed = numbers_closed _ _ _ _ taken.border

  module _ (cs : List ℕ) (lies : Lies bs cs) where
    pub promised : ByNumber (inside bs) (fraction_in bs) (size_x bs - 1) (size_y bs - 1) (size_z bs - 1) (place_in cs)
    promised = skins_by_number _ _ _ _ taken.border _ range _ lies

    pub sized : SizedByNumber (inside bs) (fraction_in bs) (size_x bs - 1) (size_y bs - 1) (size_z bs - 1) (place_in cs)
    sized =
        skins_sized_by_number _ _ _ _ (omega (arith, taken.good.x_size)) (omega (arith, taken.good.y_size))
        (omega (arith, taken.good.z_size)) _ range _ lies

    pub sound : AllByRecursion (Sound (length (corners_of bs))) (numbered_of bs)
    sound = sound_both (length (corners_of bs)) (numbered_of bs) promised.in_range closed.whole
