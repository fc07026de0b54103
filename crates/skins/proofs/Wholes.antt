-- A finished skin in buffers that hold it and no more is whole, and can be written. Assumes nothing.
use Rattle.std.proofs.Common.{◌≡◌, ℕ, ◌*◌, ◌<◌, ◌≤◌, ◌++◌, List, map, length, get_or, take, None, nat_eq, pos, sym, ap, ◌∙◌, subst, subst₂, append-nil, arith, take_all, get_or-take, length-take-le}
use lib.ListN.{length-map}
use Rattle.std.specs.List.{flat_map, AllByRecursion}
use Rattle.std.proofs.lemmas.List.{drop_all}
use Rattle.theory.specs.Skin.{same}
use Rattle.theory.specs.Closed.{EachSideOnce, ThreeCorners, Ring}
use Rattle.theory.specs.Places.{place}
use Rattle.theory_parts.specs.Buffer.{triangles_in, parts_in}
use Rattle.theory_parts.specs.Parts.{Numbered}
use Rattle.theory_parts.specs.Regions.{of_part}
use Rattle.theory_parts.proofs.Numbering.{only_numbering}
use Rattle.theory_volume.specs.Volume.{six_volume}
use Rattle.block.specs.Scan.{inside}
use Rattle.corner.specs.Fraction.{fraction_in}
use Rattle.corner.specs.Buffer.{coordinates}
use Rattle.triangle.specs.Progress.{skin_of, corners_of}
use Rattle.volume.specs.Buffer.{place_in}
use Rattle.volume.specs.declared.Part.{Part}
use Rattle.mesh.specs.Written.{skin_bytes}
use Rattle.checker.specs.Verdict.{Verdict}
use Rattle.whole.specs.Finished.{numbered_of, inside_of, PartIs, Finished}
use Rattle.whole.specs.declared.Made.{Made}
use Rattle.skins.specs.Whole.{Writable, Whole, Exact}
use Rattle.skins.specs.declared.Buffers.{Buffers}
use Rattle.skins.proofs.Short.{coordinates_short}

module _
    {bs corners triangles work corners' triangles' : List ℕ} {parts parts' : List Part} {r : Made} {w : ℕ}
    (finished : Finished bs corners triangles work parts corners' triangles' parts' r)
    (before : Exact bs (length corners) (length triangles) (length work)) (after : Exact bs (length corners') (length triangles') w) where
  corners_are : corners' ≡ flat_map coordinates (map (place (fraction_in bs)) (corners_of bs))
  corners_are =
      finished.corners_placed
      ∙ ap (λ rest. flat_map coordinates (map (place (fraction_in bs)) (corners_of bs)) ++ rest)
      (drop_all _ corners (omega (arith, before.for_corners, length-map (corners_of bs) (place (fraction_in bs)))))
      ∙ append-nil _

  corner_count : length corners' ≡ 3 * r.corners
  corner_count = omega (arith, after.for_corners, finished.corner_count)

  triangle_count : length triangles' ≡ 4 * r.triangles
  triangle_count = omega (arith, after.for_triangles, finished.triangle_count)

  pub writable : Writable corners' triangles' r
  writable =
      record {
        corner_count = corner_count;
        triangle_count = triangle_count;
        coordinates_short = λ i. subst (λ cs. get_or cs i 0 < 65536) (sym corners_are) (coordinates_short bs after.taken i);
      }

  pub whole : r.parts ≤ length parts → length parts' ≡ length parts → Whole bs corners' triangles' (take r.parts parts') r
  whole enough long =
      let corners_all : take (3 * r.corners) corners' ≡ corners' = take_all _ corners' (omega (arith, corner_count)) in
      let triangles_all : take (4 * r.triangles) triangles' ≡ triangles' = take_all _ triangles' (omega (arith, triangle_count)) in
      record {
        taken = after.taken;
        corners_placed = corners_are;
        triangles_numbered = subst (λ ns. triangles_in ns ≡ numbered_of bs) triangles_all finished.triangles_numbered;
        parts_numbered = subst (λ ns. Numbered same (skin_of bs) (parts_in ns) r.parts) triangles_all finished.parts_numbered;
        corner_count = corner_count;
        triangle_count = triangle_count;
        part_count = length-take-le r.parts parts' (omega arith);
        each_side_once = subst (λ ns. EachSideOnce nat_eq (triangles_in ns)) triangles_all finished.each_side_once;
        three_corners = subst (λ ns. AllByRecursion (ThreeCorners nat_eq) (triangles_in ns)) triangles_all finished.three_corners;
        one_ring = λ c l. subst (λ ns. Ring nat_eq c (triangles_in ns)) triangles_all (finished.one_ring c l);
        crossed_once = finished.crossed_once;
        no_two_at_one_place = finished.no_two_at_one_place;
        encloses =
            subst (λ ns. six_volume (place_in corners') (triangles_in ns) ≡ pos (inside_of bs (inside bs) (fraction_in bs))) triangles_all finished.encloses;
        above_zero = finished.above_zero;
        each_part = λ m other l.
            subst (PartIs bs _) (sym (get_or-take r.parts parts' m other l))
            (subst (λ ns. PartIs bs (of_part m (skin_of bs) (parts_in ns)) (get_or parts' m other)) triangles_all
            (finished.each_part m other l (omega arith)));
        accepted = subst₂ (λ cs ns. Verdict (skin_bytes cs ns r.parts) None) corners_all triangles_all finished.accepted;
      }

-- buffers, parts and counts hold a whole skin, once parts that are not there are left out
abbrev pub Holds : List ℕ → Buffers → List Part → Made → Type 0
Holds bs b parts r =
    Writable b.corners.items b.triangles.items r × Whole bs b.corners.items b.triangles.items (take r.parts parts) r

abbrev pub FinishedIn : Buffers → List Part → Buffers → List Part → Made → Type 0
FinishedIn b parts b' parts' r =
    Finished b.bytes.now b.corners.items b.triangles.items b.work.items parts b'.corners.items b'.triangles.items parts' r

pub holds :
    (bs : List ℕ) (b b' : Buffers) (parts parts' : List Part) (r : Made) → b.bytes.now ≡ bs → b'.bytes.now ≡ b.bytes.now →
    FinishedIn b parts b' parts' r → r.parts ≤ length parts → length parts' ≡ length parts → Holds bs b' parts' r
holds bs b b' parts parts' r e f finished enough long =
    let after : Exact b.bytes.now (length b'.corners.items) (length b'.triangles.items) (length b'.work.items) =
    subst (λ bs. Exact bs (length b'.corners.items) (length b'.triangles.items) (length b'.work.items)) f b'.exact in (
      writable finished b.exact after,
      subst (λ bs. Whole bs b'.corners.items b'.triangles.items (take r.parts parts') r) e (whole finished b.exact after enough long),
    )

-- a skin made once more has as many parts as it had
pub as_many :
    (b b' b'' : Buffers) (parts parts' parts'' parts''' : List Part) (r s : Made) → b'.bytes.now ≡ b.bytes.now →
    FinishedIn b parts b' parts' r → FinishedIn b' parts'' b'' parts''' s → s.parts ≡ r.parts
as_many b b' b'' parts parts' parts'' parts''' r s e first second =
    let again : Numbered same (skin_of b.bytes.now) (parts_in (take (4 * s.triangles) b''.triangles.items)) s.parts =
    subst (λ bs. Numbered same (skin_of bs) (parts_in (take (4 * s.triangles) b''.triangles.items)) s.parts) e second.parts_numbered in
    (only_numbering same _ _ _ _ _ again first.parts_numbered).1

pub held_at :
    {b b' : Buffers} {parts parts' : List Part} {r s : Made} (bs : List ℕ) → b ≡ b' → parts ≡ parts' → r ≡ s → Holds bs b' parts' s → Holds bs b parts r
held_at {b} {b'} {parts} {parts'} {r} {s} bs e f g h =
    subst (λ b. Holds bs b parts r) (sym e) (subst₂ (λ parts r. Holds bs b' parts r) (sym f) (sym g) h)
