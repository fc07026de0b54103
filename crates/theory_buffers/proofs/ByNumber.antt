-- A skin's corners and their numbers lead to each other, so what is promised of the one holds of the other. Assumes nothing.
use Rattle.std.proofs.Common.{◌≡◌, ℕ, ◌<◌, Bool, eqb, map, length, get_or, sym, refl, ap, ◌∙◌, subst, inl, inr}
use lib.ListN.{length-map}
use Rattle.std.proofs.ByRecursion.{All-weaker}
use Rattle.std.proofs.lemmas.Bool.{cases_Bool, eqb-true, eq-eqb}
use Rattle.theory.specs.Grid.{Point, pt}
use Rattle.theory.specs.Triangle.{edge, corners}
use Rattle.theory.specs.Skin.{Corner, same, skin}
use Rattle.theory.specs.Places.{Place, place, On, OfSkin, Only, Crossed}
use Rattle.theory.proofs.Same.{same_true, same_refl}
use Rattle.theory.proofs.Crossings.{corner_of}
use Rattle.theory.proofs.Rings.{parted}
use Rattle.theory.proofs.Placing.{no_two_at_one_place, crossed_once}
use Rattle.theory_numbers.specs.Numbers.{mapped, index_of, corner_list, numbered}
use Rattle.theory_numbers.proofs.Firsts.{times_at}
use Rattle.theory_numbers.proofs.Kept.{AllCorners}
use Rattle.theory_numbers.proofs.Numbered.{met_had, all_met, numbered_once}
use Rattle.theory_parts.specs.Regions.{of_part}
use Rattle.theory_volume.specs.Sizes.{most_coordinate, CoordinatesTo}
use Rattle.theory_volume.proofs.Above.{above_zero}
use Rattle.theory_volume.proofs.Enclosing.{encloses}
use Rattle.theory_volume.proofs.Sizes.{sums_fit}
use Rattle.theory_buffers.specs.ByNumber.{OnlyCorner, CrossedByNumber, Placed}
use Rattle.theory_buffers.specs.ByNumber.{SkinsByNumber, SkinsSizedByNumber, SkinsPartedByNumber}
use Rattle.theory_buffers.proofs.Renamed.{of_part_map, mapped_itself, mapped_twice, all_corners_mapped}
use Rattle.theory_buffers.proofs.Renamed.{six_volume_places, small_mapped, numbered_unmapped}

module _ (f : Point → Bool) (x y z : ℕ) where
  abbrev number : Corner → ℕ
  number c = index_of same c (corner_list f x y z)

  -- the corner with a number
  abbrev corner : ℕ → Corner
  corner n = get_or (corner_list f x y z) n (edge (pt 0 0 0) (pt 0 0 0))

  number_of_corner : (n : ℕ) → n < length (corner_list f x y z) → number (corner n) ≡ n
  number_of_corner n = (numbered_once f x y z).number_at n _

  corner_of_skin : (n : ℕ) → n < length (corner_list f x y z) → OfSkin f x y z (corner n)
  corner_of_skin n l = (met_had (corner n) (skin f x y z)).0 (times_at same same_true same_refl n _ (corner_list f x y z) l)

  -- what holds of each corner that some triangle has holds of the corners of all triangles
  each_corner : (P : Corner → Type 0) → ((c : Corner) → OfSkin f x y z c → P c) → AllCorners P (skin f x y z)
  each_corner P h =
      let ts = skin f x y z in All-weaker _ _ (λ t. All-weaker _ _ (λ c l. h c ((met_had c ts).0 l)) (corners t)) ts (all_met ts)

  numbers_undone : map (mapped corner) (numbered f x y z) ≡ skin f x y z
  numbers_undone =
      mapped_twice number corner (λ c. c) (skin f x y z) (each_corner _ (λ c. (numbered_once f x y z).corner_at c _))
      ∙ mapped_itself (skin f x y z)

  module _ (k : Corner → ℕ) (at : ℕ → Place) (placed : Placed f k x y z at) where
    place_of_number : (n : ℕ) → n < length (corner_list f x y z) → at n ≡ place k (corner n)
    place_of_number n l = ap at (sym (number_of_corner n l)) ∙ placed (corner n) (corner_of_skin n l)

    -- the triangles are at the same places
    places_kept : map (mapped at) (numbered f x y z) ≡ map (mapped (place k)) (skin f x y z)
    places_kept = mapped_twice number at (place k) (skin f x y z) (each_corner _ placed)

    only_by_number : (p q : Point) (c : Corner) → Only f x y z k p q c → OnlyCorner at (length (corner_list f x y z)) p q (number c)
    only_by_number p q c o =
        record {
          counted = (numbered_once f x y z).number_below c o.of_skin;
          lies = subst (On p q) (sym (placed c o.of_skin)) o.lies;
          only = λ n l on.
              sym (number_of_corner n l) ∙ ap number (o.only (corner n) (corner_of_skin n l) (subst (On p q) (place_of_number n l) on));
        }

    crossed_by_number : (p q : Point) → Crossed f x y z k p q → CrossedByNumber f at (length (corner_list f x y z)) p q
    crossed_by_number p q c =
        record {
          parted = λ d.
              elim (cases_Bool (f p)) [
                | inl e ↦ elim (cases_Bool (f q))
                    [ inl g ↦ absurd (d (e ∙ sym g)) | inr g ↦ (number (edge p q), only_by_number p q _ (c.leaving e g)) ]
                | inr e ↦ elim (cases_Bool (f q))
                    [ inl g ↦ (number (edge q p), only_by_number p q _ (c.entering e g)) | inr g ↦ absurd (d (e ∙ sym g)) ]
              ];
          alike = λ e n l on. c.alike e (corner n) (corner_of_skin n l) (subst (On p q) (place_of_number n l) on);
        }

pub skins_by_number : SkinsByNumber
skins_by_number f x y z border k range at placed =
    let lies = place_of_number f x y z k at placed in
    record {
      in_range = all_corners_mapped (number f x y z) _ (skin f x y z) (each_corner f x y z _ (numbered_once f x y z).number_below);
      apart = λ m n h l e.
          sym (number_of_corner f x y z m h)
          ∙ ap (number f x y z)
          (no_two_at_one_place parted f x y z border k range _ _ (corner_of_skin f x y z m h) (corner_of_skin f x y z n l)
          (sym (lies m h) ∙ e ∙ lies n l))
          ∙ number_of_corner f x y z n l;
      crossed = λ p q near. crossed_by_number f x y z k at placed p q (crossed_once parted f x y z border k range p q near);
      encloses =
          six_volume_places at (place k) (numbered f x y z) (skin f x y z) (places_kept f x y z k at placed) ∙ encloses f x y z border k range;
      above_zero = above_zero f x y z border k range;
    }

pub skins_sized_by_number : SkinsSizedByNumber
skins_sized_by_number f x y z lx ly lz k range at placed =
    let sized = sums_fit f x y z lx ly lz k range in
    record {
      coordinates = λ n l.
          subst (CoordinatesTo most_coordinate) (sym (place_of_number f x y z k at placed n l))
          (corner_of (λ c. CoordinatesTo most_coordinate (place k c)) _ (skin f x y z) sized.coordinates (corner_of_skin f x y z n l));
      small = small_mapped (number f x y z) at (place k) (skin f x y z) (each_corner f x y z _ placed) sized.each;
      count = rw length-map sized.count;
    }

pub skins_parted_by_number : SkinsPartedByNumber
skins_parted_by_number f x y z k at placed ps n parts =
    let ts = skin f x y z in
    record {
      of_skin =
          numbered_unmapped same eqb same_true same_refl eqb-true (λ n. eq-eqb n n refl) (number f x y z) (corner f x y z) ts
          (numbers_undone f x y z) ps n parts;
      counts = λ m. ap length (of_part_map _ m ts ps) ∙ length-map (of_part m ts ps) _;
      volumes = λ m.
          six_volume_places at (place k) (of_part m (numbered f x y z) ps) (of_part m ts ps)
          (sym (of_part_map (mapped at) m (numbered f x y z) ps) ∙ ap (λ us. of_part m us ps) (places_kept f x y z k at placed)
          ∙ of_part_map (mapped (place k)) m ts ps);
    }
