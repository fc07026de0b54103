-- What stands in the buffers once a skin is built; its parts can then be numbered. Assumes nothing.
use Rattle.std.proofs.Common.{◌≡◌, ℕ, ◌-◌, ◌*◌, ◌≤◌, List, [], length, take, drop, None, sym, ap, ◌∙◌, subst₂, mul_assoc, mul-le-mul, arith}
use Rattle.std.specs.List.{AllByRecursion}
use Rattle.std.proofs.lemmas.List.{append-nil, take_at, drop_at, length-map}
use Rattle.theory.specs.Skin.{same}
use Rattle.theory_numbers.specs.Numbers.{renumber}
use Rattle.theory_parts.specs.Buffer.{triangles_in}
use Rattle.block.specs.Scan.{size_x, size_y, size_z, refusal_of, Taken}
use Rattle.block.proofs.Faults.{neither}
use Rattle.block.proofs.Goodness.{taken}
use Rattle.triangle.specs.Progress.{skin_of, corners_of}
use Rattle.triangle.specs.Built.{short_buffer, Built}
use Rattle.triangle.specs.declared.Counts.{Counts}
use Rattle.part.specs.Taking.{Takes}
use Rattle.checker.specs.Verdict.{Sound}
use Rattle.checker.proofs.Compared.{sound_in_range}
use Rattle.whole.specs.Finished.{numbered_of}
use Rattle.whole.proofs.Front.{triangles_of_quads, triangle_of_each}
use Rattle.whole.proofs.Skins.{corner_numbers, triangle_numbers, length_corner_numbers, length_triangle_numbers, Lies, front_lies, sound}

cubes_at_most_points : (a b c : ℕ) → (a - 1) * (b - 1) * (c - 1) ≤ a * (b * c)
cubes_at_most_points a b c =
    let fewer : (n : ℕ) → n - 1 ≤ n = λ n. omega arith in
    omega (arith, mul_assoc (a - 1) (b - 1) (c - 1), mul-le-mul (fewer a) (mul-le-mul (fewer b) (fewer c)))

module _
    {bs corners triangles work corners' triangles' : List ℕ} {counts : Counts}
    (built : Built bs corners triangles work corners' triangles' counts) where
  -- the coordinates and the numbers that were written
  abbrev pub placed : List ℕ
  placed = take (3 * counts.corners) corners'

  abbrev pub given : List ℕ
  given = take (4 * counts.triangles) triangles'

  fits : (refusal_of bs ≡ None) × (short_buffer bs (length corners) (length triangles) (length work) ≡ None)
  fits = (neither (refusal_of bs) _).0 built.fits

  pub is_taken : Taken bs
  is_taken = taken bs fits.0

  enough_work : 6 * (size_x bs * (size_y bs * size_z bs)) ≤ length work
  enough_work = let h = fits.1 in grind arith

  corners_long : length (corner_numbers bs) ≡ 3 * counts.corners
  corners_long = length_corner_numbers bs ∙ ap (λ n. 3 * n) (sym built.corner_count)

  triangles_long : length (triangle_numbers bs) ≡ 4 * counts.triangles
  triangles_long = length_triangle_numbers bs ∙ ap (λ n. 4 * n) (sym built.triangle_count)

  placed_are : placed ≡ corner_numbers bs
  placed_are = ap (take (3 * counts.corners)) built.written.places ∙ take_at (corner_numbers bs) _ _ corners_long

  given_are : given ≡ triangle_numbers bs
  given_are = ap (take (4 * counts.triangles)) built.written.numbers ∙ take_at (triangle_numbers bs) _ _ triangles_long

  pub length_placed : length placed ≡ 3 * counts.corners
  length_placed = ap length placed_are ∙ corners_long

  pub length_given : length given ≡ 4 * counts.triangles
  length_given = ap length given_are ∙ triangles_long

  pub given_beyond : drop (4 * counts.triangles) triangles' ≡ drop (4 * counts.triangles) triangles
  given_beyond =
      ap (drop (4 * counts.triangles)) built.written.numbers ∙ drop_at (triangle_numbers bs) _ _ triangles_long
      ∙ ap (λ n. drop (4 * n) triangles) (length-map (skin_of bs) (renumber same (corners_of bs)) ∙ sym built.triangle_count)

  pub placed_lies : Lies bs placed
  placed_lies = front_lies bs placed [] (placed_are ∙ sym (append-nil (corner_numbers bs)))

  pub corners_lie : Lies bs corners'
  corners_lie = front_lies bs corners' _ built.written.places

  pub given_triangles : triangles_in given ≡ numbered_of bs
  given_triangles = ap triangles_in given_are ∙ triangles_of_quads (numbered_of bs)

  pub sound_in : (ns : List ℕ) → triangles_in ns ≡ numbered_of bs → AllByRecursion (Sound counts.corners) (triangles_in ns)
  sound_in ns e = subst₂ (λ n ts. AllByRecursion (Sound n) ts) (sym built.corner_count) (sym e) (sound is_taken placed placed_lies)

  pub takes : (work' : List ℕ) → length work ≤ length work' → Takes given counts.corners work'
  takes work' longer =
      record {
        whole = omega (arith, length_given);
        in_range =
            sound_in_range given _ (triangle_of_each (Sound counts.corners) given (sound_in given given_triangles)) (omega (arith, length_given));
        enough = omega (arith, built.at_most_six, cubes_at_most_points (size_x bs) (size_y bs) (size_z bs), enough_work);
      }
