-- What was counted is what the skin has, so the lengths that are compared give the verdict, and the room. Assumes nothing.
use Rattle.std.proofs.Common.{◌≡◌, ℕ, ◌-◌, ◌*◌, ◌/◌, ◌<◌, ◌≤◌, List, length, Some, None, sym, ap, ◌∙◌, subst, arith}
use Rattle.std.proofs.lemmas.Bool.{lt-ltb, le-ltb, cond-true, cond-false}
use Rattle.theory_numbers.proofs.Six.{at_most_six}
use Rattle.block.specs.Scan.{size_x, size_y, size_z, inside, first_of, Taken}
use Rattle.block.specs.declared.refusal.Refusal.TheVariants.{ShortBuffer}
use Rattle.triangle.specs.Progress.{skin_of, corners_of, Room}
use Rattle.triangle.specs.Counting.{Counted}
use Rattle.triangle.specs.Built.{short_buffer, verdict}
use Rattle.triangle.specs.declared.Counts.{Counts}
use Rattle.triangle.proofs.Fronts.{cubes_few, skin_few}

-- the block that was read has the bytes that were given
module _ (given bs : List ℕ) (read : (given ≡ bs) × Taken bs) (r : Counts) (all : Counted given r r (skin_of given)) where
  taken : Taken bs
  taken = read.1

  counted : Counted bs r r (skin_of bs)
  counted = subst (λ bs. Counted bs r r (skin_of bs)) read.0 all

  pub corner_count : r.corners ≡ length (corners_of bs)
  corner_count = counted.corners

  pub triangle_count : r.triangles ≡ length (skin_of bs)
  triangle_count = counted.triangles

  pub few : r.corners ≤ 6 * ((size_x bs - 1) * (size_y bs - 1) * (size_z bs - 1))
  few = subst (λ n. n ≤ 6 * ((size_x bs - 1) * (size_y bs - 1) * (size_z bs - 1))) (sym corner_count) (at_most_six (inside bs) (size_x bs - 1) (size_y bs - 1) (size_z bs - 1) taken.border)

  module _ (corners triangles work : ℕ) where
    verdict_is : verdict bs corners triangles work ≡ short_buffer bs corners triangles work
    verdict_is = ap (λ o. first_of o (short_buffer bs corners triangles work)) taken.verdict

    pub short_corners : corners / 3 < r.corners → verdict bs corners triangles work ≡ Some (ShortBuffer (corners / 3))
    short_corners l = verdict_is ∙ cond-true _ _ _ (lt-ltb (corners / 3) _ (omega (arith, corner_count)))

    pub short_triangles : r.corners ≤ corners / 3 → triangles / 4 < r.triangles → verdict bs corners triangles work ≡ Some (ShortBuffer (triangles / 4))
    short_triangles a l =
        verdict_is ∙ cond-false _ _ _ (le-ltb (corners / 3) (length (corners_of bs)) (omega (arith, corner_count)))
        ∙ cond-true _ _ _ (lt-ltb (triangles / 4) (length (skin_of bs)) (omega (arith, triangle_count)))

    pub short_work :
        r.corners ≤ corners / 3 → r.triangles ≤ triangles / 4 → work < 6 * (size_x given * (size_y given * size_z given)) →
        verdict bs corners triangles work ≡ Some (ShortBuffer 0)
    short_work a b l =
        verdict_is ∙ cond-false _ _ _ (le-ltb (corners / 3) (length (corners_of bs)) (omega (arith, corner_count)))
        ∙ cond-false _ _ _ (le-ltb (triangles / 4) (length (skin_of bs)) (omega (arith, triangle_count)))
        ∙ cond-true _ _ _ (lt-ltb work (6 * (size_x bs * (size_y bs * size_z bs))) (subst (λ bs. work < 6 * (size_x bs * (size_y bs * size_z bs))) read.0 l))

    module _ (a : r.corners ≤ corners / 3) (b : r.triangles ≤ triangles / 4) (c : 6 * (size_x given * (size_y given * size_z given)) ≤ work) where
      long_work : 6 * (size_x bs * (size_y bs * size_z bs)) ≤ work
      long_work = subst (λ bs. 6 * (size_x bs * (size_y bs * size_z bs)) ≤ work) read.0 c

      pub long_enough : verdict bs corners triangles work ≡ None
      long_enough =
          verdict_is ∙ cond-false _ _ _ (le-ltb (corners / 3) (length (corners_of bs)) (omega (arith, corner_count)))
          ∙ cond-false _ _ _ (le-ltb (triangles / 4) (length (skin_of bs)) (omega (arith, triangle_count)))
          ∙ cond-false _ _ _ (le-ltb work (6 * (size_x bs * (size_y bs * size_z bs))) long_work)

      pub ready : Room given corners triangles work
      ready = subst (λ bs. Room bs corners triangles work) (sym read.0)
          record {
            for_corners = omega (arith, corner_count);
            for_triangles = omega (arith, triangle_count);
            for_work = long_work;
            corner_numbers = omega (arith, corner_count, few, cubes_few bs taken);
            triangle_numbers = omega (arith, skin_few bs taken);
          }
