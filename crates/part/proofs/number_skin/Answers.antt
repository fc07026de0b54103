-- Corners are numbered, and their numbers written; those that are not in turn are put in turn. Assumes nothing.
use Rattle.std.proofs.Common.{◌≡◌, length, ◌∙◌, arith, length-take}
use Rattle.part.proofs.Written.{triangles_same, by_links}
use Rattle.part.proofs.number_skin.Goals as goal

pub returns-in-Some : goal.returns-in-Some
returns-in-Some c =
    let ns = c.args.triangles.now in
    let long : length c.number_corners.new.numbers ≡ c.args.corners =
    omega (arith, simp length-take at c.number_corners.auto.numbers, c.requires.enough) in
    record {
      written = record {
        taken = c.requires;
        same_corners = triangles_same ns _ (omega arith) c.write_numbers.ensures.same;
        numbered = by_links ns _ _ _ (omega arith) (omega arith) (λ i h k. omega (arith, c.requires.in_range i h k)) c.number_corners.ensures.told
            c.write_numbers.ensures.written (λ i j h k. (λ e. e, λ e. e)) _ (c.write_numbers.ensures.turn _ c.in-Some.is);
      };
    }

pub returns-in-None : goal.returns-in-None
returns-in-None c =
    let ns = c.args.triangles.now in
    let long : length c.number_corners.new.numbers ≡ c.args.corners =
    omega (arith, simp length-take at c.number_corners.auto.numbers, c.requires.enough) in
    record {
      written = record {
        taken = c.requires;
        same_corners = triangles_same ns _ (omega arith) (λ i h. c.give_numbers.ensures.same i h ∙ c.write_numbers.ensures.same i h);
        numbered = by_links ns _ _ _ (omega arith) (omega arith) (λ i h k. omega (arith, c.requires.in_range i h k)) c.number_corners.ensures.told
            c.write_numbers.ensures.written c.give_numbers.ensures.alike _ c.give_numbers.ensures.turn;
      };
    }
