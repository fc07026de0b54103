use Rattle.std.proofs.Common.{sym, ap, ◌∙◌}
use Rattle.triangle.specs.Cases.{new_steps}
use Rattle.triangle.specs.Output.{met_by}
use Rattle.triangle.specs.Progress.{Written}
use Rattle.triangle.proofs.Pieces.{plain_empty}
use Rattle.triangle.proofs.Walks.{plain_passed}
use Rattle.triangle.proofs.Steps.{cube_goes}
use Rattle.triangle.proofs.write.OutPass.visit.Goals as goal

pub returns-then-is_plain : goal.returns-then-is_plain
returns-then-is_plain c =
    let bs = c.args.at.scan.now.block.bytes.now in
    let k = c.args.at.cube in
    let h = c.args.at.of_block in
    record { goes = plain_passed Written bs k c.args.self.now h (plain_empty bs k h (sym c.is_plain.ensures.value ∙ c.if-is_plain.true)) }

pub returns : goal.returns
returns c =
    let bs = c.args.at.scan.now.block.bytes.now in
    let k = c.args.at.cube in
    record {
      goes =
          cube_goes bs k c.args.at.of_block c.args.self.now c.meet_new.new.self c.write_triangles.new.self c.take_known.new.self.numbers
          c.take_known.ensures.long c.take_known.ensures.known
          (c.meet_new.ensures.met ∙ ap (met_by bs k (new_steps k.bits)) c.take_known.ensures.after) c.write_triangles.ensures.after;
    }
