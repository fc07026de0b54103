use Rattle.std.proofs.Common.{sym, refl, ◌∙◌}
use Rattle.triangle.proofs.Steps.{nothing_written}
use Rattle.triangle.proofs.scan.Scan.write.Goals as goal

pub returns : goal.returns
returns c =
    let w = c.walk.ensures.done in
    record {
      written =
          record {
            places = c.corners-1.given.1.1 (sym w.holds.own_corners) ∙ w.holds.corners;
            numbers = c.triangles-1.given.1.1 (sym w.holds.own_triangles) ∙ w.holds.triangles;
          };
    }

pub walk-requires : goal.walk-requires
walk-requires c = record { begun = nothing_written c.args.self.now.block.bytes.now _ c.requires.room refl refl }
