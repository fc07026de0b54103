use Rattle.triangle.proofs.Cubes.{new_crosses}
use Rattle.triangle.proofs.write.Out.put_new.Goals as goal

pub put_corner-requires : goal.put_corner-requires
put_corner-requires c = (new_crosses _ c.args.at.cube c.args.step c.requires).0 c.if-at-lt128.true

pub put_corner-requires-else-at-lt128 : goal.put_corner-requires-else-at-lt128
put_corner-requires-else-at-lt128 c = (new_crosses _ c.args.at.cube c.args.step c.requires).1 c.if-at-lt128.false
