use Rattle.std.proofs.Common.{◌*◌, arith}
use Rattle.checker.proofs.Linking.{side_by_side}
use Rattle.checker.proofs.chains.link_triangle.Goals as goal

pub returns-clause-nexts : goal.returns-clause-nexts
returns-clause-nexts c =
    side_by_side c.args.nexts.now _ (3 * c.args.i) _ _ _ _ (simp c.corners_at.ensures at c.copy_from_slice.ensures.after) (omega arith) (omega arith)
