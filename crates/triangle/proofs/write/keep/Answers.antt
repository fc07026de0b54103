use Rattle.std.proofs.Common.{sym}
use lib.Seq.{set_out}
use Rattle.triangle.proofs.write.keep.Goals as goal

pub returns-else-slot-work : goal.returns-else-slot-work
returns-else-slot-work c = record { after = sym (set_out c.args.work.now c.args.slot c.args.number c.if-slot-work.false) }
