-- Both products are at most 2 ^ 32. Assumes nothing.
use Rattle.std.proofs.Common.{◌^◌, ◌≤◌, nat_abs, sym, subst, arith}
use Rattle.theory_volume.proofs.Steps.{crossed_size}
use Rattle.volume.proofs.Words.{crossed_kept}
use Rattle.volume.proofs.crossed.Goals as goal

pub returns : goal.returns
returns c =
    let is = crossed_kept c.args.e c.args.g c.args.i c.args.j (omega arith) (omega arith) (omega arith) (omega arith) in
    record {
      value = is;
      bound = subst (λ v. nat_abs v ≤ 2 ^ 32) (sym is) (crossed_size c.args.e c.args.g c.args.i c.args.j (2 ^ 16) (omega arith) (omega arith) (omega arith) (omega arith));
    }
