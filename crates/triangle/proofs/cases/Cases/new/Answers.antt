use Rattle.std.proofs.Common.{rules}
use Rattle.triangle.proofs.Adding.{all_at}
use Rattle.triangle.proofs.cases.Cases.new.Goals as goal

pub invariant_of-result : goal.invariant_of-result
invariant_of-result c =
    let made = c.from_fn.ensures.items in
    record { all = all_at c.from_fn.result made.long (λ b d l. let call = made.at b d l in search rules) }
