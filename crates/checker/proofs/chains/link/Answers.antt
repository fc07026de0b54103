use Rattle.std.proofs.Common.{◌-◌, sym, subst, subst₂, arith}
use Rattle.theory_parts.specs.Buffer.{triangle_at}
use Rattle.checker.specs.Verdict.{Sound}
use Rattle.checker.specs.Chained.{Chained}
use Rattle.checker.proofs.Linking.{chained_before}
use Rattle.checker.proofs.chains.link.Goals as goal

pub loop-i-preserved : goal.loop-i-preserved
loop-i-preserved c = (
  omega arith,
  subst₂ (λ h n. Chained c.args.numbers.now h n (c.loop-i.i - 1)) (sym c.link_triangle.ensures.heads) (sym c.link_triangle.ensures.nexts)
      (chained_before c.args.numbers.now c.loop-i.heads c.loop-i.nexts (c.loop-i.i - 1) (omega arith) (omega arith)
      (subst (λ n. Sound n (triangle_at c.args.numbers.now (c.loop-i.i - 1))) (omega arith) (c.requires.sound (c.loop-i.i - 1) (omega arith)))
      (subst (Chained c.args.numbers.now c.loop-i.heads c.loop-i.nexts) (omega arith) c.loop-i.invariant.1)),
)
