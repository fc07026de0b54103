use Rattle.std.proofs.Common.{◌∙◌, sym, arith, length-set}
use Rattle.checker.proofs.Following.{place_of_each}
use Rattle.checker.proofs.Rounds.{next_is, led_more, steps_more, cleared_more}
use Rattle.checker.proofs.rings.Rings.goes_round.Goals as goal

pub loop-preserved : goal.loop-preserved
loop-preserved c =
    let follow = c.args.self.now.follow.now in
    let s = c.args.start in
    let l = c.loop in
    let now = l.self.follow.now in
    let i = c.loop.invariant in
    let some = c.if-next.false in
    let is = next_is follow now s l.counter l.here i.led_here i.cleared some in
    let long = place_of_each l.self c.args.self.now.chains.now i.chains_are ∙ sym c.args.self.now.fit in
    record {
      chains_are = i.chains_are;
      most = omega arith;
      inside = simp length-set (omega (arith, is, long, c.requires.within.0 l.here (omega arith) (λ z. some (is ∙ z))));
      led_here = led_more follow now s l.counter l.here i.led_here i.cleared some;
      steps = steps_more follow now s l.counter l.here i.led_here i.cleared some i.steps;
      cleared = cleared_more follow now s l.counter l.here i.led_here i.cleared some i.inside;
    }
