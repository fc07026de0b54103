use Rattle.std.proofs.Common.{refl, subst, arith}
use Rattle.checker.specs.Passes.{CountsOut, CountsIn}
use Rattle.checker.proofs.Counting.{few_sides, counts_out_first, counts_in_first, out_more, in_more}
use Rattle.checker.proofs.Tallying.{places}
use Rattle.checker.proofs.Walking.{went, ended}
use Rattle.checker.proofs.sides.Tally.count.Goals as goal

pub loop-step-init : goal.loop-step-init
loop-step-init c =
    let t = c.args.self.now in
    let ns = t.chains.now.numbers.now in
    let a = c.around-step-items in
    rw c.into_iter-step-iterator.ensures.into_iter_gives
    (record {
      chains_are = refl;
      along = record { chains_are = a.ensures.chains; corner_is = a.ensures.corner };
      out = counts_out_first ns c.args.corner a.result.at a.ensures.first t.outs.now c.requires.clear.0;
      into = counts_in_first ns c.args.corner a.result.at a.ensures.first t.ins.now c.requires.clear.1;
    })

pub loop-step-preserved : goal.loop-step-preserved
loop-step-preserved c =
    let k = c.args.self.now.chains.now in
    let d = c.args.corner in
    let l = c.loop-step in
    let s = c.in-Some.step in
    let w = went k d l.step-iterator c.next.new.self s l.invariant.along c.in-Some.ensures.steps in
    let room = places l.self k l.invariant.chains_are in
    record {
      chains_are = l.invariant.chains_are;
      along = w.along;
      out = rw w.on (out_more k.numbers.now _ d l.step-iterator.at s w.stepped l.self.outs.now room.0 l.invariant.out);
      into = rw w.on (in_more k.numbers.now _ d l.step-iterator.at s w.stepped l.self.ins.now room.1 l.invariant.into);
    }

-- no more sides than triangles, so the counts fit
pub overflow_add-self : goal.overflow_add-self
overflow_add-self c =
    let k = c.args.self.now.chains.now in
    let l = c.loop-step in
    let w = went k c.args.corner l.step-iterator c.next.new.self c.in-Some.step l.invariant.along c.in-Some.ensures.steps in
    let room = places l.self k l.invariant.chains_are in
    let b = c.in-Some.step.second in
    let below = w.stepped.second_below in
    omega (arith, l.invariant.out b (omega arith), few_sides _ _ _ k.ready c.args.corner l.step-iterator.at w.there c.args.corner b, k.ready.few)

pub overflow_add-self-in-loop-step : goal.overflow_add-self-in-loop-step
overflow_add-self-in-loop-step c =
    let k = c.args.self.now.chains.now in
    let l = c.loop-step in
    let w = went k c.args.corner l.step-iterator c.next.new.self c.in-Some.step l.invariant.along c.in-Some.ensures.steps in
    let room = places l.self k l.invariant.chains_are in
    let b = c.in-Some.step.third in
    let below = w.stepped.third_below in
    omega (arith, l.invariant.into b (omega arith), few_sides _ _ _ k.ready c.args.corner l.step-iterator.at w.there b c.args.corner, k.ready.few)

pub returns : goal.returns
returns c =
    let k = c.args.self.now.chains.now in
    let l = c.loop-step in
    let e = ended k c.args.corner l.step-iterator l.invariant.along c.in-None.ensures.steps in
    record {
      chains = l.invariant.chains_are;
      counts = record {
        out = subst (λ j. CountsOut k.numbers.now c.args.corner j l.self.outs.now) e l.invariant.out;
        into = subst (λ j. CountsIn k.numbers.now c.args.corner j l.self.ins.now) e l.invariant.into;
      };
    }
