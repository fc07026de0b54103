use Rattle.std.proofs.Common.{refl, arith}
use Rattle.checker.proofs.Counting.{left_out_first, left_in_first, left_out_more, left_in_more, none_left_out, none_left_in}
use Rattle.checker.proofs.Tallying.{places}
use Rattle.checker.proofs.Walking.{went, ended}
use Rattle.checker.proofs.sides.Tally.clear.Goals as goal

pub loop-step-init : goal.loop-step-init
loop-step-init c =
    let t = c.args.self.now in
    let ns = t.chains.now.numbers.now in
    let a = c.around-step-items in
    rw c.into_iter-step-iterator.ensures.into_iter_gives
    (record {
      chains_are = refl;
      along = record { chains_are = a.ensures.chains; corner_is = a.ensures.corner };
      out = left_out_first ns c.args.corner a.result.at a.ensures.first t.outs.now c.requires.counts.out;
      into = left_in_first ns c.args.corner a.result.at a.ensures.first t.ins.now c.requires.counts.into;
    })

pub loop-step-preserved : goal.loop-step-preserved
loop-step-preserved c =
    let k = c.args.self.now.chains.now in
    let d = c.args.corner in
    let l = c.loop-step in
    let s = c.in-Some.step in
    let w = went k d l.step-iterator c.next.new.self s l.invariant.along c.in-Some.ensures.steps in
    let room = places l.self k l.invariant.chains_are in
    record {
      chains_are = l.invariant.chains_are;
      along = w.along;
      out = rw w.on (left_out_more k.numbers.now _ d l.step-iterator.at s w.stepped l.self.outs.now room.0 l.invariant.out);
      into = rw w.on (left_in_more k.numbers.now _ d l.step-iterator.at s w.stepped l.self.ins.now room.1 l.invariant.into);
    }

pub returns : goal.returns
returns c =
    let k = c.args.self.now.chains.now in
    let l = c.loop-step in
    let e = ended k c.args.corner l.step-iterator l.invariant.along c.in-None.ensures.steps in
    record {
      chains = l.invariant.chains_are;
      clear = (
        none_left_out k.numbers.now c.args.corner l.step-iterator.at l.self.outs.now (omega arith) (omega arith) l.invariant.out,
        none_left_in k.numbers.now c.args.corner l.step-iterator.at l.self.ins.now (omega arith) (omega arith) l.invariant.into,
      );
    }
