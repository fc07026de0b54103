use Rattle.std.proofs.Common.{◌+◌, eqb, refl, sym, ap, ◌∙◌, subst, arith}
use Rattle.theory.specs.Triangle.{has}
use Rattle.checker.specs.Passes.{before, Joined}
use Rattle.checker.proofs.Linking.{next_before, before_all}
use Rattle.checker.proofs.Around.{around_few, around_more, met_twice, joined_first, joined_more}
use Rattle.checker.proofs.Following.{place_of_each}
use Rattle.checker.proofs.Walking.{went, ended}
use Rattle.checker.proofs.rings.Rings.join_neighbours.Goals as goal

pub loop-step-init : goal.loop-step-init
loop-step-init c =
    let r = c.args.self.now in
    let k = r.chains.now in
    let d = c.args.corner in
    let a = c.around-step-items in
    rw c.into_iter-step-iterator.ensures.into_iter_gives
    (record {
      chains_are = refl;
      along = record { chains_are = a.ensures.chains; corner_is = a.ensures.corner };
      joined = joined_first k.numbers.now _ _ k.ready d a.result.at r.follow.now a.ensures.first c.requires.blank;
      many = sym (next_before k.numbers.now d 0 a.result.at (has eqb d) (λ _ z. z) a.ensures.first);
    })

pub overflow_add-around : goal.overflow_add-around
overflow_add-around c =
    let ready = c.args.self.now.chains.now.ready in
    let l = c.loop-step in
    omega (arith, l.invariant.many, around_few _ _ _ ready c.args.corner l.step-iterator.at, ready.few)

pub loop-step-preserved : goal.loop-step-preserved
loop-step-preserved c =
    let k = c.args.self.now.chains.now in
    let d = c.args.corner in
    let l = c.loop-step in
    let s = c.in-Some.step in
    let i = l.step-iterator.at in
    let w = went k d l.step-iterator c.next.new.self s l.invariant.along c.in-Some.ensures.steps in
    let room = place_of_each l.self k l.invariant.chains_are in
    record {
      chains_are = l.invariant.chains_are;
      along = w.along;
      joined = rw w.on (joined_more k.numbers.now _ _ k.ready d i w.there w.here s w.stepped l.self.follow.now (omega arith) (omega arith) c.if-self-step.false l.invariant.joined);
      many = rw w.on (ap (λ n. n + 1) l.invariant.many ∙ sym (around_more k.numbers.now _ _ k.ready d i w.there w.here s w.stepped));
    }

pub returns : goal.returns
returns c =
    let k = c.args.self.now.chains.now in
    let ns = k.numbers.now in
    let d = c.args.corner in
    let l = c.loop-step in
    let e = ended k d l.step-iterator l.invariant.along c.in-None.ensures.steps in
    record {
      chains = l.invariant.chains_are;
      cases = record {
        joined = subst (λ j. Joined ns d j l.self.follow.now) e l.invariant.joined;
        many = l.invariant.many ∙ ap (λ j. before ns j (has eqb d)) e ∙ before_all ns (has eqb d);
      };
    }

pub returns-then-self-step : goal.returns-then-self-step
returns-then-self-step c =
    let k = c.args.self.now.chains.now in
    let l = c.loop-step in
    let w = went k c.args.corner l.step-iterator c.next.new.self c.in-Some.step l.invariant.along c.in-Some.ensures.steps in
    let room = place_of_each l.self k l.invariant.chains_are in
    record {
      chains = l.invariant.chains_are;
      cases = met_twice _ _ _ k.ready c.args.corner l.step-iterator.at w.there w.here c.in-Some.step w.stepped l.self.follow.now (omega arith) c.if-self-step.true l.invariant.joined;
    }
