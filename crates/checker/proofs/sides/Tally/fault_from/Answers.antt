use Rattle.std.proofs.Common.{sym, subst, arith}
use Rattle.theory_parts.specs.Buffer.{triangle_at, triangles_in}
use Rattle.checker.specs.Verdict.{Matched, All}
use Rattle.checker.specs.Passes.{MatchedFrom}
use Rattle.checker.proofs.Counting.{fine_first, fine_more, ones_match, match_ones}
use Rattle.checker.proofs.Walking.{went}
use Rattle.checker.proofs.sides.Tally.fault_from.Goals as goal
use Rattle.checker.proofs.sides.Tally.fault_from.Goals.{then-self-step-ne1-via-then-self-step-ne1, then-self-step-ne1-via-else-self-step-ne1+then-self-step-ne1-2}

pub loop-step-init : goal.loop-step-init
loop-step-init c =
    let a = c.around-step-items in
    rw c.into_iter-step-iterator.ensures.into_iter_gives
    (record {
      along = record { chains_are = a.ensures.chains; corner_is = a.ensures.corner };
      fine = fine_first c.args.self.now.chains.now.numbers.now c.args.corner a.result.at a.ensures.first;
    })

pub loop-step-preserved : goal.loop-step-preserved
loop-step-preserved c =
    let k = c.args.self.now.chains.now in
    let d = c.args.corner in
    let l = c.loop-step in
    let s = c.in-Some.step in
    let w = went k d l.step-iterator c.next.new.self s l.invariant.along c.in-Some.ensures.steps in
    let below = w.stepped.second_below in
    record {
      along = w.along;
      fine =
          rw w.on
          (fine_more k.numbers.now _ d l.step-iterator.at s w.stepped l.invariant.fine
          (ones_match k.numbers.now _ d l.step-iterator.at s w.stepped c.args.self.now.outs.now c.args.self.now.ins.now c.requires.counts (omega arith) (omega arith) c.if-self-step-ne1.false c.if-self-step-ne1-2.false));
    }

pub returns-then-self-step-ne1 : goal.returns-then-self-step-ne1
returns-then-self-step-ne1 c =
    let k = c.args.self.now.chains.now in
    let ns = k.numbers.now in
    let d = c.args.corner in
    let l = c.loop-step in
    let s = c.in-Some.step in
    let w = went k d l.step-iterator c.next.new.self s l.invariant.along c.in-Some.ensures.steps in
    let below = w.stepped.second_below in
    record {
      narrowed = record {
        most = omega arith;
        fault = λ less m.
            let here = subst (λ i. Matched (triangles_in ns) (triangle_at ns i)) w.stepped.at_is m in
            let r = match_ones ns _ d l.step-iterator.at s w.stepped c.args.self.now.outs.now c.args.self.now.ins.now c.requires.counts (omega arith) (omega arith) here in
            elim c.then-self-step-ne1.branch [
              | then-self-step-ne1-via-then-self-step-ne1 v ↦ v.if-self-step-ne1.true r.0
              | then-self-step-ne1-via-else-self-step-ne1+then-self-step-ne1-2 v ↦ v.if-self-step-ne1-2.true r.1
            ];
        fine = subst (All (λ i. MatchedFrom (triangles_in ns) d (triangle_at ns i))) (sym w.stepped.at_is) l.invariant.fine;
      };
    }
