use Rattle.std.proofs.Common.{◌≡◌, ◌<◌, ◌≤◌, length, sym, refl, ◌∙◌, subst, ⊎_elim, rules, arith}
use Rattle.std.proofs.lemmas.Bool.{cases_lt}
use Rattle.theory_parts.specs.Buffer.{triangle_at, count_in, triangles_in}
use Rattle.checker.specs.declared.chains.Chains.{Chains}
use Rattle.checker.specs.Verdict.{Matched}
use Rattle.checker.specs.Passes.{Counts, MatchedFrom, Narrowed}
use Rattle.checker.specs.Verdict.Rule.{fault, passed}
use Rattle.checker.proofs.Counting.{matched_all}
use Rattle.checker.proofs.sides.check_sides.Goals as goal

pub loop-corner-init : goal.loop-corner-init
loop-corner-init c = record {
  chains_are = refl;
  out = search rules;
  into = search rules;
  most = omega arith;
  fault = λ l m. omega arith;
  fine = λ d l. absurd (omega arith);
}

pub count-requires : goal.count-requires
count-requires c =
    let i = c.loop-corner.invariant in
    record {
      corner = subst (λ (x : Chains). c.loop-corner.corner < length x.heads.now) (sym i.chains_are) (omega arith);
      clear = (i.out, i.into);
    }

pub fault_from-worst-requires : goal.fault_from-worst-requires
fault_from-worst-requires c =
    let i = c.loop-corner.invariant in
    let e = c.count.ensures.chains in
    record {
      corner = subst (λ (x : Chains). c.loop-corner.corner < length x.heads.now) (sym (e ∙ i.chains_are)) (omega arith);
      counts = subst (λ (x : Chains). Counts x.numbers.now c.loop-corner.corner c.count.new.self.outs.now c.count.new.self.ins.now) (sym e) c.count.ensures.counts;
      most = subst (λ (x : Chains). c.loop-corner.worst ≤ count_in x.numbers.now) (sym (e ∙ i.chains_are)) i.most;
    }

pub clear-requires : goal.clear-requires
clear-requires c =
    let i = c.loop-corner.invariant in
    let e = c.count.ensures.chains in
    record {
      corner = subst (λ (x : Chains). c.loop-corner.corner < length x.heads.now) (sym (e ∙ i.chains_are)) (omega arith);
      counts = subst (λ (x : Chains). Counts x.numbers.now c.loop-corner.corner c.count.new.self.outs.now c.count.new.self.ins.now) (sym e) c.count.ensures.counts;
    }

pub loop-corner-preserved : goal.loop-corner-preserved
loop-corner-preserved c =
    let ns = c.args.chains.now.numbers.now in
    let i = c.loop-corner.invariant in
    let e = c.count.ensures.chains ∙ i.chains_are in
    let n = subst (λ (x : Chains). Narrowed x.numbers.now c.loop-corner.corner c.loop-corner.worst c.fault_from-worst.result) e c.fault_from-worst.ensures.narrowed in
    record {
      chains_are = c.clear.ensures.chains ∙ e;
      out = c.clear.ensures.clear.0;
      into = c.clear.ensures.clear.1;
      most = omega (arith, n.most);
      fault = λ l m. ⊎_elim (λ less. n.fault less m)
          (λ more. let e : c.fault_from-worst.result ≡ c.loop-corner.worst = omega (arith, n.most) in
          i.fault (omega arith) (subst (λ w. Matched (triangles_in ns) (triangle_at ns w)) e m))
          (cases_lt c.fault_from-worst.result c.loop-corner.worst);
      fine = λ d h k g. ⊎_elim (λ less. i.fine d less k (omega (arith, n.most)))
          (λ more. let e : c.loop-corner.corner ≡ d = omega arith in subst (λ x. MatchedFrom (triangles_in ns) x (triangle_at ns k)) e (n.fine k g))
          (cases_lt d c.loop-corner.corner);
    }

pub returns-then-worst-count : goal.returns-then-worst-count
returns-then-worst-count c =
    let k = c.args.chains.now in
    let i = c.loop-corner.invariant in
    record {
      found =
          fault
          (record {
            below = omega arith;
            before = matched_all k.numbers.now k.heads.now k.nexts.now k.ready c.loop-corner.worst i.most (λ d h. i.fine d (omega arith));
            fails = i.fault (omega arith);
          });
    }

pub returns : goal.returns
returns c =
    let k = c.args.chains.now in
    let i = c.loop-corner.invariant in
    record { found = passed (λ j l. matched_all k.numbers.now k.heads.now k.nexts.now k.ready c.loop-corner.worst i.most (λ d h. i.fine d (omega arith)) j (omega arith)) refl }
