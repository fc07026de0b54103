use Rattle.std.proofs.Common.{◌≡◌, ◌<◌, true, ◌↔◌, eqb, length, sym, refl, ◌∙◌, subst, rules, arith, below_more}
use Rattle.theory.specs.Closed.{EachSideOnce}
use Rattle.theory_parts.specs.Buffer.{triangles_in}
use Rattle.checker.specs.declared.chains.Chains.{Chains}
use Rattle.checker.specs.Verdict.{RingedOnce}
use Rattle.checker.specs.Verdict.Rule.{fault, passed}
use Rattle.checker.specs.Passes.{Returned}
use Rattle.checker.proofs.Deciding.{some_none}
use Rattle.checker.proofs.Verdicts.{matched_closed}
use Rattle.checker.proofs.Around.{returned_matched}
use Rattle.checker.proofs.rings.check_rings.Goals as goal

pub loop-corner-init : goal.loop-corner-init
loop-corner-init c = record { chains_are = refl; ringed = λ closed j l. absurd (omega arith); led_back = λ j l. absurd (omega arith); blank = search rules }

pub is_ringed-requires : goal.is_ringed-requires
is_ringed-requires c =
    let i = c.loop-corner.invariant in
    record { corner = subst (λ (x : Chains). c.loop-corner.corner < length x.heads.now) (sym i.chains_are) (omega arith); blank = i.blank }

pub loop-corner-preserved : goal.loop-corner-preserved
loop-corner-preserved c =
    let i = c.loop-corner.invariant in
    let d = c.loop-corner.corner in
    let r = c.is_ringed.ensures in
    let t = c.if-not-is_ringed.false in
    let value = subst (λ (x : Chains). EachSideOnce eqb (triangles_in x.numbers.now) → (c.is_ringed.result ≡ true) ↔ RingedOnce (triangles_in x.numbers.now) d) i.chains_are r.value in
    let back = subst (λ (x : Chains). Returned (triangles_in x.numbers.now) (length x.heads.now) d) i.chains_are (r.returned t) in
    record {
      chains_are = r.chains ∙ i.chains_are;
      ringed = λ closed. below_more _ _ (i.ringed closed) ((value closed).0 t);
      led_back = below_more _ _ i.led_back back;
      blank = r.blank t;
    }

pub returns : goal.returns
returns c =
    let ns = c.args.chains.now.numbers.now in
    let i = c.loop-corner.invariant in
    let matched = returned_matched ns _ _ c.args.chains.now.ready (λ j l. i.led_back j (omega arith)) in
    record { closed = λ _. matched_closed ns matched; found = λ closed. passed (λ j l. i.ringed closed j (omega arith)) refl }

pub returns-then-not-is_ringed : goal.returns-then-not-is_ringed
returns-then-not-is_ringed c =
    let i = c.loop-corner.invariant in
    let d = c.loop-corner.corner in
    let value = subst (λ (x : Chains). EachSideOnce eqb (triangles_in x.numbers.now) → (c.is_ringed.result ≡ true) ↔ RingedOnce (triangles_in x.numbers.now) d) i.chains_are c.is_ringed.ensures.value in
    record {
      closed = λ z. absurd (some_none z);
      found = λ closed. fault (record { below = omega arith; before = i.ringed closed; fails = λ r. absurd (let z = (value closed).1 r in cc) });
    }
