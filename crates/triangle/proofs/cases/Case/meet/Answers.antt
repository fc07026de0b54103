use Rattle.std.proofs.Common.{◌-◌, ◌||◌, eqb, ltb, List, ℕ, sym, ap, ◌∙◌}
use Rattle.std.proofs.lemmas.Bool.{cond-true, cond-false, le-ltb}
use Rattle.theory.specs.Triangle.{times}
use Rattle.triangle.specs.declared.cases.Case.{Case}
use Rattle.triangle.proofs.Adding.{contained}
use Rattle.triangle.proofs.cases.Case.meet.Goals as goal

pub returns-then-not-contains : goal.returns-then-not-contains
returns-then-not-contains c =
    let k = c.args.self.now in
    let step = c.args.code - 56 in
    let ends = le-ltb c.args.code 56 c.if-code-lt56.false in
    let new = ap (λ ss. ltb 0 (times eqb step ss)) (sym c.as_slice.ensures.items) ∙ contained _ step _ c.contains.ensures.cases ∙ c.if-not-contains.true in
    let with : List ℕ → Case = λ ss. record { triangles = k.triangles; steps = ss } in
    record { after = ap with c.push.ensures.after ∙ sym (cond-false _ _ _ (λ i. ends i || new i)) }

pub returns-else-not-contains : goal.returns-else-not-contains
returns-else-not-contains c =
    let k = c.args.self.now in
    let step = c.args.code - 56 in
    let ends = le-ltb c.args.code 56 c.if-code-lt56.false in
    let known = ap (λ ss. ltb 0 (times eqb step ss)) (sym c.as_slice.ensures.items) ∙ contained _ step _ c.contains.ensures.cases ∙ c.if-not-contains.false in
    record { after = sym (cond-true _ _ _ (λ i. ends i || known i)) }
