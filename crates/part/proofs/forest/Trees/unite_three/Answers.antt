-- Corners are hung to the least parent; what that leaves is united with it. Assumes nothing.
use Rattle.std.proofs.Common.{arith}
use Rattle.std.proofs.lemmas.Bool.{and_parts, eqb-true}
use Rattle.part.proofs.Connection.{alike_trans, alike_plus, plus_none, three_steps, star_alike}
use Rattle.part.proofs.Trees.{least_near}
use Rattle.part.proofs.forest.Trees.unite_three.Goals as goal

pub returns-then-x-least-clause-alike : goal.returns-then-x-least-clause-alike
returns-then-x-least-clause-alike c =
    let m = c.least_parent-least.result in
    let all = and_parts _ _ c.if-x-least.true in
    let two = and_parts _ _ all.0 in
    let hung = three_steps _ _ _ _ c.args.a c.args.b c.args.c m _ _ _
    c.hang-x.ensures.alike c.hang-y.ensures.alike c.hang-z.ensures.alike in
    let none = alike_trans (plus_none _ _ m (eqb-true c.hang-z.result m all.1))
    (alike_trans (plus_none _ _ m (eqb-true c.hang-y.result m two.1)) (plus_none _ _ m (eqb-true c.hang-x.result m two.0))) in
    alike_trans none (alike_trans hung
    (star_alike _ _ _ _ m (least_near _ _ _ _ m c.least_parent-least.ensures.least (omega arith) (omega arith) (omega arith))))

pub returns-clause-alike : goal.returns-clause-alike
returns-clause-alike c =
    let m = c.least_parent-least.result in
    let hung = three_steps _ _ _ _ c.args.a c.args.b c.args.c m _ _ _
    c.hang-x.ensures.alike c.hang-y.ensures.alike c.hang-z.ensures.alike in
    let united = alike_trans c.unite-3.ensures.alike
    (alike_plus _ _ _ m (alike_trans c.unite-2.ensures.alike (alike_plus _ _ _ m c.unite.ensures.alike))) in
    alike_trans united (alike_trans hung
    (star_alike _ _ _ _ m (least_near _ _ _ _ m c.least_parent-least.ensures.least (omega arith) (omega arith) (omega arith))))
