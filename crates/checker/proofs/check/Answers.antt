use Rattle.std.proofs.Common.{◌≡◌, ℕ, List, length, Some, None, Result, Ok, Err, subst, arith}
use Rattle.std.specs.Result.{MatchResult, result_err}
use Rattle.std.proofs.lemmas.Result.{err_from_is_err_and}
use Rattle.block.specs.declared.refusal.Refusal.{Refusal}
use Rattle.mesh.specs.Bytes.{length_fault}
use Rattle.checker.specs.Verdict.{Good, RulesVerdict, Enough, Answer}
use Rattle.checker.specs.Verdict.Verdict.{right_length}
use Rattle.checker.specs.Verdict.Answer.{wrong_length, too_little, told}
use Rattle.checker.proofs.Verdicts.{good_if_accepted, good_if_enough}
use Rattle.checker.proofs.check.Goals as goal

pub returns-in_err-skin : goal.returns-in_err-skin
returns-in_err-skin c =
    let p = err_from_is_err_and c.from_residual.result c.from_residual.ensures.1 in
    let a = wrong_length c.in_err-skin.ensures.cases in
    rw (p.1, p.2) (record { answer = a; good = good_if_enough c.args.bytes.now (length c.args.work.now) _ a })

pub returns-then-work-work_needed : goal.returns-then-work-work_needed
returns-then-work-work_needed c =
    let read = c.in_ok-skin.ensures.cases in
    let a = too_little read.1.verdict (subst (λ bs. Enough bs (length c.args.work.now) → ⊥) read.0 (omega arith)) in
    record { answer = a; good = good_if_enough c.args.bytes.now (length c.args.work.now) _ a }

-- the rules' verdict on bytes that are taken, with enough work, is the answer
answered :
    (bs : List ℕ) (room : ℕ) (r : Result (Unit {0}) Refusal) → length_fault bs ≡ None → Enough bs room → RulesVerdict bs (result_err r) →
    MatchResult r (λ _. Answer bs room None) (λ e. Answer bs room (Some e)) × MatchResult r (λ _. Good bs) (λ e. Good bs → Enough bs room → ⊥)
answered bs room (Ok x) taken enough v =
    let a = told taken enough (right_length taken v) in
    (a, good_if_accepted bs room a)
answered bs room (Err e) taken enough v =
    let a = told taken enough (right_length taken v) in
    (a, good_if_enough bs room e a)

pub returns : goal.returns
returns c =
    let read = c.in_ok-skin.ensures.cases in
    let room = length c.args.work.now in
    let r = c.check_rules.result in
    let a = answered c.args.bytes.now room r read.1.verdict (subst (λ bs. Enough bs room) read.0 (omega arith)) (subst (λ bs. RulesVerdict bs (result_err r)) read.0 c.check_rules.ensures.verdict) in
    record { answer = a.0; good = a.1 }
