use Rattle.std.proofs.Common.{refl}
use Rattle.std.proofs.lemmas.Result.{err_from_is_err_and}
use Rattle.checker.specs.Verdict.Rule.{passed}
use Rattle.checker.proofs.Verdicts.{closed_matched, matched_closed}
use Rattle.checker.proofs.Deciding.{all_fine, named_first}
use Rattle.checker.proofs.check_closed.Goals as goal

pub returns-in_default : goal.returns-in_default
returns-in_default c =
    let closed = c.in_default.ensures.closed refl in
    record { verdict = passed (closed_matched c.args.chains.now.numbers.now closed) (passed (all_fine _ _ _ (c.in_default.ensures.found closed)) refl) }

pub returns-in_err-check_sides : goal.returns-in_err-check_sides
returns-in_err-check_sides c =
    let p = err_from_is_err_and c.from_residual.result c.from_residual.ensures.1 in
    rw (p.1, p.2) (record { verdict = named_first _ _ _ _ _ c.in_err-check_sides.ensures.found })

pub returns : goal.returns
returns c =
    let matched = all_fine _ _ _ c.in_ok-check_sides.ensures.found in
    record { verdict = passed matched (c.in-Err.ensures.found (matched_closed c.args.chains.now.numbers.now matched)) }
