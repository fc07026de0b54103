use Rattle.checker.proofs.Verdicts.{one_verdict, one_answer}
use Rattle.checker.proofs.verdict_is_one.Goals as goal

pub returns : goal.returns
returns c = record { verdicts = one_verdict; answers = one_answer }
