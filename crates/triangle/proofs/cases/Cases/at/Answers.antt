use Rattle.std.proofs.Common.{ap, get_or, ◌∙◌, arith}
use Rattle.std.proofs.lemmas.List.FromFn.{get_or-map-range_with_len}
use Rattle.triangle.specs.Cases.{case_at}
use Rattle.triangle.proofs.cases.Cases.at.Goals as goal

pub returns : goal.returns
returns c =
    let b = c.args.bits in
    record { value = ap (λ cs. get_or cs b c.index-self-bits.result) c.args.self.now.all ∙ get_or-map-range_with_len case_at 0 256 b b c.index-self-bits.result (omega arith) (omega arith) }
