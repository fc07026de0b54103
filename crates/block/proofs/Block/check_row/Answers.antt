use Rattle.std.proofs.Common.{rules, ◌+◌, [], ◌∷◌, sym, refl, ◌∙◌, arith}
use Rattle.theory.specs.Grid.{pt}
use Rattle.block.specs.Scan.{size_x, byte_of}
use Rattle.block.proofs.Faults.{faults_none_more, faults_some, faults_alone}
use Rattle.block.proofs.Block.check_row.Goals as goal

pub returns-in_err-check_point : goal.returns-in_err-check_point
returns-in_err-check_point c =
    let bs = c.args.self.now.bytes.now in
    let first = faults_some bs 1 c.loop-x.x (λ x. pt x c.args.y c.args.z ∷ []) (byte_of bs (pt 0 c.args.y c.args.z)) (c.place-first.result + c.loop-x.x) (λ k. refl) (omega arith) c.in_err-check_point.field-0.0 (size_x bs) c.loop-x.invariant (faults_alone bs (pt c.loop-x.x c.args.y c.args.z) (c.place-first.result + c.loop-x.x) ∙ sym c.in_err-check_point.ensures.value) (omega arith) in
    search rules

pub loop-x-preserved : goal.loop-x-preserved
loop-x-preserved c =
    let bs = c.args.self.now.bytes.now in
    faults_none_more bs 1 c.loop-x.x (λ x. pt x c.args.y c.args.z ∷ []) (byte_of bs (pt 0 c.args.y c.args.z)) (c.place-first.result + c.loop-x.x) (λ k. refl) (omega arith) c.loop-x.invariant (faults_alone bs (pt c.loop-x.x c.args.y c.args.z) (c.place-first.result + c.loop-x.x) ∙ sym c.in_ok-check_point.ensures.value)
