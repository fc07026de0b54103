use Rattle.std.proofs.Common.{rules, sym, arith}
use Rattle.theory.specs.Grid.{pt}
use Rattle.block.specs.Scan.{size_x, size_y, byte_of, row}
use Rattle.block.proofs.Faults.{faults_none_more, faults_some, row_length}
use Rattle.block.proofs.Block.check_layer.Goals as goal

pub returns-in_err-check_row : goal.returns-in_err-check_row
returns-in_err-check_row c =
    let bs = c.args.self.now.bytes.now in
    let first = faults_some bs (size_x bs) c.loop-y.y (λ y. row (size_x bs) y c.args.z) (byte_of bs (pt 0 0 c.args.z)) (byte_of bs (pt 0 c.loop-y.y c.args.z)) (λ y. row_length (size_x bs) y c.args.z) (omega arith) c.in_err-check_row.field-0.0 (size_y bs) c.loop-y.invariant (sym c.in_err-check_row.ensures.value) (omega arith) in
    search rules

pub loop-y-preserved : goal.loop-y-preserved
loop-y-preserved c =
    let bs = c.args.self.now.bytes.now in
    faults_none_more bs (size_x bs) c.loop-y.y (λ y. row (size_x bs) y c.args.z) (byte_of bs (pt 0 0 c.args.z)) (byte_of bs (pt 0 c.loop-y.y c.args.z)) (λ y. row_length (size_x bs) y c.args.z) (omega arith) c.loop-y.invariant (sym c.in_ok-check_row.ensures.value)
