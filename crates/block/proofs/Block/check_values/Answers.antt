use Rattle.std.proofs.Common.{rules, ◌*◌, sym, arith}
use Rattle.theory.specs.Grid.{pt}
use Rattle.block.specs.Scan.{size_x, size_y, size_z, byte_of, layer}
use Rattle.block.proofs.Faults.{faults_none_more, faults_some, layer_length}
use Rattle.block.proofs.Block.check_values.Goals as goal

pub returns-in_err-check_layer : goal.returns-in_err-check_layer
returns-in_err-check_layer c =
    let bs = c.args.self.now.bytes.now in
    let first = faults_some bs (size_x bs * size_y bs) c.loop-z.z (layer (size_x bs) (size_y bs)) 4 (byte_of bs (pt 0 0 c.loop-z.z)) (layer_length (size_x bs) (size_y bs)) (omega arith) c.in_err-check_layer.field-0.0 (size_z bs) c.loop-z.invariant (sym c.in_err-check_layer.ensures.value) (omega arith) in
    search rules

pub loop-z-preserved : goal.loop-z-preserved
loop-z-preserved c =
    let bs = c.args.self.now.bytes.now in
    faults_none_more bs (size_x bs * size_y bs) c.loop-z.z (layer (size_x bs) (size_y bs)) 4 (byte_of bs (pt 0 0 c.loop-z.z)) (layer_length (size_x bs) (size_y bs)) (omega arith) c.loop-z.invariant (sym c.in_ok-check_layer.ensures.value)
