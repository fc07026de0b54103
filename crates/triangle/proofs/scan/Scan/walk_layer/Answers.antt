use Rattle.std.proofs.Common.{◌≡◌, ◌-◌, sym, subst, add-one, arith}
use Rattle.theory.specs.Grid.{pt}
use Rattle.block.specs.Scan.{size_y}
use Rattle.triangle.specs.Passes.{GoesOn}
use Rattle.triangle.proofs.Walks.{goes_then, layer_done}
use Rattle.triangle.proofs.scan.Scan.walk_layer.Goals as goal

pub walk_row-requires : goal.walk_row-requires
walk_row-requires g c = let r = c.requires.ready in record { within = (omega arith, omega arith); ready = (r.0, c.loop-y.invariant r.0 r.1) }

pub loop-y-preserved : goal.loop-y-preserved
loop-y-preserved g c =
    subst (λ n. GoesOn g.P.Pass.has c.args.self.now.block.bytes.now (pt 0 0 c.args.z) (pt 0 n c.args.z) c.args.pass.now c.walk_row.new.pass) (sym (add-one c.loop-y.y))
    (goes_then g.P.Pass.has _ _ (pt 0 c.loop-y.y c.args.z) _ _ _ _ c.loop-y.invariant c.walk_row.ensures.goes)

pub returns : goal.returns
returns g c =
    let bs = c.args.self.now.block.bytes.now in
    let all : c.loop-y.y ≡ size_y bs - 1 = omega arith in
    record {
      goes =
          layer_done g.P.Pass.has bs c.args.z c.args.pass.now c.loop-y.pass
          (subst (λ n. GoesOn g.P.Pass.has bs (pt 0 0 c.args.z) (pt 0 n c.args.z) c.args.pass.now c.loop-y.pass) all c.loop-y.invariant);
    }
