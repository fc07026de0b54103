use Rattle.std.proofs.Common.{◌≡◌, ◌-◌, sym, subst, add-one, arith}
use Rattle.theory.specs.Grid.{pt}
use Rattle.block.specs.Scan.{size_z}
use Rattle.triangle.specs.Passes.{GoesOn}
use Rattle.triangle.proofs.Walks.{goes_then, begun, all_done}
use Rattle.triangle.proofs.scan.Scan.walk.Goals as goal

pub walk_layer-requires : goal.walk_layer-requires
walk_layer-requires g c =
    let bs = c.args.self.now.block.bytes.now in
    let s = c.args.pass.now in
    record { within = omega arith; ready = (s, c.loop-z.invariant s (begun g.P.Pass.has bs s c.requires.begun)) }

pub loop-z-preserved : goal.loop-z-preserved
loop-z-preserved g c =
    subst (λ n. GoesOn g.P.Pass.has c.args.self.now.block.bytes.now (pt 0 0 0) (pt 0 0 n) c.args.pass.now c.walk_layer.new.pass) (sym (add-one c.loop-z.z))
    (goes_then g.P.Pass.has _ _ (pt 0 0 c.loop-z.z) _ _ _ _ c.loop-z.invariant c.walk_layer.ensures.goes)

pub returns : goal.returns
returns g c =
    let bs = c.args.self.now.block.bytes.now in
    let s = c.args.pass.now in
    let all : c.loop-z.z ≡ size_z bs - 1 = omega arith in
    record {
      done =
          all_done g.P.Pass.has bs s c.loop-z.pass
          (subst (λ n. GoesOn g.P.Pass.has bs (pt 0 0 0) (pt 0 0 n) s c.loop-z.pass) all c.loop-z.invariant) c.requires.begun;
    }
