use Rattle.std.proofs.Common.{◌≡◌, ◌-◌, sym, subst, add-one, arith}
use Rattle.std.proofs.lemmas.List.{length-take}
use Rattle.theory.specs.Grid.{pt}
use Rattle.block.specs.Scan.{size_x}
use Rattle.triangle.specs.Passes.{GoesOn}
use Rattle.triangle.proofs.Walks.{goes_then, row_passed, row_done}
use Rattle.triangle.proofs.scan.Scan.walk_row.Goals as goal

pub returns-in_default : goal.returns-in_default
returns-in_default g c =
    let bs = c.args.self.now.block.bytes.now in
    let s = c.args.pass.now in
    record { goes = row_done g.P.Pass.has bs c.args.y c.args.z s s (row_passed g.P.Pass.has bs c.args.y c.args.z (size_x bs - 1) s c.in_default.ensures.row (omega arith)) }

pub visit-requires : goal.visit-requires
visit-requires g c = let r = c.requires.ready in record { ready = (r.0, c.loop-x.invariant r.0 r.1) }

pub loop-x-preserved : goal.loop-x-preserved
loop-x-preserved g c =
    let bs = c.args.self.now.block.bytes.now in
    let x = c.loop-x.x in
    subst (λ n. GoesOn g.P.Pass.has bs (pt 0 c.args.y c.args.z) (pt n c.args.y c.args.z) c.args.pass.now c.visit.new.self) (sym (add-one x))
    (goes_then g.P.Pass.has bs _ (pt x c.args.y c.args.z) _ _ _ _ c.loop-x.invariant c.visit.ensures.goes)

pub returns : goal.returns
returns g c =
    let bs = c.args.self.now.block.bytes.now in
    let all : c.loop-x.x ≡ size_x bs - 1 = omega (arith, length-take (c.size_x.result - 1) c.in-Some.row) in
    record {
      goes =
          row_done g.P.Pass.has bs c.args.y c.args.z c.args.pass.now c.loop-x.pass
          (subst (λ n. GoesOn g.P.Pass.has bs (pt 0 c.args.y c.args.z) (pt n c.args.y c.args.z) c.args.pass.now c.loop-x.pass) all c.loop-x.invariant);
    }
