use Rattle.std.proofs.Common.{◌+◌, ◌/◌, sym, ap₂, ◌∙◌, subst, arith}
use Rattle.std.proofs.lemmas.List.{get_or_append_left}
use Rattle.std.proofs.lemmas.Bool.{eqb-true}
use Rattle.block.proofs.Goodness.{taken}
use Rattle.triangle.specs.Cubes.{cube_at, OfBlock}
use Rattle.triangle.proofs.Rows.{none_set}
use Rattle.triangle.proofs.Pieces.{cube_of_faces}
use Rattle.triangle.proofs.scan.Scan.row.Goals as goal

pub returns : goal.returns
returns c =
    let bs = c.args.self.now.block.bytes.now in
    let f = c.faces-faces.ensures.faces in
    record {
      row = λ x l.
          subst (λ b. OfBlock bs (cube_at x c.args.y c.args.z b))
          (sym (get_or_append_left c.loop-x.cube-items _ 0 x (omega arith) ∙ c.loop-x.invariant.bits x (omega arith)))
          (cube_of_faces bs x c.args.y c.args.z _ _ (taken _ c.args.self.now.accepted) l c.requires.0 c.requires.1 (f x (omega arith))
          (f (x + 1) (omega arith)));
    }

pub returns-then-all_zero : goal.returns-then-all_zero
returns-then-all_zero c =
    let bs = c.args.self.now.block.bytes.now in
    let f = c.faces-faces.ensures.faces in
    let zero = none_set c.faces-faces.result (eqb-true _ 0 (sym c.all_zero.ensures.value ∙ c.if-all_zero.true)) in
    record {
      row = λ x l.
          subst (λ b. OfBlock bs (cube_at x c.args.y c.args.z b)) (ap₂ (λ near far. near / 2 + far) (zero x) (zero (x + 1)))
          (cube_of_faces bs x c.args.y c.args.z _ _ (taken _ c.args.self.now.accepted) l c.requires.0 c.requires.1 (f x (omega arith))
          (f (x + 1) (omega arith)));
    }
