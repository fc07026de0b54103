use Rattle.std.proofs.Common.{◌+◌, ◌<◌, ◌≢◌, length, ◌∙◌, arith, length-set, get_or-set_other, get_or-set_same, below_more}
use Rattle.std.proofs.lemmas.List.{get_or_append_left}
use Rattle.block.specs.Scan.{size_x, inside}
use Rattle.block.proofs.Goodness.{taken}
use Rattle.triangle.proofs.Rows.{inside_line, face_of}
use Rattle.triangle.proofs.scan.Scan.faces.Goals as goal

pub loop-x-preserved : goal.loop-x-preserved
loop-x-preserved c =
    let bs = c.args.self.now.block.bytes.now in
    let x = c.loop-x.x in
    let y = c.args.y in
    let z = c.args.z in
    let t = c.threshold-t.ensures.value in
    let here : x < size_x bs = omega arith in
    let long : x < length c.loop-x.face-items = omega arith in
    let a = inside_line bs (taken _ c.args.self.now.accepted) y z (omega arith) (omega arith) c.threshold-t.result x c.line-a.result.now t here c.line-a.ensures.line in
    let b = inside_line bs (taken _ c.args.self.now.accepted) (y + 1) z (omega arith) (omega arith) c.threshold-t.result x c.line-b.result.now t here c.line-b.ensures.line in
    let d = inside_line bs (taken _ c.args.self.now.accepted) y (z + 1) (omega arith) (omega arith) c.threshold-t.result x c.line-c.result.now t here c.line-c.ensures.line in
    let e = inside_line bs (taken _ c.args.self.now.accepted) (y + 1) (z + 1) (omega arith) (omega arith) c.threshold-t.result x c.line-d.result.now t here c.line-d.ensures.line in
    record {
      long = length-set _ _ _ ∙ c.loop-x.invariant.long;
      faces =
          below_more _ _
          (λ k h. let ne : k ≢ x = omega arith in rw get_or-set_other (c.loop-x.invariant.faces k h))
          (rw get_or-set_same (face_of (inside bs) x y z _ _ _ _ a b d e));
    }

pub returns : goal.returns
returns c = record { faces = λ x l. get_or_append_left c.loop-x.face-items _ 0 x (omega arith) ∙ c.loop-x.invariant.faces x (omega arith) }
