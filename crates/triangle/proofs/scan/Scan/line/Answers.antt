use Rattle.std.proofs.Common.{◌+◌, ◌-◌, ◌*◌, ◌≤◌, length, take, drop, sym, subst₂, rules}
use Rattle.block.proofs.Goodness.{taken}
use Rattle.triangle.specs.Rows.{Line}
use Rattle.triangle.proofs.Rows.{line_end, line_of}
use Rattle.triangle.proofs.scan.Scan.line.Goals as goal

pub slice_bounds-result-end : goal.slice_bounds-result-end
slice_bounds-result-end c =
    let bs = c.args.self.now.block.bytes.now in
    let e : 4 + c.size_x-count.result * (c.args.y + c.size_y.result * c.args.z) + c.size_x-count.result ≤ length bs =
    subst₂ (λ n m. 4 + n * (c.args.y + m * c.args.z) + n ≤ length bs) (sym c.size_x-count.ensures.value) (sym c.size_y.ensures.value)
    (line_end bs (taken _ c.args.self.now.accepted) c.args.y c.args.z c.requires.0 c.requires.1) in
    search rules

pub returns : goal.returns
returns c =
    let bs = c.args.self.now.block.bytes.now in
    let y = c.args.y in
    let z = c.args.z in
    record {
      line =
          subst₂ (λ n m. Line bs y z (take (4 + n * (y + m * z) + n - (4 + n * (y + m * z))) (drop (4 + n * (y + m * z)) bs)))
          (sym c.size_x-count.ensures.value) (sym c.size_y.ensures.value) (line_of bs (taken _ c.args.self.now.accepted) y z c.requires.0 c.requires.1);
    }
