use Rattle.std.proofs.Common.{◌≡◌, ◌+◌, rules, slice_index, ◌∙◌, arith, length-set, get_or-set_other, get_or-set_same, below_more}
use Rattle.mesh.proofs.bytes_at.Goals as goal

pub loop-k-preserved : goal.loop-k-preserved
loop-k-preserved g c =
    let there : c.unwrap_or.result ≡ slice_index c.args.bytes.now (c.args.at + c.loop-k.k) = search rules in
    let long = c.loop-k.invariant.long in
    record {
      long = length-set c.loop-k.byte-items c.loop-k.k _ ∙ long;
      read =
          below_more _ _
          (λ j h. get_or-set_other c.loop-k.byte-items c.loop-k.k j _ 0 (omega arith) ∙ c.loop-k.invariant.read j h)
          (get_or-set_same c.loop-k.byte-items c.loop-k.k _ 0 (omega arith) ∙ there);
    }
