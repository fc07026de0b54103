use Rattle.std.proofs.Common.{◌≡◌, ◌+◌, ◌*◌, ◌/◌, length, get_or, [], refl, ap, ◌∙◌, arith}
use Rattle.theory_parts.proofs.Chunks.{chunk_at}
use Rattle.checker.proofs.Counting.{stepped}
use Rattle.checker.proofs.chains.Chains.step.Goals as goal

pub returns : goal.returns
returns c =
    let k = c.args.self.now in
    let i = c.args.i in
    let ts = c.as_chunks.result.0.now in
    let seen = c.seen_from-seen in
    let e = seen.ensures.value in
    let room = k.ready.room in
    let next : get_or (get_or ts i []) seen.result.place 0 ≡ get_or k.nexts.now (3 * i + seen.result.place) 0 =
    ap (λ us. get_or (get_or us i []) seen.result.place 0) c.as_chunks.ensures.front ∙ chunk_at 3 (length k.nexts.now / 3) k.nexts.now i seen.result.place [] (omega arith) seen.ensures.near in
    record {
      stepped = stepped k.numbers.now k.heads.now k.nexts.now k.ready c.args.corner i c.requires.0 c.requires.1 _ refl (ap (λ s. s.second) e) (ap (λ s. s.third) e) (next ∙ ap (λ s. get_or k.nexts.now (3 * i + s.place) 0) e);
    }
