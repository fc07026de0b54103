use Rattle.std.proofs.Common.{◌<◌, refl, arith}
use Rattle.mesh.proofs.Ranges.{every_from_get_or}
use Rattle.mesh.proofs.Back.{written_back}
use Rattle.mesh.proofs.Skin.read.Goals as goal

pub returns : goal.returns
returns c =
    let bs = c.args.bytes.now in
    record { cases = (refl, written_back bs (every_from_get_or (λ b. b < 256) bs (λ i. omega (arith, c.type_inv.bytes i))) c.in_ok-read.ensures.cases.verdict) }
