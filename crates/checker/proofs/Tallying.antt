-- A tally has a place for each corner. Assumes nothing.
use Rattle.std.proofs.Common.{◌≡◌, length, subst}
use Rattle.checker.specs.declared.chains.Chains.{Chains}
use Rattle.checker.specs.declared.sides.Tally.{Tally}

pub places : (t : Tally) (k : Chains) → t.chains.now ≡ k → (length t.outs.now ≡ length k.heads.now) × (length t.ins.now ≡ length k.heads.now)
places t k e = subst (λ (x : Chains). (length t.outs.now ≡ length x.heads.now) × (length t.ins.now ≡ length x.heads.now)) e t.fit
