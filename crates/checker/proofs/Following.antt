-- Rings have a place for each corner. Assumes nothing.
use Rattle.std.proofs.Common.{◌≡◌, length, subst}
use Rattle.checker.specs.declared.chains.Chains.{Chains}
use Rattle.checker.specs.declared.rings.Rings.{Rings}

pub place_of_each : (r : Rings) (k : Chains) → r.chains.now ≡ k → length r.follow.now ≡ length k.heads.now
place_of_each r k e = subst (λ (x : Chains). length r.follow.now ≡ length x.heads.now) e r.fit
