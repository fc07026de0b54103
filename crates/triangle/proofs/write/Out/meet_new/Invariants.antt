use Rattle.std.proofs.Common.{◌≡◌, length, drop}
use Rattle.triangle.specs.Output.{met_by}
use Rattle.triangle.proofs.write.Out.meet_new.Given as goal

-- what is left to meet gives what is to be met in all
abbrev pub invariant-loop-step : goal.invariant-loop-step
invariant-loop-step l =
    (length l.self.numbers ≡ 64)
    × (met_by l.at.scan.now.block.bytes.now l.at.cube (drop l.step-index l.step-items) l.self ≡ met_by l.at.scan.now.block.bytes.now l.at.cube l.step-items l.fn.self)
