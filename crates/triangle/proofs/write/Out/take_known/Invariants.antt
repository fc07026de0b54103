use Rattle.std.proofs.Common.{◌≡◌, ℕ, ◌+◌, ◌-◌, ◌*◌, ◌<◌, ◌≤◌, length, get_or}
use lib.Bits.{bit_and}
use Rattle.triangle.specs.Output.{with_numbers}
use Rattle.triangle.proofs.Cubes.{slots_at}
use Rattle.triangle.proofs.write.Out.take_known.Given as goal

-- the numbers of the edges that end at the points before this one are at hand, where `work` has room
abbrev pub invariant-loop-upper : goal.invariant-loop-upper
invariant-loop-upper l =
    (length l.self.numbers ≡ 64)
    × ((u s : ℕ) → 0 < u → u < l.upper → 0 < s → s < 7 → bit_and u s ≡ s → slots_at l.lowest l.row l.layer u + 6 ≤ length l.fn.self.work.now →
    get_or l.self.numbers (8 * u + s) 0 ≡ get_or l.fn.self.work.now (slots_at l.lowest l.row l.layer u + (s - 1)) 0)
    × (l.self ≡ with_numbers l.fn.self l.self.numbers)

-- and those of the edges that end here, by the steps before this one
abbrev pub invariant-loop-step : goal.invariant-loop-step
invariant-loop-step l =
    (length l.self.numbers ≡ 64)
    × ((s : ℕ) → 0 < s → s < l.step → bit_and l.upper s ≡ s → get_or l.self.numbers (8 * l.upper + s) 0 ≡ get_or l.fn.self.work.now (l.first + (s - 1)) 0)
    × ((u s : ℕ) → u < l.upper → s < 7 → get_or l.self.numbers (8 * u + s) 0 ≡ get_or l.initial.self.numbers (8 * u + s) 0)
    × (l.self ≡ with_numbers l.fn.self l.self.numbers)
