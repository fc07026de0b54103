use Rattle.std.proofs.Common.{◌≡◌, ◌<◌, ◌≤◌, length}
use Rattle.checker.specs.Passes.{led_in, Steps, Cleared}
use Rattle.checker.proofs.rings.Rings.goes_round.Given as goal

-- so many steps have led here, and those who were left are gone
abbrev pub invariant-loop : goal.invariant-loop
invariant-loop l = record {
  chains_are : l.self.chains.now ≡ l.initial.self.chains.now;
  most : l.counter ≤ l.around;
  inside : l.here < length l.self.follow.now;
  led_here : l.here ≡ led_in l.initial.self.follow.now l.start l.counter;
  steps : Steps l.initial.self.follow.now l.start l.counter;
  cleared : Cleared l.initial.self.follow.now l.start l.counter l.self.follow.now;
}
