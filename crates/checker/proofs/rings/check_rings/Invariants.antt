use Rattle.std.proofs.Common.{◌≡◌, eqb, length}
use Rattle.theory.specs.Closed.{EachSideOnce}
use Rattle.theory_parts.specs.Buffer.{triangles_in}
use Rattle.checker.specs.Verdict.{RingedOnce, All}
use Rattle.checker.specs.Passes.{Blank, Returned}
use Rattle.checker.proofs.rings.check_rings.Given as goal

-- around the corners before this one the steps led round
abbrev pub invariant-loop-corner : goal.invariant-loop-corner
invariant-loop-corner l = record {
  chains_are : l.rings.chains.now ≡ l.chains;
  ringed : EachSideOnce eqb (triangles_in l.chains.numbers.now) → All (RingedOnce (triangles_in l.chains.numbers.now)) l.corner;
  led_back : All (Returned (triangles_in l.chains.numbers.now) (length l.chains.heads.now)) l.corner;
  blank : Blank l.rings.follow.now;
}
