use Rattle.std.proofs.Common.{◌<◌, refl, subst, arith, below_more}
use Rattle.theory_parts.specs.Buffer.{count_in}
use Rattle.checker.specs.Verdict.{Sound}
use Rattle.checker.specs.Verdict.Rule.{fault, passed}
use Rattle.checker.proofs.Chunks.{triangle_read}
use Rattle.checker.proofs.triangles.check_triangles.Goals as goal

pub loop-i-preserved : goal.loop-i-preserved
loop-i-preserved c =
    let ns = c.args.numbers.now in
    let l : c.loop-i.i < count_in ns = omega (arith, c.as_chunks.ensures.front_len) in
    below_more _ _ c.loop-i.invariant (subst (Sound c.args.corners) (triangle_read ns c.as_chunks.result.0.now c.as_chunks.ensures.front c.loop-i.i l) (c.is_sound.ensures.value.0 c.if-not-is_sound.false))

pub returns-then-not-is_sound : goal.returns-then-not-is_sound
returns-then-not-is_sound c =
    let ns = c.args.numbers.now in
    let l : c.loop-i.i < count_in ns = omega (arith, c.as_chunks.ensures.front_len) in
    let read = triangle_read ns c.as_chunks.result.0.now c.as_chunks.ensures.front c.loop-i.i l in
    record {
      found =
          fault
          (record {
            below = l;
            before = c.loop-i.invariant;
            fails = λ s. absurd (let z = c.is_sound.ensures.value.1 (rw read s) in cc);
          });
    }

pub returns : goal.returns
returns c =
    let long = c.as_chunks.ensures.front_len in
    record { found = passed (λ i l. c.loop-i.invariant i (omega arith)) refl }
