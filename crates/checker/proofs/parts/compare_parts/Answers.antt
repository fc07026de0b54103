use Rattle.std.proofs.Common.{◌≡◌, ℕ, ◌+◌, ◌*◌, ◌<◌, length, sym, refl, ◌∙◌, arith, below_more}
use Rattle.mesh.specs.Bytes.{number_at, triangle_count, part_count, triangles_from, triangles_in as numbers_in}
use Rattle.mesh.proofs.Numbers.{length_listed}
use Rattle.theory_parts.specs.Buffer.{count_in}
use Rattle.checker.specs.Verdict.Rule.{fault, passed}
use Rattle.checker.proofs.Chunks.{part_read}
use Rattle.checker.proofs.Compared.{same_at, same_last}
use Rattle.checker.proofs.parts.compare_parts.Goals as goal

-- the skin has as many numbers as the triangles beside it
said_long : (bs ms : mathlib.Core.List.List ℕ) → length ms ≡ 4 * triangle_count bs → length (numbers_in bs) ≡ length ms
said_long bs ms e = length_listed (λ i. number_at bs (triangles_from bs + 4 * i)) (4 * triangle_count bs) ∙ sym e

pub loop-i-preserved : goal.loop-i-preserved
loop-i-preserved c =
    let bs = c.args.skin.now.bytes.now in
    let ms = c.args.numbers.now in
    let i = c.loop-i.i in
    let l : i < count_in ms = omega (arith, c.as_chunks.ensures.front_len) in
    let part = part_read ms c.as_chunks.result.0.now c.as_chunks.ensures.front i l in
    below_more _ _ c.loop-i.invariant ((same_at (numbers_in bs) ms (part_count bs) c.args.parts (said_long bs ms c.requires) i l).0 (sym c.number.ensures.value ∙ c.if-number-triangle.false ∙ part))

pub returns-then-number-triangle : goal.returns-then-number-triangle
returns-then-number-triangle c =
    let bs = c.args.skin.now.bytes.now in
    let ms = c.args.numbers.now in
    let i = c.loop-i.i in
    let l : i < count_in ms = omega (arith, c.as_chunks.ensures.front_len) in
    let part = part_read ms c.as_chunks.result.0.now c.as_chunks.ensures.front i l in
    record {
      found =
          fault
          (record {
            below = omega arith;
            before = c.loop-i.invariant;
            fails = λ e. c.if-number-triangle.true (c.number.ensures.value ∙ (same_at (numbers_in bs) ms (part_count bs) c.args.parts (said_long bs ms c.requires) i l).1 e ∙ sym part);
          });
    }

pub returns-then-parts : goal.returns-then-parts
returns-then-parts c =
    let bs = c.args.skin.now.bytes.now in
    let ms = c.args.numbers.now in
    let long : count_in ms ≡ length c.as_chunks.result.0.now = sym c.as_chunks.ensures.front_len in
    rw (← long)
    (record {
      found =
          fault {i = count_in ms}
          (record {
            below = omega arith;
            before = λ i l. c.loop-i.invariant i (omega arith);
            fails = λ e. c.if-parts.true (c.parts.ensures.value ∙ (same_last (numbers_in bs) ms (part_count bs) c.args.parts (said_long bs ms c.requires)).1 e);
          });
    })

pub returns : goal.returns
returns c =
    let bs = c.args.skin.now.bytes.now in
    let ms = c.args.numbers.now in
    let long : count_in ms ≡ length c.as_chunks.result.0.now = sym c.as_chunks.ensures.front_len in
    record {
      found =
          passed
          (below_more _ _ (λ i l. c.loop-i.invariant i (omega arith)) ((same_last (numbers_in bs) ms (part_count bs) c.args.parts (said_long bs ms c.requires)).0 (sym c.parts.ensures.value ∙ c.if-parts.false)))
          refl;
    }
