-- Each turn numbers one more triangle. Assumes nothing.
use Rattle.std.proofs.Common.{◌≡◌, ◌+◌, ◌*◌, map, length, set, sym, subst, arith}
use Rattle.std.specs.List.{range_with_len}
use Rattle.theory_parts.specs.Parts.{InTurn}
use Rattle.theory_parts.specs.Buffer.{part_at, count_in}
use Rattle.part.proofs.Turns.{Turn, turn_none, turn_old, turn_new, turn_room, turn_parts}
use Rattle.part.proofs.give_numbers.Goals as goal
use Rattle.part.proofs.give_numbers.Goals.{then-number-count, else-number-count}

pub loop-i-init : goal.loop-i-init
loop-i-init c =
    let ns = c.args.triangles.now in
    subst (λ m. Turn ns ns m 0 0) (sym (c.fill.ensures.after (λ y e. e))) (turn_none ns (length c.args.numbers.now))

pub overflow_add-count : goal.overflow_add-count
overflow_add-count c =
    omega (
      arith,
      turn_room _ _ _ _ _ c.loop-i.invariant (λ k h. omega (arith, c.requires.0 k h)) (omega arith) (omega arith) (omega arith) _ _
          c.number_of-number.ensures.given c.number_of-number.ensures.value c.if-number-count.true,
    )

pub loop-i-preserved : goal.loop-i-preserved
loop-i-preserved c =
    let ns = c.args.triangles.now in
    let ms = set c.loop-i.triangles (4 * c.loop-i.i + 3) c.number_of-number.result in
    elim c.if-number-count.branch [
      | then-number-count w ↦
          subst (λ n. Turn ns ms c.number_of-number.new.numbers n (c.loop-i.i + 1)) (sym w.count-is)
          (turn_new _ _ _ _ _ c.loop-i.invariant (λ k h. omega (arith, c.requires.0 k h)) (omega arith) (omega arith) (omega arith) _ _
          c.number_of-number.ensures.given c.number_of-number.ensures.value w.if-number-count.true)
      | else-number-count w ↦
          subst (λ n. Turn ns ms c.number_of-number.new.numbers n (c.loop-i.i + 1)) (sym w.count-is)
          (turn_old _ _ _ _ _ c.loop-i.invariant (λ k h. omega (arith, c.requires.0 k h)) (omega arith) (omega arith) (omega arith) _ _
          c.number_of-number.ensures.given c.number_of-number.ensures.value w.if-number-count.false)
    ]

pub returns : goal.returns
returns c =
    let ns = c.args.triangles.now in
    let ms = c.loop-i.triangles in
    let all : c.loop-i.i ≡ count_in ns = omega arith in
    let kept : c.loop-i.i ≡ count_in ms = omega arith in
    record {
      same = c.loop-i.invariant.same_corners;
      alike = turn_parts ns ms _ _ (subst (λ i. Turn ns ms c.loop-i.numbers c.loop-i.count i) all c.loop-i.invariant)
          (λ k h. omega (arith, c.requires.0 k h)) (omega arith);
      turn = subst (λ i. InTurn 0 (map (part_at ms) (range_with_len 0 i)) c.loop-i.count) kept c.loop-i.invariant.in_turn;
    }
