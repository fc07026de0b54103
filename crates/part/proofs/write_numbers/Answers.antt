-- Each turn writes one more number, which is one from before, the next, or out of turn. Assumes nothing.
use Rattle.std.proofs.Common.{◌≡◌, ℕ, Some, IfSome, set, ◌≤◌, subst, ◌+◌, ◌*◌, ◌<◌, length, get_or, sym, ap, ◌∙◌, arith, below_more}
use Rattle.std.proofs.lemmas.List.{get_or-set_same, get_or-set_other}
use Rattle.theory_parts.specs.Parts.{InTurn}
use Rattle.theory_parts.specs.Buffer.{count_in, first_parts}
use Rattle.part.proofs.Turns.{first_parts_set, in_turn_old, in_turn_new}
use Rattle.part.proofs.write_numbers.Goals as goal
use Rattle.part.proofs.write_numbers.Goals.{in-Some, in-Some-2, in_default, in_default-2}

pub loop-i-preserved : goal.loop-i-preserved
loop-i-preserved c =
    let ms = c.loop-i.triangles in
    let i = c.loop-i.i in
    let numbers = c.args.numbers.now in
    let inv = c.loop-i.invariant in
    let first = inv.0 (4 * i) (omega arith) in
    let x = get_or numbers (get_or ms (4 * i) 0) 0 in
    let below : x < length numbers = c.requires.1.0.below (get_or ms (4 * i) 0) (omega (arith, first, c.requires.0 (4 * i) (omega arith) (omega arith))) in
    let so_far : (n : ℕ) → c.loop-i.count ≡ Some n → InTurn 0 (first_parts ms i) n × (n ≤ length numbers) =
    λ n e. subst (λ o. IfSome o (λ n. InTurn 0 (first_parts ms i) n × (n ≤ length numbers))) e inv.2 in
    let Known : ℕ → Type 0 = λ n. InTurn 0 (first_parts (set ms (4 * i + 3) x) (i + 1)) n × (n ≤ length numbers) in
    let more = sym (first_parts_set ms i x (omega arith)) in (
      (λ j h. get_or-set_other ms (4 * i + 3) j x 0 (omega arith) ∙ inv.0 j h),
      below_more _ i (λ k h. get_or-set_other ms (4 * i + 3) (4 * k + 3) x 0 (omega arith) ∙ inv.1 k h)
          (get_or-set_same ms (4 * i + 3) x 0 (omega arith) ∙ ap (λ a. get_or numbers a 0) first),
      elim c.match-count.branch [
        | in-Some w ↦
            let known = so_far _ w.in-Some.is in
            subst (λ o. IfSome o Known) (sym w.count-is) (subst (λ ps. InTurn 0 ps w.in-Some.n) more (in_turn_old 0 _ _ x known.0 w.if-number-n.true), known.1)
        | in-Some-2 w ↦
            let known = so_far _ w.in-Some-2.is in
            subst (λ o. IfSome o Known) (sym w.count-is)
            (subst (λ ps. InTurn 0 ps (w.in-Some-2.n + 1)) more (in_turn_new 0 _ _ x known.0 w.if-number-n-2.true), omega (arith, w.if-number-n-2.true, below))
        | in_default w ↦ subst (λ o. IfSome o Known) (sym w.count-is) tt
        | in_default-2 w ↦ subst (λ o. IfSome o Known) (sym w.count-is) tt
      ],
    )

pub returns : goal.returns
returns c =
    let ms = c.loop-i.triangles in
    let kept : c.loop-i.i ≡ count_in ms = omega arith in
    record {
      same = c.loop-i.invariant.0;
      written = λ i l. c.loop-i.invariant.1 i (omega arith);
      turn = λ n e.
          let known = subst (λ o. IfSome o (λ n. InTurn 0 (first_parts ms c.loop-i.i) n × (n ≤ length c.args.numbers.now))) e c.loop-i.invariant.2 in
          subst (λ k. InTurn 0 (first_parts ms k) n) kept known.0;
    }
