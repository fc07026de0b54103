use Rattle.std.proofs.Common.{◌≡◌, ℕ, ◌+◌, ◌-◌, ◌*◌, ◌<◌, ◌≢◌, length, get_or, set, ap, ◌∙◌, subst, inl, inr, arith, length-set}
use lib.Bits.{bit_and}
use Rattle.std.proofs.lemmas.List.{get_or-set_same, get_or-set_other}
use Rattle.std.proofs.lemmas.Bool.{cases_lt}
use Rattle.block.specs.Scan.{size_x, size_y}
use Rattle.grid.specs.Numbers.{number_of}
use Rattle.triangle.specs.Cubes.{lowest_of, point_in}
use Rattle.triangle.proofs.Cubes.{slots_at, first_slot, six_slots}
use Rattle.triangle.proofs.Growth.{with_more}
use Rattle.triangle.proofs.write.Out.take_known.Goals as goal
use Rattle.triangle.proofs.write.Out.take_known.Goals.{then-upper-step, else-upper-step}

pub loop-step-preserved : goal.loop-step-preserved
loop-step-preserved c =
    let ns = c.loop-step.self.numbers in
    let upper = c.loop-upper.upper in
    let step = c.loop-step.step in
    let work = c.args.self.now.work.now in
    let first = slots_at c.slot-lowest.result (6 * c.size_x.result) (6 * c.size_x.result * c.size_y.result) upper in
    let v = get_or c.loop-step.self.work.now (first + step - 1) 0 in
    elim c.if-upper-step.branch [
      | then-upper-step w ↦
          let at : (i : ℕ) → get_or c.if-upper-step.self.numbers i 0 ≡ get_or (set ns (8 * upper + step) v) i 0 =
          λ i. ap (λ o. get_or o.numbers i 0) w.self-is in (
            ap (λ o. length o.numbers) w.self-is ∙ length-set _ _ _ ∙ c.loop-step.invariant.0,
            λ s p l e.
                elim (cases_lt s step) [
                  | inl less ↦
                      let ne : 8 * upper + s ≢ 8 * upper + step = omega arith in
                      at (8 * upper + s) ∙ get_or-set_other ns (8 * upper + step) (8 * upper + s) v 0 ne ∙ c.loop-step.invariant.1 s p less e
                  | inr more ↦
                      let is : step ≡ s = omega arith in
                      at (8 * upper + s)
                      ∙ subst (λ s. get_or (set ns (8 * upper + step) v) (8 * upper + s) 0 ≡ get_or work (first + (s - 1)) 0) is
                      (get_or-set_same ns (8 * upper + step) v 0 (omega (arith, c.loop-step.invariant.0)) ∙ ap (λ o. get_or o.work.now (first + step - 1) 0) c.loop-step.invariant.3
                      ∙ ap (λ n. get_or work n 0) (omega arith))
                ],
            λ u s lu ls.
                let ne : 8 * u + s ≢ 8 * upper + step = omega arith in
                at (8 * u + s) ∙ get_or-set_other ns (8 * upper + step) (8 * u + s) v 0 ne ∙ c.loop-step.invariant.2 u s lu ls,
            with_more c.args.self.now c.loop-step.self _ ns (set ns (8 * upper + step) v) c.loop-step.invariant.3 w.self-is,
          )
      | else-upper-step w ↦ (
        ap (λ o. length o.numbers) w.self-is ∙ c.loop-step.invariant.0,
        λ s p l e.
            elim (cases_lt s step) [
              | inl less ↦ ap (λ o. get_or o.numbers (8 * upper + s) 0) w.self-is ∙ c.loop-step.invariant.1 s p less e
              | inr more ↦ let is : s ≡ step = omega arith in absurd (w.if-upper-step.false (subst (λ s. bit_and upper s ≡ s) is e))
            ],
        λ u s lu ls. ap (λ o. get_or o.numbers (8 * u + s) 0) w.self-is ∙ c.loop-step.invariant.2 u s lu ls,
        with_more c.args.self.now c.loop-step.self _ ns ns c.loop-step.invariant.3 w.self-is,
      )
    ]

pub returns-clause-known : goal.returns-clause-known
returns-clause-known c =
    let bs = c.args.at.scan.now.block.bytes.now in
    let k = c.args.at.cube in
    let work = c.args.self.now.work.now in
    let lowest : c.slot-lowest.result ≡ 6 * number_of (size_x bs) (size_y bs) (lowest_of k) = omega arith in
    let at :
    (u : ℕ) → u < 8 →
    slots_at c.slot-lowest.result (6 * c.size_x.result) (6 * c.size_x.result * c.size_y.result) u ≡ 6 * number_of (size_x bs) (size_y bs) (point_in k u) =
    λ u l.
    (λ i. slots_at (lowest i) (6 * c.size_x.ensures.value i) (6 * c.size_x.ensures.value i * c.size_y.ensures.value i) u)
    ∙ first_slot (size_x bs) (size_y bs) k u l in
    λ room u s p lu q ls e.
    c.loop-upper.invariant.1 u s p (omega arith) q ls e (omega (arith, at u (omega arith), six_slots bs k u c.args.at.of_block))
    ∙ ap (λ n. get_or work (n + (s - 1)) 0) (at u (omega arith))
