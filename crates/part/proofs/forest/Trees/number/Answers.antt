-- A root has a new number, another corner its parent's. Assumes nothing.
use Rattle.std.proofs.Common.{◌≡◌, ◌+◌, ◌<◌, length, sym, subst, subst₂, arith}
use Rattle.part.proofs.Trees.{Numbering, numbering_none, numbering_root, numbering_child, numbering_tells, numbering_forest}
use Rattle.part.proofs.forest.Trees.number.Goals as goal
use Rattle.part.proofs.forest.Trees.number.Goals.{then-parent-c, else-parent-c}

pub loop-c-init : goal.loop-c-init
loop-c-init c = numbering_none c.args.self.parents.now

pub overflow_add-count : goal.overflow_add-count
overflow_add-count c = omega (arith, c.loop-c.invariant.few)

pub loop-c-preserved : goal.loop-c-preserved
loop-c-preserved c =
    let p = c.args.self.parents.now in
    let at = c.loop-c.c in
    let l : at < length p = omega arith in
    elim c.if-parent-c.branch [
      | then-parent-c w ↦ subst₂ (λ q n. Numbering p q (at + 1) n) (sym w.parents-is) (sym w.count-is)
          (numbering_root p _ at _ c.loop-c.invariant c.args.self.forest (omega arith) l w.if-parent-c.true)
      | else-parent-c w ↦ subst₂ (λ q n. Numbering p q (at + 1) n) (sym w.parents-is) (sym w.count-is)
          (numbering_child p _ at _ c.loop-c.invariant c.args.self.forest (omega arith) l w.if-parent-c.false)
    ]

pub invariant_of-self : goal.invariant_of-self
invariant_of-self c =
    let p = c.args.self.parents.now in
    let all : c.loop-c.c ≡ length p = omega arith in
    record { forest = numbering_forest p _ _ (subst (λ n. Numbering p c.loop-c.parents n c.loop-c.count) all c.loop-c.invariant) (omega arith); few = omega arith }

pub returns : goal.returns
returns c =
    let p = c.args.self.parents.now in
    let all : c.loop-c.c ≡ length p = omega arith in
    record { tells = numbering_tells p _ _ (subst (λ n. Numbering p c.loop-c.parents n c.loop-c.count) all c.loop-c.invariant) }
