use Rattle.std.proofs.Common.{rules, ◌≡◌, ◌≤◌, length, None, sym, ap, ◌∙◌, subst, arith}
use Rattle.std.proofs.lemmas.List.{with_items_is}
use Rattle.block.specs.Scan.{refusal_of}
use Rattle.skins.specs.Whole.{Whole}
use Rattle.skins.proofs.Wholes.{Holds, holds, held_at, as_many}
use Rattle.skins.proofs.Skin.of.Goals.{then-made-gt-ROOM+in_ok-parts-2, else-made-gt-ROOM, After-truncate}
use Rattle.skins.proofs.Skin.of.Goals as goal

pub returns-in_err-parts-2 : goal.returns-in_err-parts-2
returns-in_err-parts-2 c =
    let taken : refusal_of c.args.bytes.now ≡ None =
    subst (λ bs. refusal_of bs ≡ None) c.in_ok-buffers.ensures.cases c.in_ok-buffers.buffers.exact.taken in
    search rules

-- the parts had room at once, or did in the end
held : (c : After-truncate) → Holds c.args.bytes.now c.if-made-gt-ROOM.buffers c.if-made-gt-ROOM.parts.items c.if-made-gt-ROOM.made
held c =
    let from = c.in_ok-buffers.buffers in
    let first = c.make-made in
    let room = c.deref_mut.result.now in
    elim c.if-made-gt-ROOM.branch [
      | then-made-gt-ROOM+in_ok-parts-2 w ↦
          let second = w.make-made-then-made-gt-ROOM in
          let rooms = w.deref_mut-then-made-gt-ROOM.result.now in
          let as_before = as_many from first.new.self second.new.self room first.new.parts rooms second.new.parts _ _ first.ensures.same first.ensures.finished second.ensures.finished in
          let enough : second.result.parts ≤ length rooms = omega (arith, w.deref_mut-then-made-gt-ROOM.ensures.len, w.in_ok-parts-2.ensures.len, as_before) in
          held_at c.args.bytes.now w.buffers-is
          (ap (λ v. v.items) w.parts-is ∙ with_items_is w.in_ok-parts-2.parts _ (second.auto.parts ∙ w.deref_mut-then-made-gt-ROOM.ensures.len)) w.made-is
          (holds c.args.bytes.now first.new.self second.new.self rooms second.new.parts _ (first.ensures.same ∙ c.in_ok-buffers.ensures.cases)
          second.ensures.same second.ensures.finished enough second.auto.parts)
      | else-made-gt-ROOM w ↦
          let enough : first.result.parts ≤ length room = omega (arith, c.deref_mut.ensures.len, c.in_ok-parts.ensures.len, w.if-made-gt-ROOM.false) in
          held_at c.args.bytes.now w.buffers-is
          (ap (λ v. v.items) w.parts-is ∙ with_items_is c.in_ok-parts.parts _ (first.auto.parts ∙ c.deref_mut.ensures.len)) w.made-is
          (holds c.args.bytes.now from first.new.self room first.new.parts _ c.in_ok-buffers.ensures.cases first.ensures.same
          first.ensures.finished enough first.auto.parts)
    ]

pub invariant_of-result : goal.invariant_of-result
invariant_of-result c = record { writable = (held c).0 }

pub returns : goal.returns
returns c =
    let made = c.if-made-gt-ROOM in
    record {
      cases =
          subst (λ parts. Whole c.args.bytes.now made.buffers.corners.items made.buffers.triangles.items parts made.made)
          (sym c.truncate.ensures.items) (held (goal.at.returns c).After-truncate).1;
    }
