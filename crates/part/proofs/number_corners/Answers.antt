-- Each turn unites the corners of one more triangle; numbers of trees then tell what is linked. Assumes nothing.
use Rattle.std.proofs.Common.{rules, refl, ◌∙◌, ◌≡◌, ℕ, ◌<◌, [], length, get_or, subst, arith}
use Rattle.part.specs.Forest.{Link, Plus, Alike}
use Rattle.theory_parts.specs.Buffer.{count_in}
use Rattle.part.specs.Passes.{Spoke, Told}
use Rattle.part.proofs.Chunks.{of_corners, corner_below}
use Rattle.part.proofs.Connection.{alike_trans, alike_plus}
use Rattle.part.proofs.Spokes.{no_spokes, spokes_more, told}
use Rattle.part.proofs.number_corners.Goals as goal

pub loop-a-init : goal.loop-a-init
loop-a-init c = (no_spokes _ _ c.alone-trees.ensures.alone, refl, refl)

pub unite_three-requires : goal.unite_three-requires
unite_three-requires c =
    let below : (k : ℕ) → k < 3 → get_or (get_or c.as_chunks.result.0.now c.loop-a.a-index []) k 0 < length c.loop-a.trees.parents.now =
    λ k s. omega (
      arith,
      corner_below c.args.triangles.now _ c.as_chunks.ensures.front (length c.args.numbers.now) c.loop-a.a-index k c.requires.0
          (omega (arith, c.as_chunks.ensures.front_len)) s,
      c.loop-a.invariant.2,
      c.alone-trees.ensures.long,
    ) in
    (below 0 (omega arith), (below 1 (omega arith), below 2 (omega arith)))

pub loop-a-preserved : goal.loop-a-preserved
loop-a-preserved c = (
  alike_trans
      (of_corners c.args.triangles.now c.as_chunks.result.0.now c.as_chunks.ensures.front c.loop-a.a-index (omega (arith, c.as_chunks.ensures.front_len))
      (λ x y z. Alike (Link c.unite_three.new.self.parents.now) (Plus (Plus (Link c.loop-a.trees.parents.now) x y) x z)) c.unite_three.ensures.alike)
      (alike_trans (alike_plus _ _ _ _ (alike_plus _ _ _ _ c.loop-a.invariant.0)) (spokes_more c.args.triangles.now c.loop-a.a-index)),
  c.unite_three.ensures.same_reference ∙ c.loop-a.invariant.1,
  c.unite_three.ensures.long ∙ c.loop-a.invariant.2,
)

pub returns : goal.returns
returns c =
    let ns = c.args.triangles.now in
    let all : c.loop-a.a-index ≡ count_in ns = omega (arith, c.as_chunks.ensures.front_len) in
    let told : Told ns c.number.new.self.0 =
    told ns _ _ (omega arith) c.number.ensures.tells
    (subst (λ n. Alike (Link c.loop-a.trees.parents.now) (Spoke ns n)) all c.loop-a.invariant.0) in
    record { told = search (told, c.loop-a.invariant.1, c.alone-trees.ensures.same_reference, rules) }
