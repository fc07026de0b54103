use Rattle.std.proofs.Common.{◌≡◌, ℕ, ◌+◌, ◌*◌, sym, ap, ◌∙◌, arith, get_or-set_other, get_or-set_same, below_more}
use Rattle.std.proofs.lemmas.List.{ext_get_or}
use Rattle.mesh.specs.Bytes.{number_at, triangle_count, triangles_from, triangles_in}
use Rattle.mesh.proofs.Numbers.{length_listed, get_or_listed}
use Rattle.mesh.proofs.Skin.copy_numbers.Goals as goal

pub loop-i-preserved : goal.loop-i-preserved
loop-i-preserved c =
    let bs = c.args.self.now.bytes.now in
    let i = c.loop-i.i in
    let place : c.behind_corners-from.result + 4 * i ≡ triangles_from bs + 4 * i = omega arith in
    below_more _ _
    (λ k h. get_or-set_other c.loop-i.numbers i k c.number.result 0 (omega arith) ∙ c.loop-i.invariant k h)
    (get_or-set_same c.loop-i.numbers i c.number.result 0 (omega arith) ∙ c.number.ensures.value ∙ ap (number_at bs) place)

pub returns : goal.returns
returns c =
    let bs = c.args.self.now.bytes.now in
    let there : ℕ → ℕ = λ i. number_at bs (triangles_from bs + 4 * i) in
    let long = length_listed there (4 * triangle_count bs) in
    record {
      after = ext_get_or 0 c.loop-i.numbers (triangles_in bs) (omega arith)
          (λ i l. c.loop-i.invariant i (omega arith) ∙ sym (get_or_listed there (4 * triangle_count bs) i (omega arith)));
    }
