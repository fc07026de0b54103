use Rattle.std.proofs.Common.{◌≡◌, ℕ, suc, ◌+◌, ◌*◌, ◌%◌, eqb, length, ap, ◌∙◌, subst, arith}
use Rattle.theory_parts.specs.Parts.{Numbered}
use Rattle.mesh.specs.Bytes.{number_at, triangle_count, part_count, triangles_from, triangles_in as numbers_in}
use Rattle.mesh.proofs.Numbers.{length_listed}
use Rattle.theory_parts.specs.Buffer.{count_in, triangles_in, parts_in}
use Rattle.checker.specs.Passes.{Checked, SameNumber}
use Rattle.std.specs.Result.{result_err}
use Rattle.block.specs.declared.refusal.Refusal.TheVariants.{BadPart}
use Rattle.checker.specs.Verdict.PartsVerdict.{by_first_triangle}
use Rattle.checker.proofs.Compared.{numbered_by_links, sound_in_range}
use Rattle.checker.proofs.parts.check_parts.Goals as goal

long : (bs : mathlib.Core.List.List ℕ) → length (numbers_in bs) ≡ 4 * triangle_count bs
long bs = length_listed (λ i. number_at bs (triangles_from bs + 4 * i)) (4 * triangle_count bs)

pub compare_parts-requires : goal.compare_parts-requires
compare_parts-requires c = c.number_skin-parts.auto.triangles ∙ ap length c.requires.numbers ∙ long c.args.skin.now.bytes.now

pub number_skin-parts-requires : goal.number_skin-parts-requires
number_skin-parts-requires c =
    let e = ap length c.requires.numbers ∙ long c.args.skin.now.bytes.now in
    let whole : length c.args.numbers.now % 4 ≡ 0 = omega arith in
    record { whole = whole; in_range = sound_in_range c.args.numbers.now c.args.corners c.requires.sound whole; enough = c.requires.room }

pub returns : goal.returns
returns c =
    let bs = c.args.skin.now.bytes.now in
    let ms = c.number_skin-parts.new.triangles in
    let kept = c.number_skin-parts.auto.triangles ∙ ap length c.requires.numbers in
    let counted : count_in ms + 1 ≡ suc (count_in (numbers_in bs)) = omega arith in
    record {
      verdict =
          by_first_triangle
          (subst (λ ns. Numbered eqb (triangles_in ns) (parts_in ms) c.number_skin-parts.result) c.requires.numbers
          (numbered_by_links c.args.numbers.now c.args.corners c.requires.sound c.requires.ringed (parts_in ms) c.number_skin-parts.result c.number_skin-parts.ensures.written.numbered))
          (subst (λ n. Checked (SameNumber (numbers_in bs) (part_count bs) (parts_in ms) c.number_skin-parts.result) n BadPart (result_err c.compare_parts.result)) counted c.compare_parts.ensures.found);
    }
