use Rattle.std.proofs.Common.{◌≡◌, length, Some, sym, subst, subst₂, arith}
use Rattle.std.specs.Result.{result_err}
use Rattle.std.proofs.lemmas.Result.{err_from_is_err_and}
use Rattle.mesh.specs.Bytes.{part_count}
use Rattle.theory_parts.specs.Buffer.{triangle_at, count_in, triangles_in}
use Rattle.checker.specs.Verdict.{Sound, Matched, RingedOnce, All, PartsVerdict, SideVerdict, TriangleVerdict}
use Rattle.checker.specs.Verdict.Rule.{passed}
use Rattle.checker.proofs.Deciding.{all_fine, named_first, closed_some, closed_none}
use Rattle.checker.proofs.check_rules.Goals as goal

pub returns-in_err-check_triangles : goal.returns-in_err-check_triangles
returns-in_err-check_triangles c =
    let p = err_from_is_err_and c.from_residual.result c.from_residual.ensures.1 in
    let e = c.in_err-check_triangles.field-0.0 in
    rw (p.1, p.2)
    (record {
      verdict = subst₂ (λ ns n. TriangleVerdict ns n (part_count c.args.skin.now.bytes.now) (Some e)) c.copy_numbers.ensures.after c.corners-corners.ensures.value
          (named_first _ _ _ _ _ c.in_err-check_triangles.ensures.found);
    })

pub new-requires : goal.new-requires
new-requires c =
    let ns = c.copy_numbers.new.numbers in
    let corners : c.corners-corners.result ≡ length c.cut-numbers.result.heads.now = omega arith in
    record {
      sound = subst (λ n. All (λ i. Sound n (triangle_at ns i)) (count_in ns)) corners (all_fine _ _ _ c.in_ok-check_triangles.ensures.found);
      room = omega arith;
      few = (omega arith, omega arith);
    }

pub check_closed-requires : goal.check_closed-requires
check_closed-requires c = record { room = (omega arith, omega arith) }

pub returns-in_err-check_closed : goal.returns-in_err-check_closed
returns-in_err-check_closed c =
    let r = c.from_residual-in_err-check_closed in
    let p = err_from_is_err_and r.result r.ensures.1 in
    let e = c.in_err-check_closed.field-0.0 in
    let parts = part_count c.args.skin.now.bytes.now in
    let k = c.new.result in
    let corners : length k.heads.now ≡ c.corners-corners.result = omega arith in
    rw (p.1, p.2)
    (record {
      verdict = subst₂ (λ ns n. TriangleVerdict ns n parts (Some e)) c.copy_numbers.ensures.after c.corners-corners.ensures.value
          (passed (all_fine _ _ _ c.in_ok-check_triangles.ensures.found)
          (subst₂ (λ ns n. SideVerdict ns n parts (Some e)) c.new.ensures.numbers corners (closed_some k.numbers.now (length k.heads.now) parts e c.in_err-check_closed.ensures.verdict)));
    })

pub check_parts-requires : goal.check_parts-requires
check_parts-requires c =
    let k = c.new.result in
    let corners : length k.heads.now ≡ c.corners-corners.result = omega arith in
    record {
      numbers = c.copy_numbers.ensures.after;
      sound = all_fine _ _ _ c.in_ok-check_triangles.ensures.found;
      ringed = subst₂ (λ ns n. All (RingedOnce (triangles_in ns)) n) c.new.ensures.numbers corners (closed_none k.numbers.now (length k.heads.now) c.in_ok-check_closed.ensures.verdict).1;
      room = omega arith;
    }

pub returns : goal.returns
returns c =
    let parts = part_count c.args.skin.now.bytes.now in
    let r = result_err c.check_parts.result in
    let k = c.new.result in
    let corners : length k.heads.now ≡ c.corners-corners.result = omega arith in
    let closed = closed_none k.numbers.now (length k.heads.now) c.in_ok-check_closed.ensures.verdict in
    record {
      verdict = subst₂ (λ ns n. TriangleVerdict ns n parts r) c.copy_numbers.ensures.after c.corners-corners.ensures.value
          (passed (all_fine _ _ _ c.in_ok-check_triangles.ensures.found)
          (passed (subst (λ ns. All (λ i. Matched (triangles_in ns) (triangle_at ns i)) (count_in ns)) c.new.ensures.numbers closed.0)
          (passed (subst₂ (λ ns n. All (RingedOnce (triangles_in ns)) n) c.new.ensures.numbers corners closed.1)
          (subst (λ ns. PartsVerdict ns parts r) (sym c.copy_numbers.ensures.after) c.check_parts.ensures.verdict))));
    }
