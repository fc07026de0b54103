use Rattle.std.proofs.Common.{◌*◌, ◌<◌, ◌≤◌, length, Some, sym, refl, ap, ◌∙◌, subst}
use Rattle.std.proofs.lemmas.Result.{err_from_is_err_and}
use Rattle.triangle.specs.Progress.{SkinWritten}
use Rattle.triangle.proofs.Building.{corner_count, triangle_count, few, short_corners, short_triangles, short_work, long_enough, ready}
use Rattle.triangle.proofs.build.Goals as goal

pub returns-in_err-fits : goal.returns-in_err-fits
returns-in_err-fits c =
    let read = c.in_ok-scan.ensures.cases in
    let short = c.in_err-fits.ensures.cases in
    let p = err_from_is_err_and c.from_residual-in_err-fits.result c.from_residual-in_err-fits.ensures.1 in
    rw (p.1, p.2) record {
      cases =
          record {
            reason = short_corners _ _ read _ c.count-counts.ensures.counted _ _ _ short.0 ∙ ap Some (sym short.1);
            same_corners = refl;
            same_triangles = refl;
            same_work = refl;
          };
    }

pub returns-in_err-fits-2 : goal.returns-in_err-fits-2
returns-in_err-fits-2 c =
    let read = c.in_ok-scan.ensures.cases in
    let short = c.in_err-fits-2.ensures.cases in
    let p = err_from_is_err_and c.from_residual-in_err-fits-2.result c.from_residual-in_err-fits-2.ensures.1 in
    rw (p.1, p.2) record {
      cases =
          record {
            reason = short_triangles _ _ read _ c.count-counts.ensures.counted _ _ _ c.in_ok-fits.ensures.cases short.0 ∙ ap Some (sym short.1);
            same_corners = refl;
            same_triangles = refl;
            same_work = refl;
          };
    }

pub returns-then-work-points : goal.returns-then-work-points
returns-then-work-points c =
    let read = c.in_ok-scan.ensures.cases in
    let all = c.count-counts.ensures.counted in
    let less = subst (λ n. length c.args.work.now < 6 * n) c.points.ensures.value c.if-work-points.true in
    record {
      cases =
          record {
            reason = short_work _ _ read _ all _ _ _ c.in_ok-fits.ensures.cases c.in_ok-fits-2.ensures.cases less;
            same_corners = refl;
            same_triangles = refl;
            same_work = refl;
          };
    }

pub write-requires : goal.write-requires
write-requires c =
    let read = c.in_ok-scan.ensures.cases in
    let all = c.count-counts.ensures.counted in
    let enough = subst (λ n. 6 * n ≤ length c.args.work.now) c.points.ensures.value c.if-work-points.false in
    record { room = ready _ _ read _ all _ _ _ c.in_ok-fits.ensures.cases c.in_ok-fits-2.ensures.cases enough }

pub returns : goal.returns
returns c =
    let read = c.in_ok-scan.ensures.cases in
    let all = c.count-counts.ensures.counted in
    let enough = subst (λ n. 6 * n ≤ length c.args.work.now) c.points.ensures.value c.if-work-points.false in
    record {
      cases =
          record {
            fits = long_enough _ _ read _ all _ _ _ c.in_ok-fits.ensures.cases c.in_ok-fits-2.ensures.cases enough;
            corner_count = corner_count _ _ read _ all;
            triangle_count = triangle_count _ _ read _ all;
            at_most_six = few _ _ read _ all;
            written =
                subst (λ bs. SkinWritten bs c.args.corners.now c.args.triangles.now c.write.new.corners c.write.new.triangles)
                read.0 c.write.ensures.written;
          };
    }
