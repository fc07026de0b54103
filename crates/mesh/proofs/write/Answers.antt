use Rattle.std.proofs.Common.{◌≡◌, ◌+◌, ◌-◌, ◌*◌, ◌/◌, ◌^◌, ◌<◌, true, [], ◌++◌, length, take, drop, Some, None, sym, refl, ap, ◌∙◌, subst, ap₂, arith}
use Rattle.std.specs.List.{flat_map}
use Rattle.std.proofs.lemmas.List.{append_assoc, take_at}
use Rattle.std.proofs.lemmas.Bool.{cond-true}
use Rattle.mesh.specs.Written.{two_bytes, four_bytes, header_bytes, skin_bytes, skin_size, writable, Holds}
use Rattle.mesh.proofs.Puts.{put_behind, length_joined}
use Rattle.mesh.proofs.Ranges.{every_from_get_or, in_range_from_test}
use Rattle.mesh.proofs.Back.{length_skin, read_back}
use Rattle.mesh.proofs.write.Goals as goal

pub returns : goal.returns
returns c =
    let xs = c.args.corners.now in
    let ts = c.args.triangles.now in
    let old = c.args.out.now in
    let corners = length_joined two_bytes 2 (λ x. refl) xs in
    let triangles = length_joined four_bytes 4 (λ x. refl) ts in
    let can : writable xs ts (length old) ≡ true = sym c.writable.ensures.value ∙ c.if-not-writable.false in
    let end : 12 + 2 * length xs + 4 * length ts ≡ skin_size xs ts = omega arith in
    let header = header_bytes (length xs / 3) (length ts / 4) c.args.parts in
    let one = put_behind old c.copy_from_slice.new.self [] header old 0 12 12 refl (c.copy_from_slice.ensures.after ∙ c.header_bytes-header.ensures.value) refl refl refl in
    let two = put_behind _ c.put_low_bytes.new.out header (flat_map two_bytes xs) old 12 (12 + 2 * length xs - 12) (12 + 2 * length xs) one c.put_low_bytes.ensures.after refl (omega arith) (omega arith) in
    let three = put_behind _ c.put_low_bytes-2.new.out (header ++ flat_map two_bytes xs) (flat_map four_bytes ts) old (12 + 2 * length xs) (12 + 2 * length xs + 4 * length ts - (12 + 2 * length xs)) (skin_size xs ts) two c.put_low_bytes-2.ensures.after (omega arith) (omega arith) (omega arith) in
    let full = three ∙ ap (λ s. s ++ drop (skin_size xs ts) old) (append_assoc header (flat_map two_bytes xs) (flat_map four_bytes ts)) in
    let front = ap₂ take end full ∙ take_at (skin_bytes xs ts c.args.parts) (drop (skin_size xs ts) old) (skin_size xs ts) (length_skin xs ts c.args.parts) in
    let range = in_range_from_test xs ts c.args.parts (length old) can (omega arith) (every_from_get_or (λ n. n < 2 ^ 32) ts (λ i. omega (arith, c.type_inv.triangles i))) in
    record {
      value = ap (λ n. Some n) end ∙ sym (cond-true (writable xs ts (length old)) (Some (skin_size xs ts)) None can);
      after = full ∙ sym (cond-true (writable xs ts (length old)) (skin_bytes xs ts c.args.parts ++ drop (skin_size xs ts) old) old can);
      held = subst (λ bs. Holds bs xs ts c.args.parts) (sym front) (read_back xs ts c.args.parts range);
    }
