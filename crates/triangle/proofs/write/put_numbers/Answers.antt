use Rattle.std.proofs.Common.{◌+◌, ◌*◌, length, sym, ◌∙◌, arith}
use Rattle.std.proofs.lemmas.Bool.{le-leb, cond-true}
use Rattle.triangle.proofs.Buffers.{set_four}
use Rattle.triangle.proofs.write.put_numbers.Goals as goal

pub returns-then-first-triangles : goal.returns-then-first-triangles
returns-then-first-triangles c =
    let xs = c.args.triangles.now in
    record {
      after =
          set_four xs (4 * c.args.number) c.args.a c.args.b c.args.c 0 (omega arith)
          ∙ sym (cond-true _ _ _ (le-leb (4 * c.args.number + 4) (length xs) (omega arith)));
    }
