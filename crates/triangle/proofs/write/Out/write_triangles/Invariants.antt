use Rattle.std.proofs.Common.{◌≡◌, map, drop}
use Rattle.triangle.specs.Cases.{code_triangles}
use Rattle.triangle.specs.Output.{with_triangles, numbered_by}
use Rattle.triangle.proofs.write.Out.write_triangles.Given as goal

-- what is left to write gives what is to be written in all
abbrev pub invariant-loop-a : goal.invariant-loop-a
invariant-loop-a l =
    (l.self.numbers ≡ l.fn.self.numbers)
    × (with_triangles l.self (drop l.a-index (map (numbered_by l.fn.self.numbers) (code_triangles l.bits)))
    ≡ with_triangles l.fn.self (map (numbered_by l.fn.self.numbers) (code_triangles l.bits)))
