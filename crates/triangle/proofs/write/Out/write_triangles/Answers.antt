use Rattle.std.proofs.Common.{◌+◌, ◌<◌, ◌≤◌, [], map, length, get_or, drop, sym, ap, ◌∙◌, subst, arith}
use Rattle.std.proofs.lemmas.List.{at_drop_all, length-map}
use Rattle.theory.specs.Triangle.{tri, corners}
use Rattle.triangle.specs.Cases.{code_triangles}
use Rattle.triangle.specs.Output.{with_triangle, with_triangles, numbered_by}
use Rattle.triangle.proofs.Computed.{code_small, next_numbered}
use Rattle.triangle.proofs.write.Out.write_triangles.Goals as goal

pub bounds-self-a : goal.bounds-self-a
bounds-self-a c =
    let is = c.triangles-a-items.ensures.value in
    subst (λ ts. get_or (get_or ts c.loop-a.a-index []) 0 0 < 64) (sym is) (code_small c.args.bits (omega arith) c.loop-a.a-index 0)

pub bounds-self-b : goal.bounds-self-b
bounds-self-b c =
    let is = c.triangles-a-items.ensures.value in
    subst (λ ts. get_or (get_or ts c.loop-a.a-index []) 1 0 < 64) (sym is) (code_small c.args.bits (omega arith) c.loop-a.a-index 1)

pub bounds-self-c : goal.bounds-self-c
bounds-self-c c =
    let is = c.triangles-a-items.ensures.value in
    subst (λ ts. get_or (get_or ts c.loop-a.a-index []) 2 0 < 64) (sym is) (code_small c.args.bits (omega arith) c.loop-a.a-index 2)

pub loop-a-preserved : goal.loop-a-preserved
loop-a-preserved c =
    let ts = code_triangles c.args.bits in
    let ns = c.args.self.now.numbers in
    let i = c.loop-a.a-index in
    let o = c.loop-a.self in
    let is = c.triangles-a-items.ensures.value in
    let same = c.loop-a.invariant.0 in (
      ap (λ o. o.numbers) c.put_triangle.ensures.after ∙ same,
      ap (λ o. with_triangles o (drop (i + 1) (map (numbered_by ns) ts)))
          (c.put_triangle.ensures.after
          ∙ (λ j. with_triangle o (tri (get_or (same j) (get_or (get_or (is j) i []) 0 0) 0) (get_or (same j) (get_or (get_or (is j) i []) 1 0) 0) (get_or (same j) (get_or (get_or (is j) i []) 2 0) 0))))
          ∙ sym (ap (with_triangles o) (next_numbered ns ts i (omega (arith, ap length is, length-map ts corners))))
          ∙ c.loop-a.invariant.1,
    )

pub returns : goal.returns
returns c =
    let ts = code_triangles c.args.bits in
    let us = map (numbered_by c.args.self.now.numbers) ts in
    let is = c.triangles-a-items.ensures.value in
    let all : length us ≤ c.loop-a.a-index = omega (arith, length-map ts (numbered_by c.args.self.now.numbers), ap length is, length-map ts corners) in
    record { after = sym (at_drop_all (with_triangles c.loop-a.self) us c.loop-a.a-index all) ∙ c.loop-a.invariant.1 }
