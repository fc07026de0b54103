-- The numbers of triangles, read four at a time. Assumes nothing.
use Rattle.std.proofs.Common.{◌≡◌, ℕ, ◌+◌, ◌*◌, ◌<◌, List, [], get_or, ap, ◌∙◌, add-zero, arith}
use Rattle.std.specs.Simd.{first_chunks}
use Rattle.theory.specs.Triangle.{tri}
use Rattle.theory_parts.specs.Buffer.{triangle_at, part_at, count_in}
use Rattle.theory_parts.proofs.Chunks.{chunk_at}

module _ (ns : List ℕ) (ts : List (List ℕ)) (fours : ts ≡ first_chunks 4 (count_in ns) ns) (i : ℕ) (l : i < count_in ns) where
  read : (j : ℕ) → j < 4 → get_or (get_or ts i []) j 0 ≡ get_or ns (4 * i + j) 0
  read j m = ap (λ us. get_or (get_or us i []) j 0) fours ∙ chunk_at 4 (count_in ns) ns i j [] l m

  pub part_read : get_or (get_or ts i []) 3 0 ≡ part_at ns i
  part_read = read 3 (omega arith)

  pub triangle_read : tri (get_or (get_or ts i []) 0 0) (get_or (get_or ts i []) 1 0) (get_or (get_or ts i []) 2 0) ≡ triangle_at ns i
  triangle_read =
      let a = read 0 (omega arith) ∙ ap (λ k. get_or ns k 0) (add-zero (4 * i)) in
      let b = read 1 (omega arith) in
      let e = read 2 (omega arith) in
      λ j. tri (a j) (b j) (e j)
