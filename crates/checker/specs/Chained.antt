-- The chains of triangles, one for each corner, and what a step along one learns. The numbers of the triangles are ns, four for each. Assumes
-- nothing.
use Rattle.std.specs.Prelude.{◌≡◌, ℕ, suc, ◌+◌, ◌*◌, ◌^◌, ◌<◌, ◌≤◌, cond, List, [], ◌∷◌, length, set, ◌==◌, nat_eq, slice_index, slice_set}
use Rattle.theory.specs.Triangle.{Tri, tri, one_if, has, side, read_from}
use Rattle.theory_parts.specs.Buffer.{triangle_at, count_in}
use Rattle.checker.specs.declared.chains.Seen.{Seen}
use Rattle.checker.specs.declared.chains.Step.{Step}
use Rattle.checker.specs.Verdict.{Sound, All}

-- all triangles are sound, with so many corners
abbrev pub AllSound : List ℕ → ℕ → Type 0
AllSound ns corners = All (λ i. Sound corners (triangle_at ns i)) (count_in ns)

-- a triangle read from its corner c: which of the three that is, and the two that follow
unfoldable pub seen_from : ℕ → Tri ℕ → Seen
seen_from c (tri a b e) =
    cond (a == c) (record { place = 0; second = b; third = e })
    (cond (b == c) (record { place = 1; second = e; third = a }) (record { place = 2; second = a; third = b }))

-- j is the place of the first triangle from place i on that has the corner c, or the number of triangles if there is none
pub record Next (ns : List ℕ) (c i j : ℕ) : Type 0 where
  pub from : i ≤ j
  pub to : j ≤ count_in ns
  pub none : (k : ℕ) → i ≤ k → k < j → has nat_eq c (triangle_at ns k) ≡ 0
  pub here : j < count_in ns → 0 < has nat_eq c (triangle_at ns j)

-- The triangles from place i on are chained: `heads` has for each corner the first that has it, and `nexts` for each triangle and each of
-- its three corners the next that has it.
pub record Chained (ns heads nexts : List ℕ) (i : ℕ) : Type 0 where
  pub first : (c : ℕ) → c < length heads → Next ns c i (slice_index heads c)
  pub after :
      (j c : ℕ) → i ≤ j → j < count_in ns → 0 < has nat_eq c (triangle_at ns j) →
      Next ns c (suc j) (slice_index nexts (3 * j + (seen_from c (triangle_at ns j)).place))

-- what the passes along chains rest on
pub record Ready (ns heads nexts : List ℕ) : Type 0 where
  pub sound : AllSound ns (length heads)
  pub chained : Chained ns heads nexts 0
  pub room : length nexts ≡ 3 * count_in ns
  pub few : count_in ns < 2 ^ 32
  pub corners_few : length heads < 2 ^ 32

-- a step along the chain of c, at the triangle at place i: from c it runs to the second corner and from the third to c, both in range, and
-- the next triangle that has c is known
pub record Stepped (ns : List ℕ) (corner_count c i : ℕ) (s : Step) : Type 0 where
  pub at_is : s.at ≡ i
  pub second_below : s.second < corner_count
  pub third_below : s.third < corner_count
  pub out : (d : ℕ) → side nat_eq c d (triangle_at ns i) ≡ one_if (s.second == d)
  pub into : (d : ℕ) → side nat_eq d c (triangle_at ns i) ≡ one_if (s.third == d)
  pub read : read_from nat_eq c (triangle_at ns i) ≡ (s.second, s.third) ∷ []
  pub onward : Next ns c (suc i) s.next

-- what `heads` and `nexts` become where the triangle at place i is put before the chains of its corners
abbrev pub heads_before : List ℕ → ℕ → List ℕ → List ℕ
heads_before ns i heads = slice_set (slice_set (slice_set heads (slice_index ns (4 * i)) i) (slice_index ns (4 * i + 1)) i) (slice_index ns (4 * i + 2)) i

abbrev pub nexts_before : List ℕ → ℕ → List ℕ → List ℕ → List ℕ
nexts_before ns i heads nexts =
    set (slice_set (slice_set nexts (3 * i) (slice_index heads (slice_index ns (4 * i)))) (3 * i + 1) (slice_index heads (slice_index ns (4 * i + 1)))) (3 * i + 2)
    (slice_index heads (slice_index ns (4 * i + 2)))
