-- What a cube adds to a skin, by who of its eight points is inside: bit o of its bits says it of point o. Assumes nothing: these are
-- definitions.
use Rattle.std.specs.Prelude.{◌≡◌, ℕ, ◌+◌, ◌-◌, ◌*◌, cond, not, List, [], ◌∷◌, map, length, ◌==◌, bit_or, bit_xor, nat_eq, nat_lt}
use Rattle.std.specs.Bool.{beq}
use Rattle.std.specs.List.{flat_map, range_with_len}
use Rattle.theory.specs.Triangle.{Edge, edge, Tri, corners, sum_of, one_if}
use Rattle.theory.specs.Skin.{below}
use Rattle.theory.specs.Faces.{renamed}
use Rattle.theory_numbers.specs.Numbers.{mapped, meet}
use Rattle.piece.specs.Table.{bit, point_of, triangles_in}
use Rattle.triangle.specs.Cubes.{case_in}
use Rattle.triangle.specs.declared.cases.Case.{Case}

-- the triangles of the six pieces, each corner by the points between which it lies
abbrev pub cube_table : ℕ → List (Tri (Edge ℕ))
cube_table bits = below 6 (λ w. map (renamed (point_of w)) (triangles_in (case_in bits w)))

-- the same corners one after the other
abbrev pub edges_in : ℕ → List (Edge ℕ)
edges_in bits = flat_map corners (cube_table bits)

-- a corner's code: the point where its edge ends, and the step that leads there
abbrev pub edge_code : Edge ℕ → ℕ
edge_code (edge p q) = 8 * bit_or p q + bit_xor p q

abbrev pub code_triangles : ℕ → List (Tri ℕ)
code_triangles bits = map (mapped edge_code) (cube_table bits)

-- the steps along those of some edges that end at the highest point, each where it comes first, behind others
abbrev pub steps_met : List ℕ → List (Edge ℕ) → List ℕ
steps_met ss [] = ss
steps_met ss (edge p q ∷ es) = steps_met (cond (bit_or p q == 7) (meet nat_eq ss (bit_xor p q)) ss) es

-- the steps along the edges whose corners are first met in the cube, in the order in which they are met
abbrev pub new_steps : ℕ → List ℕ
new_steps bits = steps_met [] (edges_in bits)

-- the edge that leads by a step to the highest point, from the end that is inside where a corner lies on it
abbrev pub new_edge : ℕ → ℕ → Edge ℕ
new_edge bits s = cond (nat_lt bits 128) (edge (7 - s) 7) (edge 7 (7 - s))

-- how many points of a cube are not as its highest point is: on an edge to each of them a corner is first met
abbrev pub new_corners : ℕ → ℕ
new_corners bits = sum_of (λ o. one_if (not (beq (bit bits o) (bit bits 7)))) (0 ∷ 1 ∷ 2 ∷ 3 ∷ 4 ∷ 5 ∷ 6 ∷ [])

-- how many triangles the six pieces of a cube have
abbrev pub new_triangles : ℕ → ℕ
new_triangles bits = sum_of (λ w. length (triangles_in (case_in bits w))) (0 ∷ 1 ∷ 2 ∷ 3 ∷ 4 ∷ 5 ∷ [])

-- what is worked out for the cubes that have these bits: the corners' codes of each triangle, and the steps of the corners first met
abbrev pub case_at : ℕ → Case
case_at bits = record { triangles = map corners (code_triangles bits); steps = new_steps bits }

-- it stands at each of the 256 numbers that bits can be
abbrev pub AllCases : List Case → Type 0
AllCases cases = cases ≡ map case_at (range_with_len 0 256)
