-- How the case of a cube is worked out from its pieces, triangle by triangle. Assumes nothing: these are definitions.
use Rattle.std.specs.Prelude.{ℕ, ◌-◌, cond, ◌||◌, List, [], ◌∷◌, map, nat_eq, nat_lt}
use Rattle.theory.specs.Triangle.{Edge, Tri, tri, times}
use Rattle.theory.specs.Faces.{renamed}
use Rattle.theory_numbers.specs.Numbers.{mapped}
use Rattle.piece.specs.Table.{point_of, triangles_in}
use Rattle.triangle.specs.Cubes.{on_points}
use Rattle.triangle.specs.Few.{pushed}
use Rattle.triangle.specs.Cases.{edge_code}
use Rattle.triangle.specs.declared.cases.Case.{Case}

-- the code of a corner of a piece
abbrev pub code_in : ℕ → Edge ℕ → ℕ
code_in w e = edge_code (on_points (point_of w) e)

-- the triangles of a piece in a case, by the codes of their corners
abbrev pub piece_codes : ℕ → ℕ → List (Tri ℕ)
piece_codes w n = map (mapped edge_code) (map (renamed (point_of w)) (triangles_in n))

-- nothing yet
abbrev pub nothing : Case
nothing = record { triangles = []; steps = [] }

-- the step of a corner behind the others, unless its edge ends below the highest point, or the step is there already
abbrev pub with_met : Case → ℕ → Case
with_met k code =
    cond (nat_lt code 56 || nat_lt 0 (times nat_eq (code - 56) k.steps)) k
    (record { triangles = k.triangles; steps = pushed 7 k.steps (code - 56) })

-- a triangle and the corners that it meets first
abbrev pub with_triangle : Case → Tri ℕ → Case
with_triangle k (tri a b c) =
    with_met (with_met (with_met (record { triangles = pushed 12 k.triangles (a ∷ b ∷ c ∷ []); steps = k.steps }) a) b) c

-- some triangles, one after the other
abbrev pub with_triangles : Case → List (Tri ℕ) → Case
with_triangles k [] = k
with_triangles k (t ∷ ts) = with_triangles (with_triangle k t) ts
