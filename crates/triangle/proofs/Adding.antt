-- The triangles of the six pieces, added one after the other, give the case of a cube; that is computed for each of the 256 cases.
-- Assumes nothing.
use Rattle.std.proofs.Common.{◌≡◌, ℕ, zero, suc, ◌+◌, ◌%◌, ◌<◌, Bool, true, false, eqb, ltb, List, [], ◌∷◌, ◌++◌, map, length, get_or, drop, sym, refl, ap, ◌∙◌, add-one, arith}
use Rattle.std.proofs.lemmas.List.FromFn.{get_or-map-range_with_len}
use Rattle.std.proofs.lemmas.List.{same_lists, drop_more, get_or-map, length-map, map-append}
use Rattle.std.proofs.lemmas.Bool.{eqb-true, eq-eqb, lt-ltb, le-ltb}
use Rattle.std.specs.List.{range_with_len, IsAnyAnswer, AllWithin}
use Rattle.theory.specs.Triangle.{Edge, edge, Tri, tri, one_if, times, corners}
use Rattle.theory.specs.Faces.{renamed}
use Rattle.theory.specs.Skin.{below}
use Rattle.theory_numbers.specs.Numbers.{mapped}
use Rattle.piece.specs.Table.{point_of, triangles_in, unused, no_triangle, corner_of}
use Rattle.triangle.specs.Cubes.{case_in}
use Rattle.triangle.specs.Cases.{edge_code, code_triangles, case_at, AllCases}
use Rattle.triangle.specs.Adding.{code_in, piece_codes, nothing, with_triangle, with_triangles}
use Rattle.triangle.specs.declared.cases.Case.{Case}
use Rattle.triangle.proofs.Tables.{at_most_two}

-- what `contains` answers
pub contained : (xs : List ℕ) (x : ℕ) (r : Bool) → IsAnyAnswer (λ y t. eqb y x ≡ t) xs r → ltb 0 (times eqb x xs) ≡ r
contained xs x true h = lt-ltb 0 _ (there xs h.0 h.1 (eqb-true _ x (h.2 0)))
  where
    there : (xs : List ℕ) (k : ℕ) → k < length xs → get_or xs k 0 ≡ x → 0 < times eqb x xs
    there [] k l e = absurd (omega arith)
    there (y ∷ ys) zero l e = omega (arith, ap one_if (eq-eqb y x e))
    there (y ∷ ys) (suc k) l e = omega (arith, there ys k (omega arith) e)
contained xs x false h = let no = none xs h in le-ltb 0 _ (omega arith)
  where
    none : (xs : List ℕ) → AllWithin (λ y. eqb y x ≡ false) xs 0 (length xs) → times eqb x xs ≡ 0
    none [] h = refl
    none (y ∷ ys) h =
        let other = h 0 y (omega arith) (omega arith) in
        omega (arith, none ys (λ k d _ l. h (suc k) d (omega arith) (omega arith)), ap one_if other)

-- one triangle less of a piece is left to add
pub piece_left :
    (w n t a b c : ℕ) → n < 16 → t < length (triangles_in n) →
    a ≡ code_in w (corner_of n t 0) → b ≡ code_in w (corner_of n t 1) → c ≡ code_in w (corner_of n t 2) →
    drop t (piece_codes w n) ≡ tri a b c ∷ drop (t + 1) (piece_codes w n)
piece_left w n t a b c low l ea eb ec =
    let ts = triangles_in n in
    let us = map (renamed (point_of w)) ts in
    let once : t ≡ t % 2 = omega (arith, at_most_two n low) in
    let long = length-map ts (renamed (point_of w)) in
    let long-coded = length-map us (mapped edge_code) in
    drop_more (piece_codes w n) t (tri 0 0 0) (omega arith)
    ∙ ap (λ u. u ∷ drop (t + 1) (piece_codes w n))
    (get_or-map (mapped edge_code) us t no_triangle (tri 0 0 0) (omega arith)
    ∙ ap (mapped edge_code) (get_or-map (renamed (point_of w)) ts t no_triangle no_triangle l)
    ∙ ap (λ t. mapped edge_code (renamed (point_of w) (get_or ts t no_triangle))) once
    ∙ coded (get_or ts (t % 2) no_triangle)
    ∙ (λ i. tri (sym ea i) (sym eb i) (sym ec i)))
  where
    coded :
        (u : Tri (Edge ℕ)) →
        mapped edge_code (renamed (point_of w) u)
        ≡ tri (code_in w (get_or (corners u) 0 unused)) (code_in w (get_or (corners u) 1 unused)) (code_in w (get_or (corners u) 2 unused))
    coded (tri (edge a b) (edge c d) (edge e g)) = refl

-- the triangles of a piece of a cube, and those of the pieces before one by the codes of their corners
abbrev in_cube : ℕ → ℕ → List (Tri (Edge ℕ))
in_cube bits w = map (renamed (point_of w)) (triangles_in (case_in bits w))

abbrev pub codes_before : ℕ → ℕ → List (Tri ℕ)
codes_before bits w = map (mapped edge_code) (below w (in_cube bits))

-- one piece more is added
pub piece_more :
    (bits w : ℕ) →
    with_triangles (with_triangles nothing (codes_before bits w)) (piece_codes w (case_in bits w))
    ≡ with_triangles nothing (codes_before bits (w + 1))
piece_more bits w =
    both nothing (codes_before bits w) (piece_codes w (case_in bits w))
    ∙ ap (with_triangles nothing)
    (sym (map-append (mapped edge_code) (below w (in_cube bits)) (in_cube bits w)) ∙ ap (codes_before bits) (sym (add-one w)))
  where
    both : (k : Case) (ts us : List (Tri ℕ)) → with_triangles (with_triangles k ts) us ≡ with_triangles k (ts ++ us)
    both k [] us = refl
    both k (t ∷ ts) us = both (with_triangle k t) ts us

-- all of them give what is owed
pub worked_out : (bits : ℕ) → bits < 256 → with_triangles nothing (code_triangles bits) ≡ case_at bits
worked_out bits l = sym (at (λ b. with_triangles nothing (code_triangles b))) ∙ ap (λ ks. get_or ks bits nothing) same ∙ at case_at
  where
    same : map (λ b. with_triangles nothing (code_triangles b)) (range_with_len 0 256) ≡ map case_at (range_with_len 0 256)
    same = refl

    at : (f : ℕ → Case) → get_or (map f (range_with_len 0 256)) bits nothing ≡ f bits
    at f = get_or-map-range_with_len f 0 256 bits bits nothing l (omega arith)

-- a list of 256 cases that has each at its place
pub all_at : (cases : List Case) → length cases ≡ 256 → ((b : ℕ) (d : Case) → b < 256 → get_or cases b d ≡ case_at b) → AllCases cases
all_at cases long each =
    same_lists cases (map case_at (range_with_len 0 256)) long
    (λ b d l. each b d (omega arith) ∙ sym (get_or-map-range_with_len case_at 0 256 b b d (omega arith) (omega arith)))
