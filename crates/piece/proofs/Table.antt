-- The constants hold what the table of triangles says in each of the sixteen cases, which is computed once for all of them; and the table
-- cuts every piece of every cube. Assumes nothing.
use Rattle.std.proofs.Common.{◌≡◌, ℕ, zero, suc, ◌/◌, ◌%◌, ◌<◌, Bool, eqb, List, [], ◌∷◌, map, get_or, Some, sym, refl, ap, ◌∙◌, arith}
use lib.Bits.{bit_and}
use Rattle.std.proofs.Math.ListN.{get_or-map}
use Rattle.std.specs.Borrow.{Bor}
use Rattle.std.specs.Option.{option_map_or}
use Rattle.std.specs.List.{AllByRecursion, range_with_len, slice_get}
use Rattle.std.proofs.lemmas.Nat.{and_mask, and_le_r}
use Rattle.std.proofs.lemmas.List.FromFn.{get_or-map-range_with_len}
use Rattle.theory.specs.Triangle.{Edge, edge, Tri, tri, corners}
use Rattle.theory.specs.Grid.{Point, Piece}
use Rattle.theory.specs.Skin.{cut, cut_by, in_piece}
use Rattle.theory.specs.Faces.{renamed}
use Rattle.theory.proofs.Same.{cut_renamed}
use Rattle.piece.specs.Table.{bit, triangles_in, unused, corners_of, corner_in, corner_point, CutByTable}

-- the triangles of a case are those of its four low bits
triangles_masked : (n : ℕ) → triangles_in (bit_and n 15) ≡ triangles_in n
triangles_masked n =
    let low : bit_and n 15 ≡ n % 16 = and_mask n 4 in
    let e0 : bit_and n 15 / 1 % 2 ≡ n / 1 % 2 = omega arith in
    let e1 : bit_and n 15 / 2 % 2 ≡ n / 2 % 2 = omega arith in
    let e2 : bit_and n 15 / 4 % 2 ≡ n / 4 % 2 = omega arith in
    let e3 : bit_and n 15 / 8 % 2 ≡ n / 8 % 2 = omega arith in
    λ i. cut (eqb (e0 i) 1) (eqb (e1 i) 1) (eqb (e2 i) 1) (eqb (e3 i) 1) 0 1 2 3

-- what a list that holds f of each number below n holds at one of them
get_or_right : {X : Type 0} (f : ℕ → X) (n k : ℕ) (d : X) → k < n → get_or (map f (range_with_len 0 n)) k d ≡ f k
get_or_right f n k d h = get_or-map-range_with_len f 0 n k k d h (omega arith)

-- the table that holds something of the triangles of each case, which is computed and compared with the code's constant
abbrev pub table_of : {X : Type 0} → (List (Tri (Edge ℕ)) → X) → List X
table_of entry = map (λ n. entry (triangles_in n)) (range_with_len 0 16)

pub at_case : {X : Type 0} (entry : List (Tri (Edge ℕ)) → X) (d : X) (n : ℕ) → get_or (table_of entry) (bit_and n 15) d ≡ entry (triangles_in n)
at_case entry d n =
    get_or_right (λ k. entry (triangles_in k)) 16 (bit_and n 15) d (omega (arith, and_le_r n 15)) ∙ ap entry (triangles_masked n)

-- the same of a table of what is lent, entry by entry
pub at_case_lent : {X : Type 0} (entry : List (Tri (Edge ℕ)) → X) (r0 r1 r2 r3 r4 r5 r6 r7 r8 r9 ra rb rc rd re rf : Bor X) (d : Bor X) (n : ℕ) → map (λ r. r.now) (r0 ∷ r1 ∷ r2 ∷ r3 ∷ r4 ∷ r5 ∷ r6 ∷ r7 ∷ r8 ∷ r9 ∷ ra ∷ rb ∷ rc ∷ rd ∷ re ∷ rf ∷ []) ≡ table_of entry → (get_or (r0 ∷ r1 ∷ r2 ∷ r3 ∷ r4 ∷ r5 ∷ r6 ∷ r7 ∷ r8 ∷ r9 ∷ ra ∷ rb ∷ rc ∷ rd ∷ re ∷ rf ∷ []) (bit_and n 15) d).now ≡ entry (triangles_in n)
at_case_lent entry r0 r1 r2 r3 r4 r5 r6 r7 r8 r9 ra rb rc rd re rf d n same =
    sym (get_or-map (λ r. r.now) (r0 ∷ r1 ∷ r2 ∷ r3 ∷ r4 ∷ r5 ∷ r6 ∷ r7 ∷ r8 ∷ r9 ∷ ra ∷ rb ∷ rc ∷ rd ∷ re ∷ rf ∷ []) (bit_and n 15) d) ∙ ap (λ l. get_or l (bit_and n 15) d.now) same ∙ at_case entry d.now n

abbrev edge_of : ℕ × ℕ → Edge ℕ
edge_of p = edge p.0 p.1

-- a corner of a triangle by its names, and one of a triangle that is not there
names_at : (t : Tri (Edge ℕ)) (i : ℕ) (d : ℕ × ℕ) → i < 3 → edge_of (get_or (corners_of t) i d) ≡ get_or (corners t) i unused
names_at (tri (edge p q) b c) zero d l = refl
names_at (tri a (edge p q) c) (suc zero) d l = refl
names_at (tri a b (edge p q)) (suc (suc zero)) d l = refl
names_at (tri a b c) (suc (suc (suc i))) d l = absurd (omega arith)

pub names_found : (ts : List (Tri (Edge ℕ))) (k i : ℕ) (d : ℕ × ℕ) → i < 3 → edge_of (option_map_or (λ cs. get_or cs i d) (slice_get (map corners_of ts) k) (0, 0)) ≡ corner_in ts k i
names_found [] k zero d l = refl
names_found [] k (suc zero) d l = refl
names_found [] k (suc (suc zero)) d l = refl
names_found [] k (suc (suc (suc i))) d l = absurd (omega arith)
names_found (t ∷ ts) zero i d l = names_at t i d l
names_found (t ∷ ts) (suc k) i d l = names_found ts k i d l

-- a piece whose points stand in the order of their names
cut_named : (f : Point → Bool) (g : ℕ → Point) (n : ℕ) → AllByRecursion (λ i. bit n i ≡ f (g i)) (0 ∷ 1 ∷ 2 ∷ 3 ∷ []) → cut_by f (g 0) (g 1) (g 2) (g 3) ≡ map (renamed g) (triangles_in n)
cut_named f g n e =
    sym (λ i. cut (e.0 i) (e.1.0 i) (e.1.1.0 i) (e.1.1.1.0 i) (g 0) (g 1) (g 2) (g 3))
    ∙ cut_renamed g (bit n 0) (bit n 1) (bit n 2) (bit n 3) 0 1 2 3

same_piece : (f : Point → Bool) (p : Point) (x y : Piece) → Some x ≡ Some y → in_piece f p y ≡ in_piece f p x
same_piece f p x y e = let same : y ≡ x = cc in ap (in_piece f p) same

pub cut_by_table : CutByTable
unfolding in_piece
cut_by_table f p zero n x e h = same_piece f p _ x e ∙ cut_named f (corner_point p 0) n h
cut_by_table f p (suc zero) n x e h = same_piece f p _ x e ∙ cut_named f (corner_point p 1) n h
cut_by_table f p (suc (suc zero)) n x e h = same_piece f p _ x e ∙ cut_named f (corner_point p 2) n h
cut_by_table f p (suc (suc (suc zero))) n x e h = same_piece f p _ x e ∙ cut_named f (corner_point p 3) n h
cut_by_table f p (suc (suc (suc (suc zero)))) n x e h = same_piece f p _ x e ∙ cut_named f (corner_point p 4) n h
cut_by_table f p (suc (suc (suc (suc (suc zero))))) n x e h = same_piece f p _ x e ∙ cut_named f (corner_point p 5) n h
cut_by_table f p (suc (suc (suc (suc (suc (suc w)))))) n x e h = cc
