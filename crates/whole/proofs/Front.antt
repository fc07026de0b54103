-- What stands at the front of a buffer: places, three numbers to each, and triangles, four numbers to each. Assumes nothing.
use Rattle.std.proofs.Common.{◌≡◌, ℕ, zero, suc, ◌+◌, ◌*◌, ◌<◌, List, [], ◌∷◌, ◌++◌, length, get_or, sym, refl, ◌∙◌, subst, arith}
use Rattle.std.specs.List.{flat_map, AllByRecursion}
use Rattle.std.proofs.lemmas.List.FromFn.{fill_by_all, length-map-range_with_len, get_or-map-range_with_len}
use Rattle.std.proofs.ByRecursion.{All-get_or}
use Rattle.theory.specs.Grid.{pt}
use Rattle.theory.specs.Triangle.{Tri, tri}
use Rattle.theory.specs.Places.{Place}
use Rattle.theory_parts.specs.Buffer.{triangle_at, count_in, triangles_in}
use Rattle.corner.specs.Buffer.{coordinates}
use Rattle.triangle.specs.Output.{quad}
use Rattle.triangle.proofs.Buffers.{length_chunks}
use Rattle.triangle.proofs.Growth.{length_quad}
use Rattle.volume.specs.Buffer.{place_in}

place_next : (a b c : ℕ) (cs : List ℕ) (n : ℕ) → place_in (a ∷ b ∷ c ∷ cs) (suc n) ≡ place_in cs n
place_next a b c cs n =
    let x : 3 * suc n ≡ suc (suc (suc (3 * n))) = omega arith in
    let y : 3 * suc n + 1 ≡ suc (suc (suc (3 * n + 1))) = omega arith in
    let z : 3 * suc n + 2 ≡ suc (suc (suc (3 * n + 2))) = omega arith in
    λ i. pt (get_or (a ∷ b ∷ c ∷ cs) (x i) 0) (get_or (a ∷ b ∷ c ∷ cs) (y i) 0) (get_or (a ∷ b ∷ c ∷ cs) (z i) 0)

pub place_at_front :
    (ss : List Place) (more : List ℕ) (n : ℕ) (other : Place) → n < length ss → place_in (flat_map coordinates ss ++ more) n ≡ get_or ss n other
place_at_front [] more n other l = absurd (omega arith)
place_at_front (pt x y z ∷ ss) more zero other l = refl
place_at_front (pt x y z ∷ ss) more (suc n) other l =
    place_next x y z (flat_map coordinates ss ++ more) n ∙ place_at_front ss more n other (omega arith)

triangle_next : (a b c p : ℕ) (ns : List ℕ) (n : ℕ) → triangle_at (a ∷ b ∷ c ∷ p ∷ ns) (suc n) ≡ triangle_at ns n
triangle_next a b c p ns n =
    let x : 4 * suc n ≡ suc (suc (suc (suc (4 * n)))) = omega arith in
    let y : 4 * suc n + 1 ≡ suc (suc (suc (suc (4 * n + 1)))) = omega arith in
    let z : 4 * suc n + 2 ≡ suc (suc (suc (suc (4 * n + 2)))) = omega arith in
    let ms : List ℕ = a ∷ b ∷ c ∷ p ∷ ns in
    λ i. tri (get_or ms (x i) 0) (get_or ms (y i) 0) (get_or ms (z i) 0)

triangle_at_front : (ts : List (Tri ℕ)) (n : ℕ) (other : Tri ℕ) → n < length ts → get_or ts n other ≡ triangle_at (flat_map quad ts) n
triangle_at_front [] n other l = absurd (omega arith)
triangle_at_front (tri a b c ∷ ts) zero other l = refl
triangle_at_front (tri a b c ∷ ts) (suc n) other l =
    triangle_at_front ts n other (omega arith) ∙ sym (triangle_next a b c 0 (flat_map quad ts) n)

pub triangles_of_quads : (ts : List (Tri ℕ)) → triangles_in (flat_map quad ts) ≡ ts
triangles_of_quads ts =
    let long = length_chunks quad 4 length_quad ts in
    sym (fill_by_all (triangle_at (flat_map quad ts)) ts _ (tri 0 0 0) (omega arith) (λ n l. triangle_at_front ts n (tri 0 0 0) (omega arith)))

-- what holds of each triangle of a buffer holds at each place
pub triangle_of_each : (P : Tri ℕ → Type 0) (ns : List ℕ) → AllByRecursion P (triangles_in ns) → (i : ℕ) → i < count_in ns → P (triangle_at ns i)
triangle_of_each P ns all i l =
    let here = All-get_or P (triangles_in ns) i (tri 0 0 0) (omega (arith, length-map-range_with_len (triangle_at ns) 0 (count_in ns))) all in
    subst P (get_or-map-range_with_len (triangle_at ns) 0 (count_in ns) i i (tri 0 0 0) l (omega arith)) here
