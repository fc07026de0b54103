-- A sum of determinants, as what its falling diagonals have more than its rising ones. Assumes nothing.
use Rattle.std.proofs.Common.{◌≡◌, ℕ, ◌+◌, List, [], ◌∷◌, map, pos, ◌+ℤ◌, ◌-ℤ◌, neg_ℤ, sym, refl, ap, ◌∙◌, ap₂, arith}
use lib.IntN.{neg_ℤ-+ℤ}
use Rattle.std.proofs.lemmas.Int.{ints}
use Rattle.theory.specs.Triangle.{Tri, tri, sum_of}
use Rattle.theory.specs.Places.{Place}
use Rattle.theory_volume.specs.Volume.{diagonals, determinant, six_volume, turned}
use Rattle.theory_volume.proofs.Form.{cyclic}

abbrev pub falling : {C : Type 0} → (C → Place) → Tri C → ℕ
falling at (tri a b c) = diagonals (at a) (at b) (at c)

abbrev pub rising : {C : Type 0} → (C → Place) → Tri C → ℕ
rising at (tri a b c) = diagonals (at a) (at c) (at b)

abbrev pub named : {C D : Type 0} → (C → D) → Tri C → Tri D
named g (tri a b c) = tri (g a) (g b) (g c)

pub minus_add : (a b c d : ℕ) → (pos a -ℤ pos b) +ℤ (pos c -ℤ pos d) ≡ pos (a + c) -ℤ pos (b + d)
minus_add a b c d = omega (arith, ints)

pub six_volume_parts :
    {C : Type 0} (at : C → Place) (ts : List (Tri C)) → six_volume at ts ≡ pos (sum_of (falling at) ts) -ℤ pos (sum_of (rising at) ts)
unfolding six_volume determinant
six_volume_parts at [] = omega (arith, ints)
six_volume_parts at (tri a b c ∷ ts) =
    ap (λ v. determinant (at a) (at b) (at c) +ℤ v) (six_volume_parts at ts)
    ∙ minus_add (diagonals (at a) (at b) (at c)) (diagonals (at a) (at c) (at b)) (sum_of (falling at) ts) (sum_of (rising at) ts)

pub minus_equal : (u w v : ℕ) → u ≡ w + v → pos u -ℤ pos w ≡ pos v
minus_equal u w v e = omega (arith, ints)

pub determinant_round : (p q r : Place) → determinant q r p ≡ determinant p q r
unfolding determinant
determinant_round p q r = ap₂ (λ m n. pos m -ℤ pos n) (sym (cyclic p q r)) (cyclic q p r)

pub minus_turned : (u w : ℕ) → pos w -ℤ pos u ≡ neg_ℤ (pos u -ℤ pos w)
minus_turned u w = omega (arith, ints)

pub six_volume_turned : {C : Type 0} (at : C → Place) (ts : List (Tri C)) → six_volume at (map turned ts) ≡ neg_ℤ (six_volume at ts)
unfolding six_volume determinant
six_volume_turned at [] = omega (arith, ints)
six_volume_turned at (tri a b c ∷ ts) =
    let u = diagonals (at a) (at b) (at c) in let w = diagonals (at a) (at c) (at b) in
    ap₂ (λ m n. m +ℤ n) (minus_turned u w) (six_volume_turned at ts) ∙ sym (neg_ℤ-+ℤ (pos u -ℤ pos w) (six_volume at ts))

-- triangles whose corners are named otherwise have the same sum
pub six_volume_named :
    {C D : Type 0} (at : D → Place) (g : C → D) (ts : List (Tri C)) → six_volume at (map (named g) ts) ≡ six_volume (λ c. at (g c)) ts
unfolding six_volume
six_volume_named at g [] = refl
six_volume_named at g (tri a b c ∷ ts) = ap (λ v. determinant (at (g a)) (at (g b)) (at (g c)) +ℤ v) (six_volume_named at g ts)
