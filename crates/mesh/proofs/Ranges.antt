-- What holds of each number of a list, and at each place; which lists can be written. Assumes nothing.
use Rattle.std.proofs.Common.{◌≡◌, ℕ, zero, suc, ◌/◌, ◌%◌, ◌^◌, ◌<◌, true, eqb, ltb, leb, List, [], ◌∷◌, length, get_or, arith}
use Rattle.std.specs.List.{AllByRecursion}
use Rattle.std.proofs.lemmas.Bool.{and_parts, ltb-true, eqb-true}
use Rattle.mesh.specs.Written.{skin_size, all_below, writable, InRange}

pub every_get_or : (P : ℕ → Type 0) (xs : List ℕ) (i : ℕ) → i < length xs → AllByRecursion P xs → P (get_or xs i 0)
every_get_or P [] i l a = absurd (omega arith)
every_get_or P (x ∷ xs) zero l a = a.0
every_get_or P (x ∷ xs) (suc i) l a = every_get_or P xs i (omega arith) a.1

pub every_from_get_or : (P : ℕ → Type 0) (xs : List ℕ) → ((i : ℕ) → P (get_or xs i 0)) → AllByRecursion P xs
every_from_get_or P [] a = tt
every_from_get_or P (x ∷ xs) a = (a 0, every_from_get_or P xs (λ i. a (suc i)))

pub every_from_test : (bound : ℕ) (xs : List ℕ) → all_below bound xs ≡ true → AllByRecursion (λ n. n < bound) xs
every_from_test bound [] e = tt
every_from_test bound (x ∷ xs) e =
    let p = and_parts (ltb x bound) (all_below bound xs) e in
    (ltb-true x bound p.0, every_from_test bound xs p.1)

pub in_range_from_test : (corners triangles : List ℕ) (parts room : ℕ) → writable corners triangles room ≡ true → parts < 2 ^ 32 → AllByRecursion (λ n. n < 2 ^ 32) triangles → InRange corners triangles parts
in_range_from_test xs ts parts room e p t =
    let a = and_parts (eqb (length xs % 3) 0) _ e in
    let b = and_parts (ltb (length xs / 3) (2 ^ 32)) _ a.1 in
    let c = and_parts (eqb (length ts % 4) 0) _ b.1 in
    let d = and_parts (ltb (length ts / 4) (2 ^ 32)) _ c.1 in
    let short = (and_parts (leb (skin_size xs ts) room) (all_below 65536 xs) d.1).1 in
    record {
      corners_whole = eqb-true _ 0 a.0;
      corners_few = ltb-true _ _ b.0;
      triangles_whole = eqb-true _ 0 c.0;
      triangles_few = ltb-true _ _ d.0;
      parts_few = p;
      coordinates_short = every_from_test 65536 xs short;
      numbers_short = t;
    }
