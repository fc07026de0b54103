-- The tests of sameness of points and corners mean equality; the table is one table for every sort of point; and what a computed test
-- says is taken out of it. Assumes nothing.
use Rattle.std.proofs.Common.{◌≡◌, Bool, true, false, ◌&&◌, eqb, List, [], ◌∷◌, map, refl}
use Rattle.std.proofs.lemmas.Bool.{and_parts, and_from, eqb-true, eq-eqb}
use Rattle.std.specs.List.{AllByRecursion}
use Rattle.theory.specs.Grid.{Point, pt, same_point}
use Rattle.theory.specs.Triangle.{edge}
use Rattle.theory.specs.Skin.{Corner, same, cut}
use Rattle.theory.specs.Faces.{renamed}

pub same_point_true : (p q : Point) → same_point p q ≡ true → p ≡ q
unfolding same_point
same_point_true (pt x y z) (pt u v w) e =
    let a = and_parts (eqb x u) (eqb y v && eqb z w) e in
    let b = and_parts (eqb y v) (eqb z w) a.1 in
    λ i. pt (eqb-true x u a.0 i) (eqb-true y v b.0 i) (eqb-true z w b.1 i)

pub same_point_refl : (p : Point) → same_point p p ≡ true
unfolding same_point
same_point_refl (pt x y z) = and_from _ _ (eq-eqb x x refl) (and_from _ _ (eq-eqb y y refl) (eq-eqb z z refl))

pub same_true : (c d : Corner) → same c d ≡ true → c ≡ d
unfolding same
same_true (edge p q) (edge r s) e =
    let a = and_parts (same_point p r) (same_point q s) e in
    λ i. edge (same_point_true p r a.0 i) (same_point_true q s a.1 i)

pub same_refl : (c : Corner) → same c c ≡ true
unfolding same
same_refl (edge p q) = and_from _ _ (same_point_refl p) (same_point_refl q)

-- the table commutes with any map of points
pub cut_renamed : {P Q : Type 0} (g : P → Q) (a b c d : Bool) (p0 p1 p2 p3 : P) → cut a b c d (g p0) (g p1) (g p2) (g p3) ≡ map (renamed g) (cut a b c d p0 p1 p2 p3)
cut_renamed g false false false false p0 p1 p2 p3 = refl
cut_renamed g true false false false p0 p1 p2 p3 = refl
cut_renamed g false true false false p0 p1 p2 p3 = refl
cut_renamed g false false true false p0 p1 p2 p3 = refl
cut_renamed g false false false true p0 p1 p2 p3 = refl
cut_renamed g true true false false p0 p1 p2 p3 = refl
cut_renamed g true false true false p0 p1 p2 p3 = refl
cut_renamed g false true true false p0 p1 p2 p3 = refl
cut_renamed g true false false true p0 p1 p2 p3 = refl
cut_renamed g false true false true p0 p1 p2 p3 = refl
cut_renamed g false false true true p0 p1 p2 p3 = refl
cut_renamed g true true true false p0 p1 p2 p3 = refl
cut_renamed g true true false true p0 p1 p2 p3 = refl
cut_renamed g true false true true p0 p1 p2 p3 = refl
cut_renamed g false true true true p0 p1 p2 p3 = refl
cut_renamed g true true true true p0 p1 p2 p3 = refl

-- a test that passes at each element of a list, and what it says there
abbrev pub all : {A : Type 0} → (A → Bool) → List A → Bool
all t [] = true
all t (x ∷ xs) = t x && all t xs

pub all_every : {A : Type 0} (t : A → Bool) (xs : List A) → all t xs ≡ true → AllByRecursion (λ x. t x ≡ true) xs
all_every t [] e = tt
all_every t (x ∷ xs) e = let p = and_parts (t x) (all t xs) e in (p.0, all_every t xs p.1)

-- a test that passes at both values of a bit
abbrev pub both : (Bool → Bool) → Bool
both t = t false && t true

pub both_at : (t : Bool → Bool) → both t ≡ true → (b : Bool) → t b ≡ true
both_at t e false = (and_parts (t false) (t true) e).0
both_at t e true = (and_parts (t false) (t true) e).1
