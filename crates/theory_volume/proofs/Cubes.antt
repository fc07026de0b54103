-- The corners in a piece lie in its cube, so the determinant of three of them is small. Assumes nothing.
use Rattle.std.proofs.Common.{◌≡◌, ℕ, ◌+◌, ◌-◌, ◌*◌, ◌^◌, ◌≤◌, Bool, true, false, nat_abs, sym, subst, subst₂, mul-le-mul, arith}
use mathlib.Core.Path.{transport}
use Rattle.std.specs.List.{AllByRecursion}
use Rattle.theory.specs.Grid.{Point, pt, Offset, off, raised, ◌⊕◌, Piece}
use Rattle.theory.specs.Triangle.{edge, tri, corners}
use Rattle.theory.specs.Skin.{Corner, Triangle, in_piece}
use Rattle.theory.specs.Places.{Place, between, place_at, place, point_place}
use Rattle.theory.proofs.Crossings.{cut_corners}
use Rattle.theory.proofs.Pieces.{at, each, at_each, named, in_piece_four}
use Rattle.theory_volume.specs.Volume.{diagonals, determinant}
use Rattle.theory_volume.specs.Sizes.{most_coordinate, CoordinatesTo, Small}
use Rattle.theory_volume.proofs.Form.{mix, cap}
use Rattle.theory_volume.proofs.Corners.{Fits}
use Rattle.theory_volume.proofs.Steps.{minus_size}

-- a coordinate of the lowest point of a cube, at most
abbrev pub most_lowest : ℕ
most_lowest = 256 * 94

-- how far past the cube's lowest point a corner lies along one axis
abbrev past : ℕ → Bool → Bool → ℕ
past k false false = 0
past k false true = k
past k true false = 256 - k
past k true true = 256

between_past : (k : ℕ) → k ≤ 256 → (a b : Bool) (x : ℕ) → between k (raised a x) (raised b x) ≡ 1 * (256 * x) + 1 * past k a b
between_past k l false false x = omega arith
between_past k l false true x = omega arith
between_past k l true false x = omega arith
between_past k l true true x = omega arith

past_most : (k : ℕ) → k ≤ 256 → (a b : Bool) → past k a b ≤ 256
past_most k l false false = omega arith
past_most k l false true = omega arith
past_most k l true false = omega arith
past_most k l true true = omega arith

-- a place at most one step past the lowest point of a cube, along each axis
pub record InCube (l : Point) (s : Place) : Type 0 where
  pub beyond : Place
  pub near : CoordinatesTo 256 beyond
  pub is : s ≡ mix 1 1 (point_place l) beyond

place_in_cube : (k : ℕ) → k ≤ 256 → (l : Point) (a b : Offset) → InCube l (place_at k (l ⊕ a) (l ⊕ b))
place_in_cube k f (pt x y z) (off a b c) (off d e g) =
    record {
      beyond = pt (past k a d) (past k b e) (past k c g);
      near = (past_most k f a d, past_most k f b e, past_most k f c g);
      is = λ i. pt (between_past k f a d x i) (between_past k f b e y i) (between_past k f c g z i);
    }

pub piece_in_cube :
    (k : Corner → ℕ) (f : Point → Bool) (l : Point) (w : Piece) →
    AllByRecursion (λ t. AllByRecursion (λ c. Fits k c → InCube l (place k c)) (corners t)) (in_piece f l w)
piece_in_cube k f l w =
    subst (AllByRecursion (λ t. AllByRecursion R (corners t))) (sym (in_piece_four f l w))
    (cut_corners R f (each (λ o. l ⊕ o) (named w)) (λ i j _ _.
    subst₂ (λ p q. R (edge p q)) (sym (at_each (λ o. l ⊕ o) (named w) i)) (sym (at_each (λ o. l ⊕ o) (named w) j))
    (λ fits. place_in_cube _ fits l (at (named w) i) (at (named w) j))))
  where
    R : Corner → Type 0
    R c = Fits k c → InCube l (place k c)

diagonals_most :
    (p q r : Place) (m n o : ℕ) → CoordinatesTo m p → CoordinatesTo n q → CoordinatesTo o r → diagonals p q r ≤ 3 * (m * (n * o))
diagonals_most (pt a b c) (pt d e g) (pt h i j) m n o x y z =
    let u = mul-le-mul x.0 (mul-le-mul y.1 z.2) in
    let v = mul-le-mul x.1 (mul-le-mul y.2 z.0) in
    let w = mul-le-mul x.2 (mul-le-mul y.0 z.1) in
    omega arith

-- the lowest point of a cube adds to a determinant only by its products with the small rests
mixed_small :
    (l p q r : Place) → CoordinatesTo most_lowest l → CoordinatesTo 256 p → CoordinatesTo 256 q → CoordinatesTo 256 r →
    nat_abs (determinant (mix 1 1 l p) (mix 1 1 l q) (mix 1 1 l r)) ≤ 2 ^ 34
unfolding determinant
mixed_small l p q r hl hp hq hr =
    let e = cap 1 1 1 1 1 1 l p q r in
    let a = diagonals_most p r l 256 256 most_lowest hp hr hl in
    let b = diagonals_most p l q 256 most_lowest 256 hp hl hq in
    let c = diagonals_most p r q 256 256 256 hp hr hq in
    let d = diagonals_most l r q most_lowest 256 256 hl hr hq in
    let a' = diagonals_most p l r 256 most_lowest 256 hp hl hr in
    let b' = diagonals_most p q l 256 256 most_lowest hp hq hl in
    let c' = diagonals_most p q r 256 256 256 hp hq hr in
    let d' = diagonals_most l q r most_lowest 256 256 hl hq hr in
    minus_size (diagonals (mix 1 1 l p) (mix 1 1 l q) (mix 1 1 l r)) (diagonals (mix 1 1 l p) (mix 1 1 l r) (mix 1 1 l q)) (2 ^ 34)
    (omega arith) (omega arith)

pub in_cube_small :
    (k : Corner → ℕ) (l : Point) → CoordinatesTo most_lowest (point_place l) → (t : Triangle) →
    AllByRecursion (λ c. InCube l (place k c)) (corners t) → Small (place k) t
in_cube_small k l far (tri a b c) h =
    let p = h.0 in let q = h.1.0 in let r = h.1.1.0 in
    transport (λ i. nat_abs (determinant (sym p.is i) (sym q.is i) (sym r.is i)) ≤ 2 ^ 34)
    (mixed_small (point_place l) p.beyond q.beyond r.beyond far p.near q.near r.near)

mixed_coordinates : (p q : Place) → CoordinatesTo most_lowest p → CoordinatesTo 256 q → CoordinatesTo most_coordinate (mix 1 1 p q)
mixed_coordinates (pt a b c) (pt d e g) x y = omega arith

pub in_cube_coordinates :
    (l : Point) (s : Place) → CoordinatesTo most_lowest (point_place l) → InCube l s → CoordinatesTo most_coordinate s
in_cube_coordinates l s far h =
    subst (CoordinatesTo most_coordinate) (sym h.is) (mixed_coordinates (point_place l) h.beyond far h.near)
