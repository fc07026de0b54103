-- The skin encloses the pieces' inside parts: each piece is settled, and over all pieces the faces' shares cancel by the face law.
-- Assumes nothing.
use Rattle.std.proofs.Common.{◌≡◌, ℕ, ◌+◌, ◌*◌, Bool, true, false, List, [], ◌∷◌, pos, sym, refl, ap, ◌∙◌, zero-mul, arith}
use mathlib.Core.Path.{fun_ext, transport}
use Rattle.std.specs.List.{AllByRecursion}
use Rattle.theory.specs.Grid.{Point, pt, Offset, ◌⊕◌, Piece, way, pieces, Border}
use Rattle.theory.specs.Triangle.{sum_of, corners}
use Rattle.theory.specs.Skin.{Corner, Triangle, cut_by, in_piece, cube, skin}
use Rattle.theory.specs.Faces.{Face, face, turn, carried, against, with_clock, over_cubes, over_faces}
use Rattle.theory.specs.Places.{Place, place}
use Rattle.theory.proofs.Sums.{sum_joined, sum_skin, sum_cube}
use Rattle.theory.proofs.Law.{face_law, over_cubes_add}
use Rattle.theory_volume.specs.Volume.{diagonals, six_volume}
use Rattle.theory_volume.specs.Inside.{inside_by, inside_piece, inside_sum, Encloses}
use Rattle.theory_volume.proofs.Signs.{falling, rising, six_volume_parts, minus_equal}
use Rattle.theory_volume.proofs.Corners.{Fits, WithinSteps, in_range_within, pieces_fit, every_from_two}
use Rattle.theory_volume.proofs.Balance.{mark, share, Settled}
use Rattle.theory_volume.proofs.Patterns.{settled}

-- the points of a piece stand as the origin and one step along each axis do
abbrev Upright : Point → Point → Point → Point → Type 0
Upright p0 p1 p2 p3 =
    diagonals p1 p2 p3 + (diagonals p0 p3 p2 + (diagonals p0 p1 p3 + (diagonals p0 p2 p1 + 0)))
    ≡ diagonals p1 p3 p2 + (diagonals p0 p2 p3 + (diagonals p0 p3 p1 + (diagonals p0 p1 p2 + 0))) + 1

abbrev UprightPiece : Point → Piece → Type 0
UprightPiece l (way false a b c d) = Upright (l ⊕ a) (l ⊕ b) (l ⊕ c) (l ⊕ d)
UprightPiece l (way true a b c d) = Upright (l ⊕ a) (l ⊕ b) (l ⊕ d) (l ⊕ c)

pieces_upright : (l : Point) → AllByRecursion (UprightPiece l) pieces
pieces_upright (pt x y z) = omega arith

-- what is added to both sides of an equation for each cube, and has the same sums, falls away
cancelled :
    (x y z : ℕ) (u a b w c d v : Point → ℕ) → ((l : Point) → u l + (a l + b l) ≡ w l + (c l + d l) + v l) →
    over_cubes x y z a ≡ over_cubes x y z d → over_cubes x y z c ≡ over_cubes x y z b →
    over_cubes x y z u ≡ over_cubes x y z w + over_cubes x y z v
cancelled x y z u a b w c d v each s t =
    let m = ap (over_cubes x y z) (fun_ext each) in
    omega (
      arith,
      over_cubes_add x y z u (λ l. a l + b l),
      over_cubes_add x y z a b,
      over_cubes_add x y z (λ l. w l + (c l + d l)) v,
      over_cubes_add x y z w (λ l. c l + d l),
      over_cubes_add x y z c d,
    )

module _ (f : Point → Bool) (k : Corner → ℕ) where
  -- a face's inside share times the falling diagonals of its points
  abbrev shared : Face Point → ℕ
  shared (face p q r) = share k (f p) (f q) (f r) p q r * diagonals p q r

  abbrev shared_back : Face Point → ℕ
  shared_back t = shared (turn t)

  abbrev over : (Face Point → ℕ) → Point → List (Face Offset) → ℕ
  over g l ts = sum_of (λ t. g (carried l t)) ts

  -- what a piece has: its triangles and its faces on the one side, and on the other its inside part besides
  abbrev Balanced : Point → Piece → Type 0
  Balanced l w =
      sum_of (falling (place k)) (in_piece f l w) + (over shared l (against w) + over shared_back l (with_clock w))
      ≡ sum_of (rising (place k)) (in_piece f l w) + (over shared_back l (against w) + over shared l (with_clock w)) + inside_piece f k l w

  upright_sums : (u w v a b s t : ℕ) → u + a + v * s ≡ w + b + v * t → t ≡ s + 1 → u + a ≡ w + b + v
  upright_sums u w v a b s t e g = let h = ap (λ r. v * r) g in omega arith

  settled_by :
      (p0 p1 p2 p3 : Point) → AllByRecursion (λ t. AllByRecursion (Fits k) (corners t)) (cut_by f p0 p1 p2 p3) →
      Settled k (inside_by k f p0 p1 p2 p3)
      (sum_of (falling (place k)) (cut_by f p0 p1 p2 p3)) (sum_of (rising (place k)) (cut_by f p0 p1 p2 p3))
      (mark (f p0) p0) (mark (f p1) p1) (mark (f p2) p2) (mark (f p3) p3)
  settled_by p0 p1 p2 p3 = settled k (f p0) (f p1) (f p2) (f p3) p0 p1 p2 p3

  piece_balanced :
      (l : Point) (w : Piece) → AllByRecursion (λ t. AllByRecursion (Fits k) (corners t)) (in_piece f l w) → UprightPiece l w → Balanced l w
  unfolding in_piece inside_piece
  piece_balanced l (way false a b c d) fits up =
      let e = upright_sums _ _ _ _ _ _ _ (settled_by (l ⊕ a) (l ⊕ b) (l ⊕ c) (l ⊕ d) fits).sums up in omega arith
  piece_balanced l (way true a b c d) fits up =
      let e = upright_sums _ _ _ _ _ _ _ (settled_by (l ⊕ a) (l ⊕ b) (l ⊕ d) (l ⊕ c) fits).sums up in omega arith

  -- equations of the parts add up
  sum_balanced :
      {A : Type 0} (u a b w c d v : A → ℕ) (xs : List A) → AllByRecursion (λ x. u x + (a x + b x) ≡ w x + (c x + d x) + v x) xs →
      sum_of u xs + (sum_of a xs + sum_of b xs) ≡ sum_of w xs + (sum_of c xs + sum_of d xs) + sum_of v xs
  sum_balanced u a b w c d v [] e = refl
  sum_balanced u a b w c d v (x ∷ xs) e = let h = sum_balanced u a b w c d v xs e.1 in omega arith

  cube_balanced :
      WithinSteps k f → (l : Point) →
      sum_of (falling (place k)) (cube f l) + (over_faces shared against l + over_faces shared_back with_clock l)
      ≡ sum_of (rising (place k)) (cube f l) + (over_faces shared_back against l + over_faces shared with_clock l)
      + sum_of (inside_piece f k l) pieces
  cube_balanced within l =
      transport
      (λ i. cubes falling i + (faced shared against i + faced shared_back with_clock i)
      ≡ cubes rising i + (faced shared_back against i + faced shared with_clock i) + sum_of (inside_piece f k l) pieces)
      (sum_balanced (λ w. sum_of (falling (place k)) (in_piece f l w)) (λ w. over shared l (against w)) (λ w. over shared_back l (with_clock w))
      (λ w. sum_of (rising (place k)) (in_piece f l w)) (λ w. over shared_back l (against w)) (λ w. over shared l (with_clock w))
      (inside_piece f k l) pieces
      (every_from_two _ _ (Balanced l) (piece_balanced l) pieces
      (pieces_fit k f within l) (pieces_upright l)))
    where
      cubes : (h : (Corner → Place) → Triangle → ℕ) →
          sum_of (λ w. sum_of (h (place k)) (in_piece f l w)) pieces ≡ sum_of (h (place k)) (cube f l)
      cubes h = sym (sum_cube (h (place k)) f l)

      faced : (g : Face Point → ℕ) (some : Piece → List (Face Offset)) → sum_of (λ w. over g l (some w)) pieces ≡ over_faces g some l
      faced g some = sym (sum_joined (λ t. g (carried l t)) some pieces)

  share_none : (p q r : Point) → f p ≡ false → f q ≡ false → f r ≡ false → shared (face p q r) ≡ 0
  share_none p q r a b c = rw (a, b, c) (zero-mul (diagonals p q r))

  -- over all cubes the shares of the faces are as many on either side
  enclosed_sums :
      (x y z : ℕ) → Border f x y z → WithinSteps k f →
      sum_of (falling (place k)) (skin f x y z) ≡ sum_of (rising (place k)) (skin f x y z) + inside_sum f k x y z
  unfolding inside_sum
  enclosed_sums x y z border within =
      transport
      (λ i. sym (sum_skin (falling (place k)) f x y z) i
      ≡ sym (sum_skin (rising (place k)) f x y z) i + over_cubes x y z (λ l. sum_of (inside_piece f k l) pieces))
      (cancelled x y z (λ l. sum_of (falling (place k)) (cube f l)) _ _ (λ l. sum_of (rising (place k)) (cube f l)) _ _ _ (cube_balanced within)
      (face_law f x y z border shared share_none) (face_law f x y z border shared_back (λ p q r a b c. share_none p r q a c b)))

pub encloses_within :
    (f : Point → Bool) (x y z : ℕ) → Border f x y z → (k : Corner → ℕ) → WithinSteps k f →
    six_volume (place k) (skin f x y z) ≡ pos (inside_sum f k x y z)
encloses_within f x y z border k within =
    six_volume_parts (place k) (skin f x y z) ∙ minus_equal _ _ _ (enclosed_sums f k x y z border within)

pub encloses : Encloses
encloses f x y z border k range = encloses_within f x y z border k (in_range_within k f range)
