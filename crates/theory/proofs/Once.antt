-- No side is run twice in a skin, whatever is inside. Assumes nothing.
use Rattle.std.proofs.Common.{◌≡◌, ℕ, suc, ◌+◌, ◌-◌, ◌*◌, ◌≤◌, Bool, true, false, ◌&&◌, eqb, leb, List, [], ◌∷◌, map, sym, refl, ap, ◌∙◌, subst, ap₂, subst₂, arith}
use mathlib.Core.Bool.{beq}
use Rattle.std.proofs.ByRecursion.{All-weaker}
use Rattle.std.proofs.lemmas.Bool.{and_parts, eqb-true, leb-true}
use Rattle.std.specs.List.{flat_map}
use Rattle.theory.specs.Grid.{Point, pt, same_point, Offset, off, lowest, raised, ◌⊕◌, Piece, way, pieces}
use Rattle.theory.specs.Triangle.{Edge, edge, Tri, tri, sum_of, one_if, side, sides, steps, sides_of}
use Rattle.theory.specs.Skin.{Corner, same, in_piece, cube, skin}
use Rattle.theory.specs.Faces.{same_offset, renamed}
use Rattle.theory.proofs.Sums.{sum_joined, sum_map, sum_same, sum_skin, sum_cube}
use Rattle.theory.proofs.Bounds.{sum_le, none_or, one_cube}
use Rattle.theory.proofs.Same.{same_true, all, all_every}
use Rattle.theory.proofs.Patterns.{by_bits, piece_cut, at, same_edge, in_piece_at, same_point_at, same_at}
use Rattle.theory.proofs.Patterns.{both_four, whoever, pattern_at}

-- A side names its owner: how the second point of its first corner and the two of its second corner lie from its first point is the same
-- wherever the cube stands, and tells which piece has the side and which point of its cube the first point is. A table, computed from the
-- pieces, answers that; one test says that each side of each pattern finds itself in it, and stands in its pattern once.

-- how n lies from m: 0 is one step below, 1 the same, 2 one step above; what it is farther off does not matter, since no side goes there
from : ℕ → ℕ → ℕ
from m n = suc n - m

from_bit : Bool → Bool → ℕ
from_bit false false = 1
from_bit false true = 2
from_bit true false = 0
from_bit true true = 1

from_raised : (a b : Bool) (n : ℕ) → from (raised a n) (raised b n) ≡ from_bit a b
unfolding from from_bit
from_raised false false n = omega arith
from_raised false true n = omega arith
from_raised true false n = omega arith
from_raised true true n = omega arith

lies : Point → Point → ℕ
lies (pt x y z) (pt u v w) = from x u + 3 * (from y v + 3 * from z w)

lies_offset : Offset → Offset → ℕ
lies_offset (off a b c) (off d e g) = from_bit a d + 3 * (from_bit b e + 3 * from_bit c g)

lies_at : (l : Point) (a b : Offset) → lies (l ⊕ a) (l ⊕ b) ≡ lies_offset a b
unfolding lies lies_offset
lies_at (pt x y z) (off a b c) (off d e g) = simp from_raised

-- the key of a side
abbrev key : {P : Type 0} → (P → P → ℕ) → Edge P → Edge P → ℕ
key lies (edge p q) (edge r s) = lies p q + 27 * (lies p r + 27 * lies p s)

key_at : (l : Point) (c d : Edge Offset) → key lies (at l c) (at l d) ≡ key lies_offset c d
key_at l (edge a b) (edge e g) = simp lies_at

-- the piece that has a side, and where in the piece's cube the side's first point is
abbrev Owner : Type 0
Owner = Offset × Piece

find : ℕ → List (ℕ × Owner) → Owner
find n [] = (lowest, way false lowest lowest lowest lowest)
find n (e ∷ es) = elim (eqb n e.0) [ true ↦ e.1 | false ↦ find n es ]

-- a piece is known by its flag and its second point
abbrev same_piece : Piece → Piece → Bool
same_piece (way s a b c d) (way t e g h i) = beq s t && same_offset b g

abbrev Side : Type 0
Side = Edge Offset × Edge Offset

first_point : {P : Type 0} → Edge P → P
first_point (edge p q) = p

entry : Piece → Side → ℕ × Owner
entry w s = (key lies_offset s.0 s.1, (first_point s.0, w))

bits : List Bool
bits = false ∷ true ∷ []

table : List (ℕ × Owner)
table =
    flat_map (λ w. flat_map (λ i. flat_map (λ j. flat_map (λ k. flat_map (λ l.
    map (entry w) (flat_map sides_of (by_bits i j k l w))) bits) bits) bits) bits) pieces

-- a side of the piece w, one of the sides ss of a pattern, finds itself and is there once
finds : List (ℕ × Owner) → Piece → List Side → Side → Bool
finds es w ss s =
    let o = find (key lies_offset s.0 s.1) es in
    (same_offset o.0 (first_point s.0) && same_piece o.1 w)
    && eqb (steps same_edge s.0 s.1 ss) 1

own : List (ℕ × Owner) → Piece → List (Tri (Edge Offset)) → Bool
own es w ts = let ss = flat_map sides_of ts in all (finds es w ss) ss

-- over any table, so that the table is computed once
passes : List (ℕ × Owner) → Bool
passes es = all (λ w. whoever (own es w) w) pieces

each_finds_itself : passes table ≡ true
unfolding from_bit lies_offset find first_point entry bits table finds own passes
each_finds_itself = refl

owner : Corner → Corner → Owner
owner c d = find (key lies c d) table

-- 1 if the piece w of the cube at l is the side's owner
claim : Point → Piece → Corner → Corner → ℕ
claim l w c d = one_if (same_point (l ⊕ (owner c d).0) (first_point c) && same_piece (owner c d).1 w)

-- the side s of the cube at l is the one from c to d
abbrev hits : Point → Corner → Corner → Side → Bool
hits l c d s = same (at l s.0) c && same (at l s.1) d

sides_at : (l : Point) (c d : Corner) (ts : List (Tri (Edge Offset))) →
    sides same c d (map (renamed (λ o. l ⊕ o)) ts) ≡ sum_of (λ s. one_if (hits l c d s)) (flat_map sides_of ts)
unfolding side
sides_at l c d ts = sum_map (side same c d) (renamed (λ o. l ⊕ o)) ts ∙ sum_same _ _ one ts ∙ sym (sum_joined _ sides_of ts)
  where
    one : (t : Tri (Edge Offset)) → side same c d (renamed (λ o. l ⊕ o) t) ≡ sum_of (λ s. one_if (hits l c d s)) (sides_of t)
    one (tri (edge p q) (edge r s) (edge u v)) = omega arith

claim_at : (l : Point) (w : Piece) (c d : Edge Offset) →
    let o = find (key lies_offset c d) table in
    claim l w (at l c) (at l d) ≡ one_if (same_offset o.0 (first_point c) && same_piece o.1 w)
unfolding claim owner first_point
claim_at l w (edge a b) d =
    ap (λ n. one_if (same_point (l ⊕ (find n table).0) (l ⊕ a) && same_piece (find n table).1 w)) (key_at l (edge a b) d)
    ∙ ap (λ t. one_if (t && same_piece (find (key lies_offset (edge a b) d) table).1 w)) (same_point_at l _ a)

-- a side that the piece w has in the cube at l is had once, and claimed
found : (l : Point) (w : Piece) (ss : List Side) (s : Side) → finds table w ss s ≡ true →
    sum_of (λ r. one_if (hits l (at l s.0) (at l s.1) r)) ss ≤ claim l w (at l s.0) (at l s.1)
unfolding finds
found l w ss s e =
    let p = and_parts _ (eqb _ 1) e in
    let n = sum_same _ _ (λ r. ap₂ (λ t u. one_if (t && u)) (same_at l r.0 s.0) (same_at l r.1 s.1)) ss ∙ eqb-true _ 1 p.1 in
    let m = claim_at l w s.0 s.1 ∙ ap one_if p.0 in
    omega arith

claimed : (f : Point → Bool) (l : Point) (c d : Corner) (w : Piece) → own table w (piece_cut (λ o. f (l ⊕ o)) w) ≡ true →
    sides same c d (in_piece f l w) ≤ claim l w c d
unfolding own
claimed f l c d w h =
    let n = ap (sides same c d) (in_piece_at f l w) ∙ sides_at l c d (piece_cut (λ o. f (l ⊕ o)) w) in
    let r = none_or (Within c d) (hits l c d) ss (All-weaker _ _ one ss (all_every (finds table w ss) ss h)) in
    omega arith
  where
    ss : List Side
    ss = flat_map sides_of (piece_cut (λ o. f (l ⊕ o)) w)

    Within : Corner → Corner → Type 0
    Within c d = sum_of (λ s. one_if (hits l c d s)) ss ≤ claim l w c d

    one : (s : Side) → finds table w ss s ≡ true → hits l c d s ≡ true → Within c d
    one s e g = let p = and_parts (same (at l s.0) c) _ g in subst₂ Within (same_true _ _ p.0) (same_true _ _ p.1) (found l w ss s e)

-- one piece at most has a given flag and second point
one_piece : (b : Bool) (v : Piece) → sum_of (λ w. one_if (b && same_piece v w)) pieces ≤ one_if b
one_piece false v = omega arith
one_piece true (way s a (off i j k) c d) =
    leb-true _ 1 (both_four (λ s i j k. leb (sum_of (λ w. one_if (same_piece (way s a (off i j k) c d) w)) pieces) 1) refl s i j k)

cube_once : (f : Point → Bool) (l : Point) (c d : Corner) → sides same c d (cube f l) ≤ one_if (same_point (l ⊕ (owner c d).0) (first_point c))
unfolding passes claim
cube_once f l c d =
    let p = All-weaker _ _ (claimed f l c d) pieces (pattern_at (own table) each_finds_itself (λ o. f (l ⊕ o))) in
    let a = sum_cube (side same c d) f l in
    let b = sum_le (λ w. sides same c d (in_piece f l w)) (λ w. claim l w c d) pieces p in
    let e = one_piece (same_point (l ⊕ (owner c d).0) (first_point c)) (owner c d).1 in
    omega arith

pub side_at_most_once : (f : Point → Bool) (x y z : ℕ) (c d : Corner) → sides same c d (skin f x y z) ≤ 1
side_at_most_once f x y z c d =
    subst (λ n. n ≤ 1) (sym (sum_skin (side same c d) f x y z)) (one_cube _ (owner c d).0 (first_point c) (λ l. cube_once f l c d) x y z)
