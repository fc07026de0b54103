-- Around each corner of the skin there is one closed walk, and each edge of the grid from inside to outside is a corner.
-- Assumes nothing.
use Rattle.std.proofs.Common.{◌≡◌, ℕ, zero, suc, ◌+◌, ◌<◌, Bool, true, false, cond, not, ◌&&◌, ◌||◌, ◌≢◌, List, [], ◌∷◌, map, sym, refl, ap, ◌∙◌, subst, subst₂, inl, inr, add-zero, arith}
use Rattle.std.specs.List.{flat_map, filter, AllByRecursion}
use Rattle.std.proofs.lemmas.Bool.{and_parts, or_cases, both_ways, cond_both, false≢true}
use Rattle.std.proofs.ByRecursion.{All-weaker}
use Rattle.theory.specs.Grid.{Point, pt, same_point, Offset, off, lowest, raised, ◌⊕◌, pieces, Border}
use Rattle.theory.specs.Triangle.{edge, sum_of, read_from, around, walk}
use Rattle.theory.specs.Skin.{Corner, Triangle, same, cube, skin}
use Rattle.theory.specs.Faces.{Name, n0, n1, n2, n3, over_cubes}
use Rattle.theory.specs.Closed.{Neighbours, Parted}
use Rattle.theory.proofs.Sums.{sum_joined, sum_map, sum_same, sum_ones, sum_skin, sum_cube}
use Rattle.theory.proofs.Same.{same_point_true, same_true, all, all_every, both, both_at}
use Rattle.theory.proofs.Around.{with_corner_length}
use Rattle.theory.proofs.Closing.{ClosedWalks}
use Rattle.theory.proofs.Walks.{Leads, trail, chained, leads_trail, every_all, sum_walk_map}
use Rattle.theory.proofs.Near.{read, lift, shift, shift_⊕, after, around_near}
use Rattle.theory.proofs.Crossings.{Crossing, skin_crosses, corner_of}
use Rattle.theory.proofs.Pieces.{Four, four, at, each, at_each, any_bits, any_bits_at, named, cut_four, in_piece_four, names, moved}

-- The idea. The inside point of a corner is moved to 1 1 1, where eight cubes with 48 pieces meet. For each of the 14 edges at it, the
-- pieces that have the edge can be followed around it, each from one face at the edge to the next. In a face at the edge the skin has one
-- side, from the corner to its mate there. In a piece, whoever of its other points is inside, the triangles that have the corner can be
-- followed from the mate in the one face to the mate in the other. No other piece has a triangle with the corner. All this is closed data
-- and one computed test, of 16 patterns a piece; the walks through the pieces are then put together.

abbrev centre : Point
centre = pt 1 1 1

-- the lowest points of the eight cubes, and their 48 pieces
abbrev lows : List Point
lows = pt 0 0 0 ∷ pt 1 0 0 ∷ pt 0 1 0 ∷ pt 1 1 0 ∷ pt 0 0 1 ∷ pt 1 0 1 ∷ pt 0 1 1 ∷ pt 1 1 1 ∷ []

block : List (Four Point)
block = flat_map (λ l. map (λ w. each (λ o. l ⊕ o) (named w)) pieces) lows

sum_block : (h : Triangle → ℕ) (f : Point → Bool) → sum_of h (skin f 2 2 2) ≡ sum_of (λ q. sum_of h (cut_four (each f q) q)) block
unfolding block
sum_block h f =
    sum_skin h f 2 2 2 ∙ over (λ l. sum_of h (cube f l))
    ∙ sum_same _ _ (λ l.
    sum_cube h f l ∙ sum_same _ _ (λ w. ap (sum_of h) (in_piece_four f l w)) pieces
    ∙ sym (sum_map (λ q. sum_of h (cut_four (each f q) q)) (λ w. each (λ o. l ⊕ o) (named w)) pieces)) lows
    ∙ sym (sum_joined (λ q. sum_of h (cut_four (each f q) q)) (λ l. map (λ w. each (λ o. l ⊕ o) (named w)) pieces) lows)
  where
    over : (k : Point → ℕ) → over_cubes 2 2 2 k ≡ sum_of k lows
    over k = omega arith

-- The orders of four names that turn as 0 1 2 3 does: in i j k l, the triangles that have the corner from i to j lead, read from it, from
-- the face with k to the face with l.
orders : List (Four Name)
orders =
    four n0 n1 n2 n3 ∷ four n0 n2 n3 n1 ∷ four n0 n3 n1 n2 ∷ four n1 n0 n3 n2 ∷ four n1 n2 n0 n3 ∷ four n1 n3 n2 n0
    ∷ four n2 n0 n1 n3 ∷ four n2 n1 n3 n0 ∷ four n2 n3 n0 n1 ∷ four n3 n0 n2 n1 ∷ four n3 n1 n0 n2 ∷ four n3 n2 n1 n0 ∷ []

-- the first element that passes a test, or another
abbrev pick : {A : Type 0} → (A → Bool) → A → List A → A
pick t d [] = d
pick t d (x ∷ xs) = cond (t x) x (pick t d xs)

abbrev none : {A : Type 0} → List A → Bool
none [] = true
none (x ∷ xs) = false

-- about the edge from the centre to n
module _ (n : Point) where
  -- the first two of the piece's points, in the order t, are the edge's
  abbrev runs_there : Four Point → Four Name → Bool
  runs_there q t = same_point (at q (at t n0)) centre && same_point (at q (at t n1)) n

  order : Four Point → Four Name
  order q = pick (runs_there q) names orders

  -- the piece has the edge
  abbrev touches : Four Point → Bool
  touches q = runs_there q (order q)

  -- it leads from the face with this point …
  abbrev first : Four Point → Point
  first q = at q (at (order q) n2)

  -- … to the face with this one
  abbrev last : Four Point → Point
  last q = at q (at (order q) n3)

  -- the other corner of the skin in the face with r, by whether r is inside
  abbrev mate : Bool → Point → Corner
  mate b r = cond b (edge r n) (edge centre r)

  abbrev mate_of : Four Bool → Four Point → Name → Corner
  mate_of b q i = mate (at b i) (at q i)

  -- the triangles of the piece that have the corner, read from it
  abbrev seen : Four Bool → Four Point → List (Corner × Corner)
  seen b q = around same (edge centre n) (cut_four b q)

  -- if the edge runs from inside to outside, these can be followed from face to face
  followed : Four Point → Four Bool → Bool
  followed q b =
      not (at b (at (order q) n0)) || (at b (at (order q) n1)
      || chained same (λ s. s.0) (λ s. s.1) (mate_of b q (at (order q) n2))
      (trail same (λ s. s.0) (λ s. s.1) 2 (mate_of b q (at (order q) n2)) (seen b q)) (mate_of b q (at (order q) n3)))

  -- the pieces that have the edge, one after the other
  start : Point
  start = first (pick touches (four centre centre centre centre) block)

  ring : List (Four Point)
  ring = trail same_point first last 6 start (filter touches block)

  -- the pieces that have the edge can be followed around it, and in no other piece has a triangle the corner
  closes : Bool
  closes =
      chained same_point first last start ring start
      && (all (λ q. touches q && any_bits (followed q)) ring && all (λ q. touches q || any_bits (λ b. none (seen b q))) block)

-- the neighbour of the centre by a step up, or down
abbrev toward : Bool → Offset → Point
toward true o = centre ⊕ o
toward false (off a b c) = pt (raised (not a) 0) (raised (not b) 0) (raised (not c) 0)

-- a test that passes at each step
abbrev any_step : (Offset → Bool) → Bool
any_step t = both (λ a. both (λ b. both (λ c. not (a || (b || c)) || t (off a b c))))

all_close : both (λ up. any_step (λ o. closes (toward up o))) ≡ true
unfolding closes ring start followed order orders block trail same same_point read_from
all_close = refl

any_step_at : (t : Offset → Bool) → any_step t ≡ true → (o : Offset) → o ≢ lowest → t o ≡ true
any_step_at t e (off a b c) d =
    elim (or_cases (not (a || (b || c))) (t (off a b c)) (both_at (λ c. stepped a b c)
    (both_at (λ b. both (λ c. stepped a b c)) (both_at (λ a. both (λ b. both (λ c. stepped a b c))) e a) b) c))
    [ inl n ↦ absurd (d (still a b c n)) | inr p ↦ p ]
  where
    stepped : Bool → Bool → Bool → Bool
    stepped a b c = not (a || (b || c)) || t (off a b c)

    still : (a b c : Bool) → not (a || (b || c)) ≡ true → off a b c ≡ lowest
    still false false false n = refl
    still true b c n = absurd (false≢true n)
    still false true c n = absurd (false≢true n)
    still false false true n = absurd (false≢true n)

sum_kept_by :
    {A : Type 0} (h : A → ℕ) (t : A → Bool) (xs : List A) → AllByRecursion (λ x. t x ≡ false → h x ≡ 0) xs → sum_of h xs ≡ sum_of h (filter t xs)
sum_kept_by h t [] e = refl
sum_kept_by h t (x ∷ xs) e =
    let i = sum_kept_by h t xs e.1 in
    cond_both (t x) _ _ (λ ys. h x + sum_of h xs ≡ sum_of h ys) (λ _. ap (λ n. h x + n) i) (λ k. let z = e.0 k in omega arith)

sum_when_none : {A : Type 0} (h : A → ℕ) (xs : List A) → none xs ≡ true → sum_of h xs ≡ 0
sum_when_none h [] e = refl
sum_when_none h (x ∷ xs) e = absurd (false≢true e)

module _ (f : Point → Bool) (n : Point) (inside : f centre ≡ true) (outside : f n ≡ false) where
  piece_leads :
      (q : Four Point) → (touches n q && any_bits (followed n q)) ≡ true →
      Leads (λ h. sum_of h (seen n (each f q) q)) (mate n (f (first n q)) (first n q)) (mate n (f (last n q)) (last n q))
  unfolding followed
  piece_leads q e =
      let t = order n q in
      let b = each f q in
      let p = and_parts (touches n q) (any_bits (followed n q)) e in
      let r = and_parts (same_point (at q (at t n0)) centre) (same_point (at q (at t n1)) n) p.0 in
      let i : at b (at t n0) ≡ true = at_each f q (at t n0) ∙ ap f (same_point_true _ _ r.0) ∙ inside in
      let o : at b (at t n1) ≡ false = at_each f q (at t n1) ∙ ap f (same_point_true _ _ r.1) ∙ outside in
      let w = any_bits_at (followed n q) p.1 b in
      subst₂ (λ c d. Leads (λ h. sum_of h (seen n b q)) (mate n c (first n q)) (mate n d (last n q)))
      (at_each f q (at t n2)) (at_each f q (at t n3))
      (leads_trail same (λ s. s.0) (λ s. s.1) (λ c. c) (λ h s. h s) same_true
      2 (mate_of n b q (at t n2)) (seen n b q) (mate_of n b q (at t n3)) (rw (i, o) at w) (every_all _ (λ s. ([], λ h. sym (add-zero (h s)))) _))

  block_ring :
      closes n ≡ true →
      Leads (λ h. sum_of h (around same (edge centre n) (skin f 2 2 2))) (mate n (f (start n)) (start n)) (mate n (f (start n)) (start n))
  unfolding closes ring
  block_ring e =
      let p = and_parts (chained same_point (first n) (last n) (start n) (ring n) (start n)) _ e in
      let t = and_parts (all (λ q. touches n q && any_bits (followed n q)) (ring n))
      (all (λ q. touches n q || any_bits (λ b. none (seen n b q))) block) p.1 in
      let l = leads_trail same_point (first n) (last n) (λ r. mate n (f r) r) (λ h q. sum_of h (seen n (each f q) q)) same_point_true
      6 (start n) (filter (touches n) block) (start n) p.0 (All-weaker _ _ piece_leads (ring n) (all_every _ (ring n) t.0)) in (
        l.0,
        λ h.
            sum_joined h _ (skin f 2 2 2) ∙ sum_block (read h (edge centre n)) f
            ∙ sum_same _ _ (λ q. sym (sum_joined h _ (cut_four (each f q) q))) block
            ∙ sum_kept_by (λ q. sum_of h (seen n (each f q) q)) (touches n) block (All-weaker _ _ (λ q o k.
            elim (or_cases (touches n q) (any_bits (λ b. none (seen n b q))) o)
            [ inl d ↦ absurd (both_ways _ k d) | inr d ↦ sum_when_none h _ (any_bits_at (λ b. none (seen n b q)) d (each f q)) ])
            block (all_every _ block t.1))
            ∙ l.1 h,
      )

down : (a : Bool) (i u : ℕ) → suc u ≡ raised a i → i ≡ lift (raised (not a) 0) u
down false i u e = sym e
down true i u e = omega arith

-- a neighbour of the centre, moved, is one of the centre's neighbours, moved
neighbour_near :
    (u v w : ℕ) (q : Point) → Neighbours (pt (suc u) (suc v) (suc w)) q →
    (up : Bool) × (o : Offset) × (o ≢ lowest) × (q ≡ shift u v w (toward up o))
neighbour_near u v w (pt i j k) (off a b c, d, e) =
    elim e [
      | inl e ↦ (true, off a b c, d, e ∙ shift_⊕ u v w (pt 1 1 1) (off a b c))
      | inr e ↦
          let p : suc u ≡ raised a i = cc in let q : suc v ≡ raised b j = cc in let r : suc w ≡ raised c k = cc in
          (false, off a b c, d, λ t. pt (down a i u p t) (down b j v q t) (down c k w r t))
    ]

-- one closed walk around each edge of the grid from inside to outside
pub ring_around :
    (f : Point → Bool) (x y z : ℕ) → Border f x y z → (c : Corner) → Crossing f c →
    (d₀ : Corner) × (ds : List Corner) × ((h : Corner × Corner → ℕ) → sum_of h (around same c (skin f x y z)) ≡ sum_of h (walk d₀ ds d₀))
ring_around f x y z out (edge (pt zero v w) q) k = let a = out (pt zero v w) k.1 in absurd (omega arith)
ring_around f x y z out (edge (pt (suc u) zero w) q) k = let a = out (pt (suc u) zero w) k.1 in absurd (omega arith)
ring_around f x y z out (edge (pt (suc u) (suc v) zero) q) k = let a = out (pt (suc u) (suc v) zero) k.1 in absurd (omega arith)
ring_around f x y z out (edge (pt (suc u) (suc v) (suc w)) q) k =
    let a = out (pt (suc u) (suc v) (suc w)) k.1 in
    let s = neighbour_near u v w q k.0 in
    let n = toward s.0 s.1 in
    let g = shift u v w in
    let e = both_at (λ up. any_step (λ o. closes (toward up o))) all_close s.0 in
    let r = block_ring (λ p. f (g p)) n k.1 (ap f (sym s.3) ∙ k.2) (any_step_at (λ o. closes (toward s.0 o)) e s.1 s.2) in
    let d = mate n (f (g (start n))) (start n) in (
      moved g d,
      map (moved g) r.0,
      λ h.
          ap (λ q. sum_of h (around same (edge (pt (suc u) (suc v) (suc w)) q) (skin f x y z))) s.3
          ∙ around_near f x y z u v w a.0.1 a.1.1 a.2.1 n h ∙ r.1 (after g h) ∙ sym (sum_walk_map (moved g) h d d r.0),
    )

pub closed_walks : ClosedWalks
closed_walks f x y z out c k = ring_around f x y z out c (corner_of (Crossing f) c (skin f x y z) (skin_crosses f x y z) k)

walk_long : {C : Type 0} (a b : C) (ds : List C) → 0 < sum_of (λ s. 1) (walk a ds b)
walk_long a b [] = omega arith
walk_long a b (d ∷ ds) = omega arith

pub parted : Parted
parted f x y z out p q = (
  corner_of (Crossing f) (edge p q) (skin f x y z) (skin_crosses f x y z),
  λ k.
      let r = ring_around f x y z out (edge p q) k in
      subst (λ n. 0 < n)
      (sym (with_corner_length same (edge p q) (skin f x y z) ∙ sym (sum_ones _) ∙ r.2 (λ s. 1)))
      (walk_long r.0 r.0 r.1),
)
