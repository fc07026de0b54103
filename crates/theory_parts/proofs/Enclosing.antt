-- Each part of a skin is the skin of a region, seen from outside or from inside. Assumes nothing.
use Rattle.std.proofs.Common.{◌≡◌, ℕ, zero, suc, ◌<◌, ◌≤◌, Bool, true, false, not, ◌&&◌, ◌||◌, ◌⊎◌, ◌↔◌, List, [], ◌∷◌, sym, refl, ap, ◌∙◌, subst, ap₂, inl, inr, true≢false, arith}
use mathlib.Core.Bool.{xor, beq, and_comm, or_comm, false≢true}
use Rattle.std.proofs.ByRecursion.{All-weaker}
use Rattle.std.proofs.lemmas.Bool.{cases_lt, cond-true, cond_both}
use Rattle.std.specs.List.{filter, AllByRecursion}
use Rattle.theory.specs.Grid.{Point, pt, same_point, Offset, off, raised, ◌⊕◌, Piece, pieces, Amid, Border}
use Rattle.theory.specs.Triangle.{edge, tri, corners, sum_of, one_if, has, with_corner}
use Rattle.theory.specs.Skin.{Corner, Triangle, same, in_piece, skin}
use Rattle.theory.specs.Faces.{Name, n0, n1, n2, n3}
use Rattle.theory.specs.Closed.{Neighbours}
use Rattle.theory.proofs.Sums.{sum_same, every_skin}
use Rattle.theory.proofs.Same.{same_true, same_refl}
use Rattle.theory.proofs.Walks.{every_all}
use Rattle.theory.proofs.Crossings.{cut_corners}
use Rattle.theory.proofs.Rings.{parted}
use Rattle.theory.proofs.Pieces.{Four, four, at, each, at_each, each_each, named, cut_four, in_piece_four}
use Rattle.theory_parts.specs.Parts.{Stands}
use Rattle.theory_parts.specs.Regions.{Agree, on, OnePart, inside_out, Outer, Inner, Region, PartsEnclose}
use Rattle.theory_parts.proofs.Joining.{first_had}
use Rattle.theory_parts.proofs.Agreeing.{stands_every, joined_agree}
use Rattle.theory_parts.proofs.Levels.{bits_equal, Level, level}
use Rattle.theory_parts.proofs.Parity.{placed, odd_at, odd_border, Fits, fits}
use Rattle.theory_parts.proofs.Turning.{cut_none, turned}
use Rattle.theory_parts.proofs.Keeping.{every_in_skin, kept_skin, kept_none, kept_all, every_both}

-- The idea. Within a piece the test S has one value. Where it fails, the region is all or nothing; where it passes, the region is what is
-- inside or what is outside. Which of the two it is, the corners of a triangle say alike; so the whole part says it alike, and then the
-- triangles of the part are those of the region, or of its complement, piece by piece.

raised_up : (a : Bool) (n : ℕ) → n ≤ raised a n
raised_up false n = omega arith
raised_up true n = omega arith

each_same : {A B : Type 0} (g h : A → B) (q : Four A) → ((i : Name) → g (at q i) ≡ h (at q i)) → each g q ≡ each h q
each_same g h (four a b c d) e = λ t. four (e n0 t) (e n1 t) (e n2 t) (e n3 t)

cut_constant : {P : Type 0} (b : Bool) (q : Four P) → cut_four (each (λ _. b) q) q ≡ []
cut_constant false (four p0 p1 p2 p3) = refl
cut_constant true (four p0 p1 p2 p3) = refl

-- a test as it is, or its contrary
abbrev facing : Bool → Bool → Bool
facing true b = b
facing false b = not b

-- the test S, at corners whose first point is of the region
abbrev marked : (Point → Bool) → (Corner → Bool) → Corner → Bool
marked f S (edge p q) = S (edge p q) && odd_at f S p

-- what S and the mark are at each corner of a piece of level v
abbrev Valued : (Point → Bool) → (Corner → Bool) → Bool → Bool → Corner → Type 0
Valued f S v m c = (S c ≡ v) × (marked f S c ≡ (v && xor m (v && true)))

on_valued :
    (f : Point → Bool) (S : Corner → Bool) (v m : Bool) (t : Triangle) → AllByRecursion (Valued f S v m) (corners t) →
    (on S t ≡ v) × (on (marked f S) t ≡ (v && xor m (v && true)))
on_valued f S v m (tri a b e) h = h.0

agree_valued : (f : Point → Bool) (S : Corner → Bool) (v m : Bool) (t : Triangle) → AllByRecursion (Valued f S v m) (corners t) → Agree (marked f S) t
agree_valued f S v m (tri a b e) h = (h.0.1 ∙ sym h.1.0.1, h.1.0.1 ∙ sym h.1.1.0.1)

none_passes : {A : Type 0} (P : A → Type 0) → ((x : A) → P x → ⊥) → (xs : List A) → AllByRecursion P xs → xs ≡ []
none_passes P n [] a = refl
none_passes P n (x ∷ xs) a = absurd (n x a.0)

facing_xor : (L m b c : Bool) → beq m L ≡ c → facing L (xor m b) ≡ facing (not c) b
unfolding xor
facing_xor L m b c e =
    bits_equal (λ L m b c. facing L (xor m b)) (λ L m b c. facing (not (beq m L)) b) refl L m b c ∙ ap (λ c. facing (not c) b) e

contrary : (m L : Bool) → beq m L ≡ true → xor m true ≡ L → ⊥
unfolding xor
contrary true true e k = false≢true k
contrary true false e k = false≢true e
contrary false true e k = false≢true e
contrary false false e k = true≢false k

module _ (f : Point → Bool) (S : Corner → Bool) (q : Four Point) where
  kept_in_piece :
      (L v m : Bool) → ((i : Name) → odd_at f S (at q i) ≡ xor m (v && f (at q i))) →
      AllByRecursion (λ t. AllByRecursion (Valued f S v m) (corners t)) (cut_four (each f q) q) →
      AllByRecursion (λ t. on S t ≡ true → on (marked f S) t ≡ L) (cut_four (each f q) q) →
      filter (on S) (cut_four (each f q) q) ≡ cut_four (each (λ p. facing L (odd_at f S p)) q) q
  kept_in_piece L false m fit a h =
      kept_none (on S) (cut_four (each f q) q) (All-weaker _ _ (λ t b. (on_valued f S false m t b).0) _ a)
      ∙ sym (
      ap (λ b. cut_four b q) (each_same _ (λ _. facing L (xor m false)) q (λ i. ap (facing L) (fit i)))
      ∙ cut_constant (facing L (xor m false)) q)
  kept_in_piece L true m fit a h =
      kept_all (on S) (cut_four (each f q) q) (All-weaker _ _ (λ t b. (on_valued f S true m t b).0) _ a) ∙ go (beq m L) refl
    where
      meets : (c : Bool) → beq m L ≡ c → (i : Name) → facing L (odd_at f S (at q i)) ≡ facing (not c) (f (at q i))
      meets c e i = ap (facing L) (fit i) ∙ facing_xor L m (f (at q i)) c e

      go : (c : Bool) → beq m L ≡ c → cut_four (each f q) q ≡ cut_four (each (λ p. facing L (odd_at f S p)) q) q
      go false e = sym (ap (λ b. cut_four b q) (each_same _ f q (meets false e)))
      go true e =
          let none = none_passes _ (λ t b. contrary m L e (sym (on_valued f S true m t b.0).1 ∙ b.1 (on_valued f S true m t b.0).0))
          (cut_four (each f q) q) (every_both _ _ (cut_four (each f q) q) a h) in
          none
          ∙ sym (
          ap (λ b. cut_four b q) (each_same _ (λ p. not (f p)) q (meets true e) ∙ sym (each_each not f q))
          ∙ cut_none (each f q) q none)

  valued : (e : Fits f S q) → AllByRecursion (λ t. AllByRecursion (Valued f S e.0.0 e.1) (corners t)) (cut_four (each f q) q)
  valued e =
      cut_corners (Valued f S e.0.0 e.1) f q (λ i j h k.
      (e.0.1 i j h k, ap₂ ◌&&◌ (e.0.1 i j h k) (e.2 i ∙ ap (λ b. xor e.1 (e.0.0 && b)) h)))

module _ (f : Point → Bool) (x y z : ℕ) (border : Border f x y z) (S : Corner → Bool) (part : OnePart S (skin f x y z)) where
  -- a cube past the border has nothing inside, so any level is its own
  beyond : (l : Point) → ((o : Offset) → Amid x y z (l ⊕ o) → ⊥) → AllByRecursion (λ w. Level f S (placed l w)) pieces
  beyond l n = every_all _ out pieces
    where
      out : (w : Piece) → Level f S (placed l w)
      out w = (false, λ i j h k. absurd (n (at (named w) i) (subst (Amid x y z) (at_each (λ o. l ⊕ o) (named w) i) (border _ h))))

  levels : (l : Point) → AllByRecursion (λ w. Level f S (placed l w)) pieces
  levels (pt i j k) =
      elim (cases_lt i x) [
        | inr n ↦ beyond (pt i j k) (elim [ off a b c ↦ λ h. omega (arith, raised_up a i) ])
        | inl u ↦ elim (cases_lt j y) [
          | inr n ↦ beyond (pt i j k) (elim [ off a b c ↦ λ h. omega (arith, raised_up b j) ])
          | inl v ↦ elim (cases_lt k z) [
            | inr n ↦ beyond (pt i j k) (elim [ off a b c ↦ λ h. omega (arith, raised_up c k) ])
            | inl w ↦ All-weaker _ _ (λ d e. level f S (placed (pt i j k) d) (subst (AllByRecursion (Agree S)) (in_piece_four f (pt i j k) d) e)) pieces
                (every_in_skin (Agree S) f x y z part.agree i j k u v w)
          ]
        ]
      ]

  abbrev mark : Corner → Bool
  mark = marked f S

  marks_agree : AllByRecursion (Agree mark) (skin f x y z)
  marks_agree = every_skin (Agree mark) f x y z (λ l. All-weaker _ _ (in_one l) pieces (fits f S x y z border levels l))
    where
      in_one : (l : Point) (w : Piece) → Fits f S (placed l w) → AllByRecursion (Agree mark) (in_piece f l w)
      in_one l w e =
          subst (AllByRecursion (Agree mark)) (sym (in_piece_four f l w))
          (All-weaker _ _ (agree_valued f S e.0.0 e.1) _ (valued f S (placed l w) e))

  -- the part is seen from outside where this is true
  outer : Bool
  outer = on mark part.triangle

  -- a triangle of the part has the mark of its first one
  abbrev Alike : Triangle → Type 0
  Alike t = on S t ≡ true → on mark t ≡ outer

  marked_alike : AllByRecursion Alike (skin f x y z)
  unfolding outer
  marked_alike =
      stands_every _ (skin f x y z) (λ i t s h.
      sym (joined_agree same same_true same_refl mark (skin f x y z) marks_agree
      part.place i part.triangle t part.stands s (part.together i t s h)))

  part_is_skin : filter (on S) (skin f x y z) ≡ skin (λ p. facing outer (odd_at f S p)) x y z
  part_is_skin =
      kept_skin (on S) f (λ p. facing outer (odd_at f S p)) x y z (λ i j k u v w.
      All-weaker _ _ (in_one (pt i j k)) pieces
      (every_both (λ w. Fits f S (placed (pt i j k) w)) (λ w. AllByRecursion Alike (in_piece f (pt i j k) w)) pieces
      (fits f S x y z border levels (pt i j k)) (every_in_skin Alike f x y z marked_alike i j k u v w)))
    where
      in_one :
          (l : Point) (w : Piece) → Fits f S (placed l w) × AllByRecursion Alike (in_piece f l w) →
          filter (on S) (in_piece f l w) ≡ in_piece (λ p. facing outer (odd_at f S p)) l w
      in_one l w e =
          ap (filter (on S)) (in_piece_four f l w)
          ∙ kept_in_piece f S (placed l w) outer e.0.0.0 e.0.1 e.0.2 (valued f S (placed l w) e.0)
          (subst (AllByRecursion Alike) (in_piece_four f l w) e.1)
          ∙ sym (in_piece_four (λ p. facing outer (odd_at f S p)) l w)

-- a corner of a triangle that is kept
kept_has :
    (S : Corner → Bool) (c : Corner) (ts : List Triangle) (i : ℕ) (t : Triangle) → Stands ts i t → on S t ≡ true → 0 < has same c t →
    0 < with_corner same c (filter (on S) ts)
kept_has S c [] i t s e h = absurd s
kept_has S c (u ∷ ts) zero t s e h =
    subst (λ us. 0 < with_corner same c us) (sym (cond-true (on S u) (u ∷ filter (on S) ts) (filter (on S) ts) (ap (on S) s ∙ e)))
    (omega (arith, ap (has same c) s))
kept_has S c (u ∷ ts) (suc i) t s e h =
    let r = kept_has S c ts i t s e h in
    cond_both (on S u) (u ∷ filter (on S) ts) (filter (on S) ts) (λ us. 0 < with_corner same c us) (λ _. omega arith) (λ _. r)

has_flip : (p q : Point) (t : Triangle) → has same (edge p q) (inside_out t) ≡ has same (edge q p) t
unfolding has same
has_flip p q (tri (edge a b) (edge c d) (edge e g)) =
    simp (and_comm (same_point b p) (same_point a q), and_comm (same_point g p) (same_point e q), and_comm (same_point d p) (same_point c q))
    (ap (λ u. one_if ((same_point a q && same_point b p) || u)) (or_comm (same_point e q && same_point g p) (same_point c q && same_point d p)))

neighbours_back : (p q : Point) → Neighbours p q → Neighbours q p
neighbours_back p q (o, d, inl e) = (o, d, inr e)
neighbours_back p q (o, d, inr e) = (o, d, inl e)

seen_outside :
    (us : List Triangle) (g : Point → Bool) (x y z : ℕ) → Border g x y z → us ≡ skin g x y z → Outer us g x y z
seen_outside us g x y z border e =
    record {
      triangles = e;
      corners = λ p q.
          subst (λ ts. (0 < with_corner same (edge p q) ts) ↔ (Neighbours p q × (g p ≡ true) × (g q ≡ false))) (sym e)
          (parted g x y z border p q);
    }

seen_inside :
    (us : List Triangle) (g : Point → Bool) (x y z : ℕ) → Border g x y z → us ≡ skin (λ p. not (g p)) x y z → Inner us g x y z
seen_inside us g x y z border e =
    record {
      triangles = e;
      turned = λ h. ap (sum_of h) e ∙ turned g x y z h;
      corners = λ p q.
          let k = ap (with_corner same (edge p q)) e ∙ turned g x y z (has same (edge p q)) ∙ sum_same _ _ (has_flip p q) (skin g x y z) in
          let c = parted g x y z border q p in (
            (λ l. let r = c.0 (subst (λ n. 0 < n) k l) in (neighbours_back q p r.0, r.2, r.1)),
            λ r. subst (λ n. 0 < n) (sym k) (c.1 (neighbours_back p q r.0, r.2, r.1)),
          );
    }

pub parts_enclose : PartsEnclose
parts_enclose f x y z border S part =
    go (outer f x y z border S part) (part_is_skin f x y z border S part) (first_had same same_true same_refl part.triangle)
  where
    us : List Triangle
    us = filter (on S) (skin f x y z)

    g : Point → Bool
    g = odd_at f S

    empty : Border g x y z
    empty = odd_border f S x y z border (levels f x y z border S part)

    had : (c : Corner) → 0 < has same c part.triangle → 0 < with_corner same c us
    had c = kept_has S c (skin f x y z) part.place part.triangle part.stands part.passes

    region : (p : Point) → g p ≡ true → Outer us g x y z ⊎ Inner us g x y z → Region us x y z
    region p h seen = record { inside = g; border = empty; point = p; within = h; seen = seen }

    go : (L : Bool) → us ≡ skin (λ p. facing L (g p)) x y z → (c : Corner) × (0 < has same c part.triangle) → Region us x y z
    go true e (edge p q, h) = let o = seen_outside us g x y z empty e in region p ((o.corners p q).0 (had (edge p q) h)).1 (inl o)
    go false e (edge p q, h) = let o = seen_inside us g x y z empty e in region q ((o.corners p q).0 (had (edge p q) h)).2 (inr o)
