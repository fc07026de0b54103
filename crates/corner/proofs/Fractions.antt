-- A corner's fraction is 1 to 254: between two values with the threshold among them, and so on each edge of a block. Assumes nothing.
use Rattle.std.proofs.Common.{◌≡◌, ℕ, ◌+◌, ◌-◌, ◌*◌, ◌/◌, ◌<◌, ◌≤◌, Bool, true, false, leb, List, sym, subst, inl, inr, div-lt_iff_lt-mul, arith}
use Rattle.std.proofs.lemmas.Bool.{and_parts, and_from, and_cases, both_ways, leb-true, leb-false, lt-ltb}
use Rattle.theory.specs.Grid.{Point, pt, Offset, off, raised, ◌⊕◌, Amid}
use Rattle.theory.specs.Closed.{Neighbours}
use Rattle.block.specs.Scan.{size_x, size_y, size_z, threshold, value_of, within, inside}
use Rattle.corner.specs.Fraction.{fraction_of, FractionsInRange}

pub fraction_bound : (u v t : ℕ) → v < t → t ≤ u → (1 ≤ fraction_of u v t) × (fraction_of u v t ≤ 254)
fraction_bound u v t below above =
    let wide : 0 < 2 * (u - v) = omega arith in
    let less : 254 * (2 * (u - t) + 1) / (2 * (u - v)) < 254 = (div-lt_iff_lt-mul wide).1 (omega arith) in
    (omega arith, omega arith)

module _ (bs : List ℕ) where
  -- strictly between the first and the last points of the block
  abbrev Deep : Point → Type 0
  Deep = Amid (size_x bs - 1) (size_y bs - 1) (size_z bs - 1)

  within_from : (u v w : ℕ) → u < size_x bs → v < size_y bs → w < size_z bs → within bs (pt u v w) ≡ true
  within_from u v w lu lv lw = and_from _ _ (lt-ltb u _ lu) (and_from _ _ (lt-ltb v _ lv) (lt-ltb w _ lw))

  above_within : (p : Point) (o : Offset) → Deep p → within bs (p ⊕ o) ≡ true
  above_within (pt x y z) (off a b c) d =
      within_from (raised a x) (raised b y) (raised c z) (up a x _ d.0.1) (up b y _ d.1.1) (up c z _ d.2.1)
    where
      up : (a : Bool) (n size : ℕ) → n < size - 1 → raised a n < size
      up true n size l = omega arith
      up false n size l = omega arith

  below_within : (q : Point) (o : Offset) → Deep (q ⊕ o) → within bs q ≡ true
  below_within (pt x y z) (off a b c) d = within_from x y z (down a x _ d.0.1) (down b y _ d.1.1) (down c z _ d.2.1)
    where
      down : (a : Bool) (n size : ℕ) → raised a n < size - 1 → n < size
      down true n size l = omega arith
      down false n size l = omega arith

  neighbour_within : (p q : Point) → Neighbours p q → Deep p → within bs q ≡ true
  neighbour_within p q n d =
      elim n.2 [
        | inl e ↦ subst (λ r. within bs r ≡ true) (sym e) (above_within p n.0 d)
        | inr e ↦ below_within q n.0 (subst Deep e d)
      ]

pub fractions_in_range : FractionsInRange
unfolding inside
fractions_in_range bs taken p q n fp fq =
    let out : leb (threshold bs) (value_of bs q) ≡ false =
    elim (and_cases (within bs q) (leb (threshold bs) (value_of bs q)) fq) [
      | inl past ↦ absurd (both_ways (within bs q) past (neighbour_within bs p q n (taken.border p fp)))
      | inr less ↦ less
    ] in
    fraction_bound (value_of bs p) (value_of bs q) (threshold bs)
    (leb-false (threshold bs) (value_of bs q) out)
    (leb-true (threshold bs) (value_of bs p) (and_parts (within bs p) (leb (threshold bs) (value_of bs p)) fp).1)
