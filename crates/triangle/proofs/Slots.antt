-- A corner is known by the upper end of its edge and the step that leads there, so different corners have different slots, all of them in
-- `work`. Assumes nothing.
use Rattle.std.proofs.Common.{◌≡◌, ℕ, suc, ◌+◌, ◌-◌, ◌*◌, ◌<◌, max, Bool, true, false, not, ◌||◌, ◌≢◌, ◌⊎◌, List, sym, refl, ap, ◌∙◌, subst, inl, inr, arith}
use mathlib.Core.Bool.{beq}
use Rattle.std.proofs.lemmas.Bool.{eq-eqb, ne_eqb}
use Rattle.theory.specs.Grid.{Point, pt, Offset, off, lowest, raised, ◌⊕◌, Amid}
use Rattle.theory.specs.Triangle.{edge, one_if}
use Rattle.theory.specs.Skin.{Corner}
use Rattle.theory_numbers.specs.Order.{upper}
use Rattle.theory_numbers.proofs.Crossed.{upper_up, upper_down}
use Rattle.block.specs.Scan.{size_x, size_y, size_z, inside, Taken}
use Rattle.grid.specs.Numbers.{number_of, Within}
use Rattle.grid.proofs.Undone.{points_numbered}
use Rattle.piece.specs.Table.{offset_number}
use Rattle.triangle.specs.Slots.{apart, step_of, slot}
use Rattle.triangle.specs.Output.{Crossing}

-- the edge between r and a point above it, from the one or from the other
abbrev pub directed : Bool → Point → Offset → Corner
directed true r o = edge r (r ⊕ o)
directed false r o = edge (r ⊕ o) r

upper_directed : (b : Bool) (r : Point) (o : Offset) → upper (directed b r o) ≡ r ⊕ o
upper_directed true r o = upper_up r o
upper_directed false r o = upper_down r o

apart_raised : (a d : Bool) (n : ℕ) → apart (raised a n) (raised d n) ≡ one_if (not (beq a d))
apart_raised false false n = ap (λ b. one_if (not b)) (eq-eqb n n refl)
apart_raised false true n = ap (λ b. one_if (not b)) (ne_eqb n (suc n) (λ e. omega arith))
apart_raised true false n = ap (λ b. one_if (not b)) (ne_eqb (suc n) n (λ e. omega arith))
apart_raised true true n = ap (λ b. one_if (not b)) (eq-eqb (suc n) (suc n) refl)

max_raised : (a d : Bool) (n : ℕ) → max (raised a n) (raised d n) ≡ raised (a || d) n
max_raised false false n = omega arith
max_raised false true n = omega arith
max_raised true false n = omega arith
max_raised true true n = omega arith

-- the axes along which two points of a cube differ
abbrev pub across : Offset → Offset → ℕ
across (off a b c) (off d e g) = one_if (not (beq a d)) + (2 * one_if (not (beq b e)) + 4 * one_if (not (beq c g)))

abbrev pub either_of : Offset → Offset → Offset
either_of (off a b c) (off d e g) = off (a || d) (b || e) (c || g)

pub step_at : (l : Point) (a b : Offset) → step_of (edge (l ⊕ a) (l ⊕ b)) ≡ across a b
step_at (pt x y z) (off a b c) (off d e g) =
    λ i. apart_raised a d x i + (2 * apart_raised b e y i + 4 * apart_raised c g z i)

pub upper_at : (l : Point) (a b : Offset) → upper (edge (l ⊕ a) (l ⊕ b)) ≡ l ⊕ either_of a b
upper_at (pt x y z) (off a b c) (off d e g) = λ i. pt (max_raised a d x i) (max_raised b e y i) (max_raised c g z i)

from_lowest : (a : Bool) → one_if (not (beq false a)) ≡ one_if a
from_lowest false = refl
from_lowest true = refl

to_lowest : (a : Bool) → one_if (not (beq a false)) ≡ one_if a
to_lowest false = refl
to_lowest true = refl

step_directed : (b : Bool) (r : Point) (o : Offset) → step_of (directed b r o) ≡ offset_number o
step_directed true (pt x y z) (off a b c) =
    step_at (pt x y z) lowest (off a b c) ∙ λ i. from_lowest a i + (2 * from_lowest b i + 4 * from_lowest c i)
step_directed false (pt x y z) (off a b c) =
    step_at (pt x y z) (off a b c) lowest ∙ λ i. to_lowest a i + (2 * to_lowest b i + 4 * to_lowest c i)

halved : (a d : Bool) (m n : ℕ) → one_if a + 2 * m ≡ one_if d + 2 * n → (a ≡ d) × (m ≡ n)
halved true true m n e = (refl, omega arith)
halved false false m n e = (refl, omega arith)
halved true false m n e = absurd (omega arith)
halved false true m n e = absurd (omega arith)

offsets_apart : (o u : Offset) → offset_number o ≡ offset_number u → o ≡ u
offsets_apart (off a b c) (off d e g) n =
    let x = halved a d (one_if b + 2 * one_if c) (one_if e + 2 * one_if g) (omega arith) in
    let y = halved b e (one_if c) (one_if g) x.1 in
    let z = halved c g 0 0 (omega (arith, y.1)) in
    λ i. off (x.0 i) (y.0 i) (z.0 i)

raised_apart : (a : Bool) (m n : ℕ) → raised a m ≡ raised a n → m ≡ n
raised_apart true m n e = omega arith
raised_apart false m n e = e

lower_apart : (o : Offset) (r s : Point) → r ⊕ o ≡ s ⊕ o → r ≡ s
lower_apart (off a b c) (pt x y z) (pt u v w) e =
    let p : raised a x ≡ raised a u = cc in
    let q : raised b y ≡ raised b v = cc in
    let t : raised c z ≡ raised c w = cc in
    λ i. pt (raised_apart a x u p i) (raised_apart b y v q i) (raised_apart c z w t i)

-- an edge that crosses, by its lower end, its step, and whether the lower end is inside
pub record Rise (bs : List ℕ) (c : Corner) : Type 0 where
  pub low : Point
  pub by : Offset
  pub up : Bool
  pub steps : by ≢ lowest
  pub is : c ≡ directed up low by
  pub starts : inside bs low ≡ up
  pub ends : inside bs (low ⊕ by) ≡ not up

pub rise_of : (bs : List ℕ) (c : Corner) → Crossing bs c → Rise bs c
rise_of bs (edge p q) x = go x.0.0 x.0.1 x.0.2
  where
    go : (o : Offset) → o ≢ lowest → (q ≡ p ⊕ o) ⊎ (p ≡ q ⊕ o) → Rise bs (edge p q)
    go o s (inl e) =
        record { low = p; by = o; up = true; steps = s; is = ap (edge p) e; starts = x.1; ends = ap (inside bs) (sym e) ∙ x.2 }
    go o s (inr e) =
        record { low = q; by = o; up = false; steps = s; is = ap (λ p. edge p q) e; starts = x.2; ends = ap (inside bs) (sym e) ∙ x.1 }

module _ (bs : List ℕ) where
  pub upper_rise : (c : Corner) (r : Rise bs c) → upper c ≡ r.low ⊕ r.by
  upper_rise c r = ap upper r.is ∙ upper_directed r.up r.low r.by

  step_rise : (c : Corner) (r : Rise bs c) → step_of c ≡ offset_number r.by
  step_rise c r = ap step_of r.is ∙ step_directed r.up r.low r.by

  -- two corners on edges with one upper end and one step are one
  pub step_apart : (c d : Corner) → Crossing bs c → Crossing bs d → upper c ≡ upper d → step_of c ≡ step_of d → c ≡ d
  step_apart c d x y u s =
      let r = rise_of bs c x in
      let t = rise_of bs d y in
      let by : r.by ≡ t.by = offsets_apart r.by t.by (sym (step_rise c r) ∙ s ∙ step_rise d t) in
      let tops : r.low ⊕ t.by ≡ t.low ⊕ t.by = ap (λ o. r.low ⊕ o) (sym by) ∙ sym (upper_rise c r) ∙ u ∙ upper_rise d t in
      let low : r.low ≡ t.low = lower_apart t.by r.low t.low tops in
      let way : r.up ≡ t.up = sym r.starts ∙ ap (inside bs) low ∙ t.starts in
      r.is ∙ (λ i. directed (way i) (low i) (by i)) ∙ sym t.is

  pub step_positive : (c : Corner) → Crossing bs c → 0 < step_of c
  step_positive c x =
      let r = rise_of bs c x in
      let n : offset_number r.by ≢ 0 = λ e. r.steps (offsets_apart r.by lowest e) in
      omega (arith, step_rise c r)

  module _ (taken : Taken bs) where
    above_within : (r : Point) (o : Offset) → Amid (size_x bs - 1) (size_y bs - 1) (size_z bs - 1) r → Within (size_x bs) (size_y bs) (size_z bs) (r ⊕ o)
    above_within (pt x y z) (off a b c) d = (up a x _ d.0.1, up b y _ d.1.1, up c z _ d.2.1)
      where
        up : (a : Bool) (n size : ℕ) → n < size - 1 → raised a n < size
        up true n size l = omega arith
        up false n size l = omega arith

    amid_within : (r : Point) → Amid (size_x bs - 1) (size_y bs - 1) (size_z bs - 1) r → Within (size_x bs) (size_y bs) (size_z bs) r
    amid_within (pt x y z) d = omega arith

    upper_within : (c : Corner) → Crossing bs c → Within (size_x bs) (size_y bs) (size_z bs) (upper c)
    upper_within c x = let r = rise_of bs c x in subst (Within _ _ _) (sym (upper_rise c r)) (by_way r.up r.low r.by r.starts r.ends)
      where
        by_way : (b : Bool) (p : Point) (o : Offset) → inside bs p ≡ b → inside bs (p ⊕ o) ≡ not b → Within (size_x bs) (size_y bs) (size_z bs) (p ⊕ o)
        by_way true p o s e = above_within p o (taken.border p s)
        by_way false p o s e = amid_within (p ⊕ o) (taken.border (p ⊕ o) e)

    pub slot_below : (c : Corner) → Crossing bs c → step_of c < 7 → slot bs c < 6 * (size_x bs * (size_y bs * size_z bs))
    slot_below c x s =
        omega (arith, points_numbered.below (size_x bs) (size_y bs) (size_z bs) (upper c) (upper_within c x), step_positive c x)

    pub slot_apart : (c d : Corner) → Crossing bs c → Crossing bs d → step_of c < 7 → step_of d < 7 → slot bs c ≡ slot bs d → c ≡ d
    slot_apart c d x y s t e =
        let p = step_positive c x in
        let q = step_positive d y in
        let n : number_of (size_x bs) (size_y bs) (upper c) ≡ number_of (size_x bs) (size_y bs) (upper d) = omega arith in
        let m : step_of c ≡ step_of d = omega arith in
        step_apart c d x y
        (points_numbered.apart (size_x bs) (size_y bs) (size_z bs) (upper c) (upper d) (upper_within c x) (upper_within d y) n) m
