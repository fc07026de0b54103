-- The points of a cube lie in its block, and at the ends of an edge that crosses the values lie on both sides of the threshold.
-- Assumes nothing.
use Rattle.std.proofs.Common.{◌≡◌, ℕ, zero, suc, ◌+◌, ◌-◌, ◌*◌, ◌/◌, ◌%◌, ◌<◌, ◌≤◌, Bool, true, false, not, leb, List, sym, ap, ◌∙◌, inl, inr, mul_assoc, mul-suc, mul-add, arith}
use Rattle.std.proofs.lemmas.Bool.{and_parts, and_from, and_cases, both_ways, leb-true, leb-false, lt-ltb}
use Rattle.theory.specs.Grid.{raised}
use Rattle.block.specs.Scan.{size_x, size_y, size_z, threshold, value_of, within, inside}
use Rattle.grid.specs.Numbers.{number_of}
use Rattle.grid.proofs.Undone.{points_numbered}
use Rattle.piece.specs.Table.{bit}
use Rattle.triangle.specs.Cubes.{lowest_of, point_in, OfBlock, Crosses}
use Rattle.triangle.specs.Output.{NewIn}
use Rattle.triangle.specs.declared.cube.Cube.{Cube}
use Rattle.triangle.proofs.Tables.{bit_is}

raised_below : (b : Bool) (n size : ℕ) → suc n < size → raised b n < size
raised_below true n size l = l
raised_below false n size l = omega arith

pub within_cube : (bs : List ℕ) (k : Cube) (o : ℕ) → OfBlock bs k → within bs (point_in k o) ≡ true
within_cube bs k o h =
    and_from _ _ (lt-ltb _ _ (raised_below (bit o 0) k.lowest.x (size_x bs) h.along_x))
    (and_from _ _ (lt-ltb _ _ (raised_below (bit o 1) k.lowest.y (size_y bs) h.along_y))
    (lt-ltb _ _ (raised_below (bit o 2) k.lowest.z (size_z bs) h.along_z)))

-- `work` has six slots for each point of a cube
pub six_slots :
    (bs : List ℕ) (k : Cube) (o : ℕ) → OfBlock bs k →
    6 * number_of (size_x bs) (size_y bs) (point_in k o) + 6 ≤ 6 * (size_x bs * (size_y bs * size_z bs))
six_slots bs k o h =
    let l = points_numbered.below (size_x bs) (size_y bs) (size_z bs) (point_in k o) (
      raised_below (bit o 0) k.lowest.x (size_x bs) h.along_x,
      raised_below (bit o 1) k.lowest.y (size_y bs) h.along_y,
      raised_below (bit o 2) k.lowest.z (size_z bs) h.along_z,
    ) in
    omega arith

-- the first slot of a point of a cube from that of its lowest point, as the code adds them up
abbrev pub slots_at : ℕ → ℕ → ℕ → ℕ → ℕ
slots_at lowest row layer u = lowest + 6 * (u % 2) + row * (u / 2 % 2) + layer * (u / 4)

pub first_slot :
    (a b : ℕ) (k : Cube) (u : ℕ) → u < 8 →
    slots_at (6 * number_of a b (lowest_of k)) (6 * a) (6 * a * b) u ≡ 6 * number_of a b (point_in k u)
first_slot a b k u l = at u l
  where
    up_y : (w : ℕ) → a * (suc k.lowest.y + w) ≡ a * (k.lowest.y + w) + a
    up_y w = omega (arith, mul-add a (suc k.lowest.y) w, mul-suc a k.lowest.y, mul-add a k.lowest.y w)

    up_z : (v : ℕ) → a * (v + b * suc k.lowest.z) ≡ a * (v + b * k.lowest.z) + a * b
    up_z v = omega (arith, mul-add a v (b * suc k.lowest.z), ap (λ m. a * m) (mul-suc b k.lowest.z), mul-add a (b * k.lowest.z) b, mul-add a v (b * k.lowest.z))

    at : (u : ℕ) → u < 8 → slots_at (6 * number_of a b (lowest_of k)) (6 * a) (6 * a * b) u ≡ 6 * number_of a b (point_in k u)
    at zero l = omega arith
    at (suc zero) l = omega arith
    at (suc (suc zero)) l = omega (arith, up_y (b * k.lowest.z))
    at (suc (suc (suc zero))) l = omega (arith, up_y (b * k.lowest.z))
    at (suc (suc (suc (suc zero)))) l = omega (arith, up_z k.lowest.y, mul_assoc 6 a b)
    at (suc (suc (suc (suc (suc zero))))) l = omega (arith, up_z k.lowest.y, mul_assoc 6 a b)
    at (suc (suc (suc (suc (suc (suc zero)))))) l = omega (arith, up_y (b * suc k.lowest.z), up_z k.lowest.y, mul_assoc 6 a b)
    at (suc (suc (suc (suc (suc (suc (suc zero))))))) l = omega (arith, up_y (b * suc k.lowest.z), up_z k.lowest.y, mul_assoc 6 a b)
    at (suc (suc (suc (suc (suc (suc (suc (suc u)))))))) l = absurd (omega arith)

pub crossing_values :
    (bs : List ℕ) (k : Cube) (i j : ℕ) → Crosses bs k i j →
    (value_of bs (point_in k j) < threshold bs) × (threshold bs ≤ value_of bs (point_in k i))
unfolding inside
crossing_values bs k i j h =
    let out : leb (threshold bs) (value_of bs (point_in k j)) ≡ false =
    elim (and_cases (within bs (point_in k j)) (leb (threshold bs) (value_of bs (point_in k j))) h.ends_outside) [
      | inl past ↦ absurd (both_ways (within bs (point_in k j)) past (within_cube bs k j h.cube))
      | inr less ↦ less
    ] in (
      leb-false (threshold bs) (value_of bs (point_in k j)) out,
      leb-true (threshold bs) (value_of bs (point_in k i))
          (and_parts (within bs (point_in k i)) (leb (threshold bs) (value_of bs (point_in k i))) h.starts_inside).1,
    )

-- bit 7 of a byte is set from 128 on
high_bit : (b : ℕ) → b < 256 → (b < 128 → bit b 7 ≡ false) × (128 ≤ b → bit b 7 ≡ true)
high_bit b l = (λ s. bit_is (b / 128 % 2) false (omega arith), λ s. bit_is (b / 128 % 2) true (omega arith))

-- the edge of a new corner crosses, upwards where the highest point is outside, and else downwards
pub new_crosses :
    (bs : List ℕ) (k : Cube) (s : ℕ) → NewIn bs k s →
    (k.bits < 128 → Crosses bs k (7 - s) 7) × (128 ≤ k.bits → Crosses bs k 7 (7 - s))
new_crosses bs k s n =
    let h = n.cube in
    let top = high_bit k.bits h.byte in (
      λ l. record {
        cube = h;
        from = omega arith;
        to = omega arith;
        starts_inside = sym (h.bits (7 - s) (omega arith)) ∙ n.parted ∙ ap not (top.0 l);
        ends_outside = sym (h.bits 7 (omega arith)) ∙ top.0 l;
      },
      λ l. record {
        cube = h;
        from = omega arith;
        to = omega arith;
        starts_inside = sym (h.bits 7 (omega arith)) ∙ top.1 l;
        ends_outside = sym (h.bits (7 - s) (omega arith)) ∙ n.parted ∙ ap not (top.1 l);
      },
    )
