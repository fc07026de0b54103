-- What is computed once for all cubes: the upper end and the step of an edge by the numbers of its ends, and the cases of the pieces.
-- Assumes nothing.
use Rattle.std.proofs.Common.{◌≡◌, ℕ, zero, suc, ◌/◌, ◌%◌, ◌<◌, ◌≤◌, Bool, true, false, not, ◌&&◌, ◌||◌, eqb, ltb, leb, ◌≢◌, ◌⊎◌, length, sym, refl, ap, ◌∙◌, inl, inr, ⊎_elim, arith}
use mathlib.Core.Bool
use lib.Bits.{bit_and, bit_or, bit_xor}
use Rattle.std.proofs.lemmas.Bool.{and_parts, cases_lt, eqb-true, ltb-true, leb-true, or_cases}
use Rattle.theory.specs.Grid.{Offset, off}
use Rattle.theory.specs.Triangle.{one_if}
use Rattle.theory.specs.Faces.{same_offset}
use Rattle.piece.specs.Table.{bit, point_of, offset_at, triangles_in}
use Rattle.triangle.specs.Cubes.{case_in}
use Rattle.triangle.proofs.Slots.{across, either_of}

-- a test that passes at each number below n
abbrev pub all_below : ℕ → (ℕ → Bool) → Bool
all_below zero t = true
all_below (suc n) t = all_below n t && t n

pub at_below : (n : ℕ) (t : ℕ → Bool) → all_below n t ≡ true → (i : ℕ) → i < n → t i ≡ true
at_below zero t e i l = absurd (omega arith)
at_below (suc n) t e i l =
    let p = and_parts (all_below n t) (t n) e in
    ⊎_elim (λ less. at_below n t p.0 i less) (λ more. let last : n ≡ i = omega arith in ap t (sym last) ∙ p.1) (cases_lt i n)

same_offset_true : (a b : Offset) → same_offset a b ≡ true → a ≡ b
same_offset_true (off a b c) (off d e g) t =
    let p = and_parts (Bool.beq a d) (Bool.beq b e && Bool.beq c g) t in
    let q = and_parts (Bool.beq b e) (Bool.beq c g) p.1 in
    λ i. off (beq a d p.0 i) (beq b e q.0 i) (beq c g q.1 i)
  where
    beq : (a b : Bool) → Bool.beq a b ≡ true → a ≡ b
    beq true true e = refl
    beq false false e = refl
    beq true false e = sym e
    beq false true e = e

-- of two points of a cube by their numbers: the upper end and the step of the edge between them, as the code has them
abbrev pair_test : ℕ → ℕ → Bool
pair_test i j =
    same_offset (offset_at (bit_or i j)) (either_of (offset_at i) (offset_at j))
    && (eqb (across (offset_at i) (offset_at j)) (bit_xor i j)
    && (ltb (bit_xor i j) 8 && (eqb (bit_and (bit_or i j) (bit_xor i j)) (bit_xor i j) && ((eqb i j || (ltb 0 (bit_xor i j) && ltb 0 (bit_or i j)))
    && (eqb (bit_or i j) 7 || (ltb (bit_or i j) 7 && ltb (bit_xor i j) 7))))))

pub record PairFacts (i j : ℕ) : Type 0 where
  pub upper : offset_at (bit_or i j) ≡ either_of (offset_at i) (offset_at j)
  pub step : across (offset_at i) (offset_at j) ≡ bit_xor i j
  pub step_below : bit_xor i j < 8
  pub step_within : bit_and (bit_or i j) (bit_xor i j) ≡ bit_xor i j
  pub differ : (i ≡ j) ⊎ ((0 < bit_xor i j) × (0 < bit_or i j))
  pub top : (bit_or i j ≡ 7) ⊎ ((bit_or i j < 7) × (bit_xor i j < 7))

pub pair_facts : (i j : ℕ) → i < 8 → j < 8 → PairFacts i j
pair_facts i j li lj =
    let e = at_below 8 (pair_test i) (at_below 8 (λ i. all_below 8 (pair_test i)) refl i li) j lj in
    let a = and_parts (same_offset (offset_at (bit_or i j)) (either_of (offset_at i) (offset_at j))) _ e in
    let b = and_parts (eqb (across (offset_at i) (offset_at j)) (bit_xor i j)) _ a.1 in
    let c = and_parts (ltb (bit_xor i j) 8) _ b.1 in
    let w = and_parts (eqb (bit_and (bit_or i j) (bit_xor i j)) (bit_xor i j)) _ c.1 in
    let d = and_parts (eqb i j || (ltb 0 (bit_xor i j) && ltb 0 (bit_or i j))) _ w.1 in
    record {
      upper = same_offset_true _ _ a.0;
      step = eqb-true _ _ b.0;
      step_below = ltb-true _ _ c.0;
      step_within = eqb-true _ _ w.0;
      differ =
          elim (or_cases (eqb i j) _ d.0) [
            | inl t ↦ inl (eqb-true i j t)
            | inr t ↦ let p = and_parts (ltb 0 (bit_xor i j)) (ltb 0 (bit_or i j)) t in inr (ltb-true 0 _ p.0, ltb-true 0 _ p.1)
          ];
      top =
          elim (or_cases (eqb (bit_or i j) 7) _ d.1) [
            | inl t ↦ inl (eqb-true _ 7 t)
            | inr t ↦ let p = and_parts (ltb (bit_or i j) 7) (ltb (bit_xor i j) 7) t in inr (ltb-true _ 7 p.0, ltb-true _ 7 p.1)
          ];
    }

-- only point 7 has the offset of the highest point
pub not_highest : (m : ℕ) → m < 7 → offset_at m ≢ off true true true
not_highest m l e = let z : ◌≡◌ {A = Bool} true false = sym (at_below 7 (λ m. not (same_offset (offset_at m) (off true true true))) refl m l) ∙ ap (λ o. not (same_offset o (off true true true))) e in absurd (true_false z)
  where
    true_false : ◌≡◌ {A = Bool} true false → ⊥
    true_false z = let q : ◌≡◌ {A = ℕ} 1 0 = ap one_if z in omega arith

pub at_most_two : (n : ℕ) → n < 16 → length (triangles_in n) ≤ 2
at_most_two n l = leb-true _ 2 (at_below 16 (λ n. leb (length (triangles_in n)) 2) refl n l)

-- a piece's points are points of the cube
pub point_below : (w a : ℕ) → w < 6 → a < 4 → point_of w a < 8
point_below w a lw la = ltb-true _ 8 (at_below 4 (λ a. ltb (point_of w a) 8) (at_below 6 (λ w. all_below 4 (λ a. ltb (point_of w a) 8)) refl w lw) a la)

one_if_le : (b : Bool) → one_if b ≤ 1
one_if_le true = omega arith
one_if_le false = omega arith

pub bit_is : (m : ℕ) (b : Bool) → m ≡ one_if b → eqb m 1 ≡ b
bit_is m true e = ap (λ m. eqb m 1) e
bit_is m false e = ap (λ m. eqb m 1) e

pub case_below : (bits w : ℕ) → case_in bits w < 16
case_below bits w =
    omega (arith, one_if_le (bit bits (point_of w 0)), one_if_le (bit bits (point_of w 1)), one_if_le (bit bits (point_of w 2)), one_if_le (bit bits (point_of w 3)))

sums :
    (bits w : ℕ) →
    (case_in bits w / 1 % 2 ≡ one_if (bit bits (point_of w 0))) × (case_in bits w / 2 % 2 ≡ one_if (bit bits (point_of w 1)))
    × (case_in bits w / 4 % 2 ≡ one_if (bit bits (point_of w 2))) × (case_in bits w / 8 % 2 ≡ one_if (bit bits (point_of w 3)))
sums bits w =
    let a = one_if_le (bit bits (point_of w 0)) in let b = one_if_le (bit bits (point_of w 1)) in
    let c = one_if_le (bit bits (point_of w 2)) in let d = one_if_le (bit bits (point_of w 3)) in
    (omega arith, omega arith, omega arith, omega arith)

-- the bits of a case, by names
pub case_bit : (bits w a : ℕ) → a < 4 → bit (case_in bits w) a ≡ bit bits (point_of w a)
case_bit bits w zero l = bit_is _ _ (sums bits w).0
case_bit bits w (suc zero) l = bit_is _ _ (sums bits w).1
case_bit bits w (suc (suc zero)) l = bit_is _ _ (sums bits w).2
case_bit bits w (suc (suc (suc zero))) l = bit_is _ _ (sums bits w).3
case_bit bits w (suc (suc (suc (suc a)))) l = absurd (omega arith)
