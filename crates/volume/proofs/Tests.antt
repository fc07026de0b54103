-- What the tests of a skin say: a test at each number below n, and all of them together. Assumes nothing.
use Rattle.std.proofs.Common.{◌≡◌, ℕ, zero, suc, ◌%◌, ◌^◌, ◌<◌, ◌≤◌, Bool, true, ◌&&◌, eqb, ltb, leb, List, length, get_or, nat_abs, subst, inl, inr, arith}
use Rattle.std.proofs.lemmas.List.{get_or_past}
use Rattle.std.proofs.lemmas.Bool.{and_parts, and_from, cases_lt, leb-true}
use Rattle.theory_volume.specs.Sizes.{most_coordinate, most_triangles}
use Rattle.theory_parts.specs.Buffer.{part_at, count_in}
use Rattle.volume.specs.Measure.{each_below, whole, low, determinant_at, cornered, fine, measurable, Low}
use Rattle.volume.specs.Bounded.{bounded_at, bounded}

pub each_below_at : (n : ℕ) (t : ℕ → Bool) → each_below n t ≡ true → (i : ℕ) → i < n → t i ≡ true
each_below_at zero t e i l = absurd (omega arith)
each_below_at (suc n) t e i l =
    let p = and_parts (each_below n t) (t n) e in
    elim (cases_lt i n) [ inl k ↦ each_below_at n t p.0 i k | inr k ↦ let s : n ≡ i = omega arith in subst (λ j. t j ≡ true) s p.1 ]

each_below_weaker : (n : ℕ) (t u : ℕ → Bool) → ((i : ℕ) → t i ≡ true → u i ≡ true) → each_below n t ≡ true → each_below n u ≡ true
each_below_weaker zero t u w e = e
each_below_weaker (suc n) t u w e =
    let p = and_parts (each_below n t) (t n) e in
    and_from (each_below n u) (u n) (each_below_weaker n t u w p.0) (w n p.1)

-- past the end of a buffer there is 0
pub low_all : (cs : List ℕ) → each_below (length cs) (low cs) ≡ true → Low cs
low_all cs e i =
    elim (cases_lt i (length cs)) [
      | inl l ↦ leb-true (get_or cs i 0) most_coordinate (each_below_at (length cs) (low cs) e i l)
      | inr l ↦ omega (arith, get_or_past cs i 0 l)
    ]

-- what the tests of a skin say together, whatever is asked of each triangle
module _ (cs ts : List ℕ) (t : ℕ → Bool) (e : whole cs ts && (each_below (length cs) (low cs) && each_below (count_in ts) t) ≡ true) where
  both : (whole cs ts ≡ true) × (each_below (length cs) (low cs) && each_below (count_in ts) t ≡ true)
  both = and_parts (whole cs ts) (each_below (length cs) (low cs) && each_below (count_in ts) t) e

  all_low : Low cs
  all_low = low_all cs (and_parts (each_below (length cs) (low cs)) (each_below (count_in ts) t) both.1).0

  at_most : count_in ts ≤ most_triangles
  at_most =
      let p = and_parts (eqb (length cs % 3) 0) (eqb (length ts % 4) 0 && leb (count_in ts) most_triangles) both.0 in
      leb-true (count_in ts) most_triangles (and_parts (eqb (length ts % 4) 0) (leb (count_in ts) most_triangles) p.1).1

  each : (i : ℕ) → i < count_in ts → t i ≡ true
  each = each_below_at (count_in ts) t (and_parts (each_below (length cs) (low cs)) (each_below (count_in ts) t) both.1).1

-- what can be measured in m parts can be measured in as many as there is room for
pub measurable_bounded : (cs ts : List ℕ) (m : ℕ) → measurable cs ts m ≡ true → bounded cs ts ≡ true
unfolding measurable bounded
measurable_bounded cs ts m e =
    let p = and_parts (whole cs ts) _ e in
    let q = and_parts (each_below (length cs) (low cs)) _ p.1 in
    and_from _ _ p.0 (and_from _ _ q.0 (each_below_weaker (count_in ts) (fine cs ts m) (bounded_at cs ts) but_for_part q.1))
  where
    but_for_part : (i : ℕ) → fine cs ts m i ≡ true → bounded_at cs ts i ≡ true
    but_for_part i e =
        let p = and_parts (cornered cs ts i) _ e in
        and_from _ _ p.0 (and_parts (ltb (part_at ts i) m) _ p.1).1

-- what is known where a skin can be measured in as many parts as there is room for
pub record Bounds (cs ts : List ℕ) : Type 0 where
  pub low_there : Low cs
  pub few : count_in ts ≤ most_triangles
  pub corners : (i : ℕ) → i < count_in ts → cornered cs ts i ≡ true
  pub small : (i : ℕ) → i < count_in ts → nat_abs (determinant_at cs ts i) ≤ 2 ^ 34

pub bounds : (cs ts : List ℕ) → bounded cs ts ≡ true → Bounds cs ts
unfolding bounded
bounds cs ts e =
    record {
      low_there = all_low cs ts (bounded_at cs ts) e;
      few = at_most cs ts (bounded_at cs ts) e;
      corners = λ i l. (parts i (each cs ts (bounded_at cs ts) e i l)).0;
      small = λ i l. leb-true (nat_abs (determinant_at cs ts i)) (2 ^ 34) (parts i (each cs ts (bounded_at cs ts) e i l)).1;
    }
  where
    parts : (i : ℕ) → bounded_at cs ts i ≡ true → (cornered cs ts i ≡ true) × (leb (nat_abs (determinant_at cs ts i)) (2 ^ 34) ≡ true)
    parts i e = and_parts (cornered cs ts i) (leb (nat_abs (determinant_at cs ts i)) (2 ^ 34)) e
