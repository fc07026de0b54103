-- What is computed of each of the 256 cases of a cube: its corners lie between a point inside and one outside, those on edges to its highest
-- point come once each in the list of new ones, and the counts are right. Assumes nothing.
use Rattle.std.proofs.Common.{◌≡◌, ℕ, zero, suc, ◌+◌, ◌-◌, ◌*◌, ◌<◌, Bool, true, false, not, ◌&&◌, ◌||◌, eqb, ltb, ◌⊎◌, List, [], ◌∷◌, map, length, get_or, drop, sym, refl, ap, ◌∙◌, ap₂, inl, inr, add-one, arith}
use mathlib.Core.Bool.{beq}
use lib.Bits.{bit_or, bit_xor}
use Rattle.std.proofs.lemmas.Bool.{and_parts, eqb-true, ltb-true, not-true, or_cases}
use Rattle.std.specs.List.{flat_map, AllByRecursion}
use Rattle.theory.specs.Triangle.{Edge, edge, Tri, tri, corners, times}
use Rattle.theory_numbers.specs.Numbers.{mapped}
use Rattle.piece.specs.Table.{bit}
use Rattle.triangle.specs.Cases.{cube_table, edges_in, edge_code, code_triangles, steps_met, new_steps, new_edge, new_corners, new_triangles}
use Rattle.triangle.specs.Output.{numbered_by}
use Rattle.triangle.proofs.Tables.{at_below, pair_facts}

-- a test that passes at each element
abbrev all_of : {A : Type 0} → (A → Bool) → List A → Bool
all_of t [] = true
all_of t (x ∷ xs) = t x && all_of t xs

every_of : {A : Type 0} (t : A → Bool) (P : A → Type 0) → ((x : A) → t x ≡ true → P x) → (xs : List A) → all_of t xs ≡ true → AllByRecursion P xs
every_of t P f [] e = tt
every_of t P f (x ∷ xs) e = let p = and_parts (t x) (all_of t xs) e in (f x p.0, every_of t P f xs p.1)

-- what two facts give at each element
pub every_with : {A : Type 0} (P Q R : A → Type 0) → ((x : A) → P x → Q x → R x) → (xs : List A) → AllByRecursion P xs → AllByRecursion Q xs → AllByRecursion R xs
every_with P Q R f [] p q = tt
every_with P Q R f (x ∷ xs) p q = (f x p.0 q.0, every_with P Q R f xs p.1 q.1)

abbrev same_ends : Edge ℕ → Edge ℕ → Bool
same_ends (edge p q) (edge r s) = eqb p r && eqb q s

ends_true : (e d : Edge ℕ) → same_ends e d ≡ true → e ≡ d
ends_true (edge p q) (edge r s) t = let a = and_parts (eqb p r) (eqb q s) t in ap₂ edge (eqb-true p r a.0) (eqb-true q s a.1)

-- a corner of the table: from a point inside to one outside, and if its edge ends at the highest point then its step is among the new ones
pub record EdgeFacts (b p q : ℕ) : Type 0 where
  pub from : p < 8
  pub to : q < 8
  pub starts : bit b p ≡ true
  pub ends : bit b q ≡ false
  pub top : (bit_or p q < 7) ⊎ ((edge p q ≡ new_edge b (bit_xor p q)) × (0 < times eqb (bit_xor p q) (new_steps b)))

abbrev pub EdgeOf : ℕ → Edge ℕ → Type 0
EdgeOf b (edge p q) = EdgeFacts b p q

abbrev edge_test : ℕ → List ℕ → Edge ℕ → Bool
edge_test b ss (edge p q) =
    ltb p 8 && (ltb q 8 && (bit b p && (not (bit b q)
    && (ltb (bit_or p q) 7 || (same_ends (edge p q) (new_edge b (bit_xor p q)) && ltb 0 (times eqb (bit_xor p q) ss))))))

edge_facts : (b : ℕ) (e : Edge ℕ) → edge_test b (new_steps b) e ≡ true → EdgeOf b e
edge_facts b (edge p q) t =
    let v = and_parts (ltb p 8) _ t in
    let w = and_parts (ltb q 8) _ v.1 in
    let x = and_parts (bit b p) _ w.1 in
    let y = and_parts (not (bit b q)) _ x.1 in
    record {
      from = ltb-true p 8 v.0;
      to = ltb-true q 8 w.0;
      starts = x.0;
      ends = not-true _ y.0;
      top =
          elim (or_cases (ltb (bit_or p q) 7) _ y.1) [
            | inl l ↦ inl (ltb-true _ 7 l)
            | inr r ↦ let z = and_parts (same_ends (edge p q) (new_edge b (bit_xor p q))) _ r in inr (ends_true _ _ z.0, ltb-true 0 _ z.1)
          ];
    }

-- a new step: its edge crosses
pub record StepFacts (b s : ℕ) : Type 0 where
  pub above : 0 < s
  pub below : s < 8
  pub parted : bit b (7 - s) ≡ not (bit b 7)

abbrev step_test : ℕ → ℕ → Bool
step_test b s = ltb 0 s && (ltb s 8 && beq (bit b (7 - s)) (not (bit b 7)))

step_facts : (b s : ℕ) → step_test b s ≡ true → StepFacts b s
step_facts b s t =
    let v = and_parts (ltb 0 s) _ t in
    let w = and_parts (ltb s 8) _ v.1 in
    record { above = ltb-true 0 s v.0; below = ltb-true s 8 w.0; parted = beq_true _ _ w.1 }
  where
    beq_true : (a b : Bool) → beq a b ≡ true → a ≡ b
    beq_true true true e = refl
    beq_true false false e = refl
    beq_true true false e = sym e
    beq_true false true e = e

-- no number comes twice
abbrev pub Distinct : List ℕ → Type 0
Distinct [] = Unit {0}
Distinct (s ∷ ss) = AllByRecursion (λ t. eqb s t ≡ false) ss × Distinct ss

abbrev distinct : List ℕ → Bool
distinct [] = true
distinct (s ∷ ss) = all_of (λ t. not (eqb s t)) ss && distinct ss

distinct_true : (ss : List ℕ) → distinct ss ≡ true → Distinct ss
distinct_true [] e = tt
distinct_true (s ∷ ss) e =
    let p = and_parts (all_of (λ t. not (eqb s t)) ss) (distinct ss) e in
    (every_of (λ t. not (eqb s t)) _ (λ t. not-true (eqb s t)) ss p.0, distinct_true ss p.1)

pub record Case (b : ℕ) : Type 0 where
  pub edges : AllByRecursion (EdgeOf b) (edges_in b)
  pub steps : AllByRecursion (StepFacts b) (new_steps b)
  pub apart : Distinct (new_steps b)
  pub step_count : length (new_steps b) ≡ new_corners b
  pub triangle_count : length (cube_table b) ≡ new_triangles b

abbrev tests : ℕ → List (Edge ℕ) → List ℕ → Bool
tests b es ss =
    all_of (edge_test b ss) es && (all_of (step_test b) ss && (distinct ss
    && (eqb (length ss) (new_corners b) && eqb (length (cube_table b)) (new_triangles b))))

abbrev case_test : ℕ → Bool
case_test b = tests b (edges_in b) (steps_met [] (edges_in b))

pub case_facts : (b : ℕ) → b < 256 → Case b
case_facts b l =
    let v = and_parts (all_of (edge_test b (new_steps b)) (edges_in b)) _ (at_below 256 case_test refl b l) in
    let w = and_parts (all_of (step_test b) (new_steps b)) _ v.1 in
    let x = and_parts (distinct (new_steps b)) _ w.1 in
    let y = and_parts (eqb (length (new_steps b)) (new_corners b)) _ x.1 in
    record {
      edges = every_of (edge_test b (new_steps b)) (EdgeOf b) (edge_facts b) (edges_in b) v.0;
      steps = every_of (step_test b) (StepFacts b) (step_facts b) (new_steps b) w.0;
      apart = distinct_true (new_steps b) x.0;
      step_count = eqb-true _ _ y.0;
      triangle_count = eqb-true _ _ y.1;
    }

-- what holds of each element holds of one
every_at : {A : Type 0} (P : A → Type 0) (xs : List A) (i : ℕ) (d : A) → AllByRecursion P xs → i < length xs → P (get_or xs i d)
every_at P [] i d e l = absurd (omega arith)
every_at P (x ∷ xs) zero d e l = e.0
every_at P (x ∷ xs) (suc i) d e l = every_at P xs i d e.1 (omega arith)

module _ (b : ℕ) (small : b < 256) where
  pub new_step_at : (i : ℕ) → i < length (new_steps b) → StepFacts b (get_or (new_steps b) i 0)
  new_step_at i l = every_at (StepFacts b) (new_steps b) i 0 (case_facts b small).steps l

  -- each code is below 64
  codes_small : AllByRecursion (λ t. AllByRecursion (λ c. c < 64) (corners t)) (code_triangles b)
  codes_small = by_table (cube_table b) (case_facts b small).edges
    where
      code_small : (p q : ℕ) → EdgeFacts b p q → 8 * bit_or p q + bit_xor p q < 64
      code_small p q t =
          let f = pair_facts p q t.from t.to in
          elim f.top [ inl e ↦ omega (arith, f.step_below) | inr l ↦ omega (arith, f.step_below, l.0) ]

      by_table :
          (ts : List (Tri (Edge ℕ))) → AllByRecursion (EdgeOf b) (flat_map corners ts) →
          AllByRecursion (λ t. AllByRecursion (λ c. c < 64) (corners t)) (map (mapped edge_code) ts)
      by_table [] e = tt
      by_table (tri (edge p q) (edge r s) (edge u v) ∷ ts) e =
          ((code_small p q e.0, (code_small r s e.1.0, (code_small u v e.1.1.0, tt))), by_table ts e.1.1.1)

  pub code_small : (i j : ℕ) → get_or (get_or (map corners (code_triangles b)) i []) j 0 < 64
  code_small = within (code_triangles b) codes_small
    where
      within :
          (ts : List (Tri ℕ)) → AllByRecursion (λ t. AllByRecursion (λ c. c < 64) (corners t)) ts →
          (i j : ℕ) → get_or (get_or (map corners ts) i []) j 0 < 64
      within [] e i j = omega arith
      within (tri a b c ∷ ts) e zero zero = e.0.0
      within (tri a b c ∷ ts) e zero (suc zero) = e.0.1.0
      within (tri a b c ∷ ts) e zero (suc (suc zero)) = e.0.1.1.0
      within (tri a b c ∷ ts) e zero (suc (suc (suc j))) = omega arith
      within (tri a b c ∷ ts) e (suc i) j = within ts e.1 i j

-- the next of some triangles by the codes of their corners, with the numbers that stand by these
pub next_numbered :
    (ns : List ℕ) (ts : List (Tri ℕ)) (i : ℕ) → i < length ts →
    let t = get_or (map corners ts) i [] in
    drop i (map (numbered_by ns) ts)
    ≡ tri (get_or ns (get_or t 0 0) 0) (get_or ns (get_or t 1 0) 0) (get_or ns (get_or t 2 0) 0) ∷ drop (i + 1) (map (numbered_by ns) ts)
next_numbered ns ts i l =
    let t = get_or (map corners ts) i [] in
    at ts i l
    ∙ ap (λ n. tri (get_or ns (get_or t 0 0) 0) (get_or ns (get_or t 1 0) 0) (get_or ns (get_or t 2 0) 0) ∷ drop n (map (numbered_by ns) ts)) (sym (add-one i))
  where
    at :
        (ts : List (Tri ℕ)) (i : ℕ) → i < length ts →
        let t = get_or (map corners ts) i [] in
        drop i (map (numbered_by ns) ts)
        ≡ tri (get_or ns (get_or t 0 0) 0) (get_or ns (get_or t 1 0) 0) (get_or ns (get_or t 2 0) 0) ∷ drop (suc i) (map (numbered_by ns) ts)
    at [] i l = absurd (omega arith)
    at (tri a b c ∷ ts) zero l = refl
    at (tri a b c ∷ ts) (suc i) l = at ts i (omega arith)
