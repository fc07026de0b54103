-- Chains of the triangles that have a corner: how one more triangle is put before them, and how a sum goes along one. Assumes nothing.
use Rattle.std.proofs.Common.{◌≡◌, ℕ, zero, suc, ◌+◌, ◌*◌, ◌<◌, ◌≤◌, eqb, ◌≢◌, List, [], ◌∷◌, map, length, get_or, set, sym, refl, ap, ◌∙◌, subst, inl, inr, ⊎_elim, zero-add, arith, length-set}
use Rattle.std.specs.List.{range_with_len}
use Rattle.std.proofs.lemmas.List.{get_or-set_same, get_or-set_other}
use Rattle.std.proofs.lemmas.Bool.{cases_lt, cases_eq, cases_order}
use borrow.Rule.Slice.PartMut.{put_mid}
use Rattle.theory.specs.Triangle.{Tri, tri, has, sum_of}
use Rattle.theory.specs.Faces.{sum_below}
use Rattle.theory.proofs.Sums.{sum_below_same}
use Rattle.theory_parts.specs.Buffer.{triangle_at, count_in, triangles_in}
use Rattle.part.proofs.Places.{OneOf, has_one, one_had}
use Rattle.checker.specs.Verdict.{Sound}
use Rattle.checker.specs.Chained.{seen_from, Next, Chained, heads_before, nexts_before}
use Rattle.checker.specs.Passes.{before}
use Rattle.checker.proofs.Reading.{place_at, place_below}

-- a weight that triangles without c do not have adds up along the chain of c
pub next_before :
    (ns : List ℕ) (c i j : ℕ) (h : Tri ℕ → ℕ) → ((k : ℕ) → has eqb c (triangle_at ns k) ≡ 0 → h (triangle_at ns k) ≡ 0) →
    Next ns c i j → before ns j h ≡ before ns i h
next_before ns c i j h none n = gap j n.from n.none
  where
    gap : (j : ℕ) → i ≤ j → ((k : ℕ) → i ≤ k → k < j → has eqb c (triangle_at ns k) ≡ 0) → before ns j h ≡ before ns i h
    gap zero l e = let z : 0 ≡ i = omega arith in ap (λ m. before ns m h) z
    gap (suc j) l e =
        ⊎_elim
        (λ less. let r = gap j (omega arith) (λ k a b. e k a (omega arith)) in let z = none j (e j (omega arith) (omega arith)) in omega arith)
        (λ more. let z : suc j ≡ i = omega arith in ap (λ m. before ns m h) z)
        (cases_lt i (suc j))

-- a sum over a list made from a function of the place
counted_sum : {A : Type 0} (h : A → ℕ) (f : ℕ → A) (a n : ℕ) → sum_of h (map f (range_with_len a n)) ≡ sum_below n (λ i. h (f (a + i)))
counted_sum h f a zero = refl
counted_sum h f a (suc n) =
    ap (λ m. h (f a) + m) (counted_sum h f (a + 1) n ∙ sum_below_same n _ _ (λ i _. ap (λ k. h (f k)) (omega arith)))
    ∙ ap (λ k. h (f k) + sum_below n (λ i. h (f (a + suc i)))) (omega arith)
    ∙ shift n (λ i. h (f (a + i)))
  where
    shift : (n : ℕ) (g : ℕ → ℕ) → g 0 + sum_below n (λ i. g (suc i)) ≡ sum_below (suc n) g
    shift zero g = omega arith
    shift (suc n) g = let r = shift n g in omega arith

-- all triangles together
pub before_all : (ns : List ℕ) (h : Tri ℕ → ℕ) → before ns (count_in ns) h ≡ sum_of h (triangles_in ns)
before_all ns h = sym (counted_sum h (triangle_at ns) 0 (count_in ns) ∙ sum_below_same (count_in ns) _ _ (λ i _. ap (λ k. h (triangle_at ns k)) (zero-add i)))

-- a weight of at most 1 adds up to at most the number of triangles
pub before_most : (ns : List ℕ) (j : ℕ) (h : Tri ℕ → ℕ) → ((k : ℕ) → k < j → h (triangle_at ns k) ≤ 1) → before ns j h ≤ j
before_most ns zero h a = omega arith
before_most ns (suc j) h a = let r = before_most ns j h (λ k l. a k (omega arith)) in let z = a j (omega arith) in omega arith

-- three writes
module _ (xs : List ℕ) (p q r u v w : ℕ) where
  abbrev thrice : List ℕ
  thrice = set (set (set xs p u) q v) r w

  third : r < length xs → get_or thrice r 0 ≡ w
  third l = get_or-set_same (set (set xs p u) q v) r w 0 (simp length-set l)

  second : q < length xs → q ≢ r → get_or thrice q 0 ≡ v
  second l n = get_or-set_other (set (set xs p u) q v) r q w 0 n ∙ get_or-set_same (set xs p u) q v 0 (simp length-set l)

  first : p < length xs → p ≢ q → p ≢ r → get_or thrice p 0 ≡ u
  first l m n = get_or-set_other (set (set xs p u) q v) r p w 0 n ∙ get_or-set_other (set xs p u) q p v 0 m ∙ get_or-set_same xs p u 0 l

  other : (k : ℕ) → k ≢ p → k ≢ q → k ≢ r → get_or thrice k 0 ≡ get_or xs k 0
  other k l m n = get_or-set_other (set (set xs p u) q v) r k w 0 n ∙ get_or-set_other (set xs p u) q k v 0 m ∙ get_or-set_other xs p k u 0 l

-- three numbers written side by side at once
pub side_by_side :
    (xs ys : List ℕ) (p k u v w : ℕ) → ys ≡ u ∷ v ∷ w ∷ [] → k ≡ 3 → p + 2 < length xs → put_mid p k xs ys ≡ thrice xs p (p + 1) (p + 2) u v w
side_by_side xs ys p k u v w e three l =
    ap (put_mid p k xs) e ∙ ap (λ k. put_mid p k xs (u ∷ v ∷ w ∷ [])) three ∙ at p xs (omega arith)
    ∙ ap (λ q. set (set (set xs p u) q v) (suc (suc p)) w) (omega arith) ∙ ap (λ r. set (set (set xs p u) (p + 1) v) r w) (omega arith)
  where
    at : (p : ℕ) (xs : List ℕ) → suc (suc p) < length xs → put_mid p 3 xs (u ∷ v ∷ w ∷ []) ≡ thrice xs p (suc p) (suc (suc p)) u v w
    at p [] l = absurd (omega arith)
    at zero (x ∷ []) l = absurd (omega arith)
    at zero (x ∷ y ∷ []) l = absurd (omega arith)
    at zero (x ∷ y ∷ z ∷ xs) l = refl
    at (suc p) (x ∷ xs) l = ap (λ ys. x ∷ ys) (at p xs (omega arith))

-- the triangle at place i put before the chains of its corners
module _ (ns heads nexts : List ℕ) (i : ℕ) (at : i < count_in ns) (room : length nexts ≡ 3 * count_in ns)
    (sound : Sound (length heads) (triangle_at ns i)) (chained : Chained ns heads nexts (suc i)) where
  abbrev a : ℕ
  a = get_or ns (4 * i) 0

  abbrev b : ℕ
  b = get_or ns (4 * i + 1) 0

  abbrev e : ℕ
  e = get_or ns (4 * i + 2) 0

  next_here : (c : ℕ) → 0 < has eqb c (triangle_at ns i) → Next ns c i i
  next_here c h = record { from = omega arith; to = omega arith; none = λ k l m. absurd (omega arith); here = λ _. h }

  next_over : (c j : ℕ) → has eqb c (triangle_at ns i) ≡ 0 → Next ns c (suc i) j → Next ns c i j
  next_over c j z n = record {
    from = omega arith;
    to = n.to;
    none = λ k l m. ⊎_elim (λ same. ap (λ x. has eqb c (triangle_at ns x)) (sym same) ∙ z) (⊎_elim (λ more. n.none k more m) (λ less. absurd (omega arith))) (cases_order i k);
    here = n.here;
  }

  first_before : (c : ℕ) → c < length (heads_before ns i heads) → Next ns c i (get_or (heads_before ns i heads) c 0)
  first_before c l =
      ⊎_elim (λ s. put (inr (inr s)) (ap (λ x. get_or heads' x 0) s ∙ third heads a b e i i i inside_e))
      (λ ne. ⊎_elim (λ s. put (inr (inl s)) (ap (λ x. get_or heads' x 0) s ∙ second heads a b e i i i inside_b (λ z. ne (s ∙ z))))
      (λ nb. ⊎_elim (λ s. put (inl s) (ap (λ x. get_or heads' x 0) s ∙ first heads a b e i i i inside_a (λ z. nb (s ∙ z)) (λ z. ne (s ∙ z))))
      (λ na. subst (Next ns c i) (sym (other heads a b e i i i c na nb ne))
      (next_over c (get_or heads c 0) (without na nb ne) (chained.first c (simp length-set at l))))
      (cases_eq c a))
      (cases_eq c b))
      (cases_eq c e)
    where
      heads' : List ℕ
      heads' = heads_before ns i heads

      inside_a : a < length heads
      inside_a = sound.in_range.0

      inside_b : b < length heads
      inside_b = sound.in_range.1.0

      inside_e : e < length heads
      inside_e = sound.in_range.1.1.0

      put : OneOf c a b e → get_or (heads_before ns i heads) c 0 ≡ i → Next ns c i (get_or (heads_before ns i heads) c 0)
      put o is = subst (Next ns c i) (sym is) (next_here c (has_one c a b e o))

      without : (c ≡ a → ⊥) → (c ≡ b → ⊥) → (c ≡ e → ⊥) → has eqb c (triangle_at ns i) ≡ 0
      without na nb ne =
          ⊎_elim (λ h. absurd (⊎_elim na (⊎_elim nb ne) (one_had c a b e h))) (λ z. omega arith) (cases_lt 0 (has eqb c (tri a b e)))

  after_before :
      (j c : ℕ) → i ≤ j → j < count_in ns → 0 < has eqb c (triangle_at ns j) →
      Next ns c (suc j) (get_or (nexts_before ns i heads nexts) (3 * j + (seen_from c (triangle_at ns j)).place) 0)
  after_before j c l m h =
      ⊎_elim (λ s. subst (λ j. 0 < has eqb c (triangle_at ns j) → Next ns c (suc j) (get_or nexts' (3 * j + (seen_from c (triangle_at ns j)).place) 0)) s this h)
      (⊎_elim (λ more. let near = place_below c (triangle_at ns j) in
      subst (Next ns c (suc j)) (sym (other nexts (3 * i) (3 * i + 1) (3 * i + 2) (get_or heads a 0) (get_or heads b 0) (get_or heads e 0) (3 * j + (seen_from c (triangle_at ns j)).place) (omega arith) (omega arith) (omega arith)))
      (chained.after j c more m h))
      (λ less. absurd (omega arith)))
      (cases_order i j)
    where
      nexts' : List ℕ
      nexts' = nexts_before ns i heads nexts

      from : (d : ℕ) → d < length heads → (k : ℕ) → get_or (nexts_before ns i heads nexts) k 0 ≡ get_or heads d 0 → Next ns d (suc i) (get_or (nexts_before ns i heads nexts) k 0)
      from d l k is = subst (Next ns d (suc i)) (sym is) (chained.first d l)

      this : 0 < has eqb c (triangle_at ns i) → Next ns c (suc i) (get_or (nexts_before ns i heads nexts) (3 * i + (seen_from c (triangle_at ns i)).place) 0)
      this h =
          ⊎_elim (λ w. at_place 0 w.1 a w.0 (omega (arith, sound.in_range.0)) (ap (λ k. get_or nexts' k 0) (omega arith) ∙ first nexts (3 * i) (3 * i + 1) (3 * i + 2) (get_or heads a 0) (get_or heads b 0) (get_or heads e 0) (omega arith) (omega arith) (omega arith)))
          (⊎_elim (λ w. at_place 1 w.1 b w.0 (omega (arith, sound.in_range.1.0)) (second nexts (3 * i) (3 * i + 1) (3 * i + 2) (get_or heads a 0) (get_or heads b 0) (get_or heads e 0) (omega arith) (omega arith)))
          (λ w. at_place 2 w.1 e w.0 (omega (arith, sound.in_range.1.1.0)) (third nexts (3 * i) (3 * i + 1) (3 * i + 2) (get_or heads a 0) (get_or heads b 0) (get_or heads e 0) (omega arith))))
          (place_at c a b e sound.whole h)
        where
          at_place : (k : ℕ) → (seen_from c (triangle_at ns i)).place ≡ k → (d : ℕ) → c ≡ d → d < length heads → get_or (nexts_before ns i heads nexts) (3 * i + k) 0 ≡ get_or heads d 0 → Next ns c (suc i) (get_or (nexts_before ns i heads nexts) (3 * i + (seen_from c (triangle_at ns i)).place) 0)
          at_place k p d s l is =
              subst (λ q. Next ns c (suc i) (get_or nexts' (3 * i + q) 0)) (sym p) (from c (omega arith) (3 * i + k) (is ∙ ap (λ x. get_or heads x 0) (sym s)))

  pub chained_before : Chained ns (heads_before ns i heads) (nexts_before ns i heads nexts) i
  chained_before = record { first = first_before; after = after_before }
