-- A buffer of triangles read in chunks of four, one to a triangle. Assumes nothing.
use Rattle.std.proofs.Common.{◌≡◌, ℕ, zero, suc, ◌+◌, ◌*◌, ◌/◌, ◌%◌, ◌<◌, Bool, true, ◌&&◌, ltb, ◌↔◌, List, [], length, get_or, ap, ◌∙◌, subst, arith}
use Rattle.std.specs.List.{list_all}
use Rattle.std.specs.Simd.{first_chunks}
use Rattle.std.proofs.lemmas.Bool.{and_parts, and_from, ltb-true, lt-ltb}
use Rattle.std.proofs.lemmas.List.Sums.{AllPass-from_list_all, list_all-from_AllPass}
use Rattle.theory_parts.specs.Buffer.{count_in}
use Rattle.theory_parts.proofs.Chunks.{chunk_at, length-first_chunks}
use Rattle.part.specs.Taking.{InRange}

-- the three corners are below a limit
abbrev pub corners_below : ℕ → List ℕ → Bool
corners_below limit t = (ltb (get_or t 0 0) limit && ltb (get_or t 1 0) limit) && ltb (get_or t 2 0) limit

each_below : (limit : ℕ) (t : List ℕ) → corners_below limit t ≡ true → (k : ℕ) → k < 3 → get_or t k 0 < limit
each_below limit t e zero l = ltb-true _ _ (and_parts (ltb (get_or t 0 0) limit) _ (and_parts _ (ltb (get_or t 2 0) limit) e).0).0
each_below limit t e (suc zero) l = ltb-true _ _ (and_parts (ltb (get_or t 0 0) limit) _ (and_parts _ (ltb (get_or t 2 0) limit) e).0).1
each_below limit t e (suc (suc zero)) l = ltb-true _ _ (and_parts _ (ltb (get_or t 2 0) limit) e).1
each_below limit t e (suc (suc (suc k))) l = absurd (omega arith)

-- the chunks of a buffer
module _ (ns : List ℕ) (chunks : List (List ℕ)) (e : chunks ≡ first_chunks 4 (count_in ns) ns) where
  abbrev at : ℕ → ℕ → List ℕ → ℕ
  at i k d = get_or (get_or chunks i d) k 0

  in_place : (i k : ℕ) (d : List ℕ) → i < count_in ns → k < 4 → at i k d ≡ get_or ns (4 * i + k) 0
  in_place i k d l s = ap (λ us. get_or (get_or us i d) k 0) e ∙ chunk_at 4 (count_in ns) ns i k d l s

  -- what is said of a chunk's corners is said of those of its triangle
  pub of_corners :
      (i : ℕ) → i < count_in ns → (P : ℕ → ℕ → ℕ → Type 0) → P (at i 0 []) (at i 1 []) (at i 2 []) →
      P (get_or ns (4 * i) 0) (get_or ns (4 * i + 1) 0) (get_or ns (4 * i + 2) 0)
  of_corners i l P h =
      subst (λ a. P a (get_or ns (4 * i + 1) 0) (get_or ns (4 * i + 2) 0)) (in_place i 0 [] l (omega arith) ∙ ap (λ j. get_or ns j 0) (omega arith))
      (subst (λ b. P (at i 0 []) b (get_or ns (4 * i + 2) 0)) (in_place i 1 [] l (omega arith))
      (subst (P (at i 0 []) (at i 1 [])) (in_place i 2 [] l (omega arith)) h))

  pub corner_below : (limit i k : ℕ) → InRange ns limit → i < count_in ns → k < 3 → at i k [] < limit
  corner_below limit i k range l s = omega (arith, in_place i k [] l (omega arith), range (4 * i + k) (omega arith) (omega arith))

  long : length chunks ≡ count_in ns
  long = ap length e ∙ length-first_chunks 4 (count_in ns) ns

  pub range_of_chunks : (limit : ℕ) → length ns % 4 ≡ 0 → (list_all (corners_below limit) chunks ≡ true) ↔ InRange ns limit
  range_of_chunks limit exact = (there, back)
    where
      there : list_all (corners_below limit) chunks ≡ true → InRange ns limit
      there t i l s =
          let below : at (i / 4) (i % 4) [] < limit = each_below limit (get_or chunks (i / 4) []) (AllPass-from_list_all (corners_below limit) chunks t (i / 4) [] (omega (arith, long))) (i % 4) s in
          let whole : 4 * (i / 4) + i % 4 ≡ i = omega arith in
          omega (arith, below, in_place (i / 4) (i % 4) [] (omega arith) (omega arith), ap (λ j. get_or ns j 0) whole)

      back : InRange ns limit → list_all (corners_below limit) chunks ≡ true
      back range = list_all-from_AllPass (corners_below limit) chunks (λ i d l.
          let below : (k : ℕ) → k < 3 → ltb (at i k d) limit ≡ true =
          λ k s. lt-ltb (at i k d) limit (omega (arith, in_place i k d (omega (arith, long)) (omega arith), range (4 * i + k) (omega (arith, long)) (omega arith))) in
          and_from (ltb (at i 0 d) limit && ltb (at i 1 d) limit) (ltb (at i 2 d) limit)
          (and_from (ltb (at i 0 d) limit) (ltb (at i 1 d) limit) (below 0 (omega arith)) (below 1 (omega arith))) (below 2 (omega arith)))
