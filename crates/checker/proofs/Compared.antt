-- The numbers of parts that a skin says, beside those by first triangle. Assumes nothing.
use Rattle.std.proofs.Common.{◌≡◌, ℕ, zero, suc, ◌+◌, ◌/◌, ◌%◌, ◌<◌, eqb, ◌↔◌, List, [], ◌∷◌, ◌++◌, map, length, get_or, sym, ap, ◌∙◌, subst, ⊎_elim, zero-add, arith}
use Rattle.std.specs.List.{range_with_len}
use Rattle.std.proofs.lemmas.List.{get_or_append_left, get_or_push}
use Rattle.std.proofs.lemmas.Bool.{cases_eq}
use Rattle.theory.specs.Triangle.{has}
use Rattle.theory_parts.specs.Parts.{Ringed, Numbered}
use Rattle.theory_parts.specs.Buffer.{triangle_at, part_at, count_in, triangles_in, parts_in}
use Rattle.part.specs.Taking.{InRange}
use Rattle.part.specs.Links.{ByLinks}
use Rattle.part.proofs.Laws.{links_number_parts}
use Rattle.checker.specs.Verdict.{Sound, RingedOnce, All}
use Rattle.checker.specs.Passes.{SameNumber}
use Rattle.checker.proofs.Verdicts.{above_zero, counting_length}
use Rattle.checker.proofs.Reading.{corner_below}

get_or_counting : (f : ℕ → ℕ) (a n i : ℕ) → i < n → get_or (map f (range_with_len a n)) i 0 ≡ f (a + i)
get_or_counting f a zero i l = absurd (omega arith)
get_or_counting f a (suc n) zero l = ap f (omega arith)
get_or_counting f a (suc n) (suc i) l = get_or_counting f (a + 1) n i (omega arith) ∙ ap f (omega arith)

module _ (ns : List ℕ) (p : ℕ) where
  number_at : (i : ℕ) → i < count_in ns → get_or (parts_in ns ++ p ∷ []) i 0 ≡ part_at ns i
  number_at i l =
      get_or_append_left (parts_in ns) (p ∷ []) 0 i (omega (arith, counting_length (part_at ns) 0 (count_in ns)))
      ∙ get_or_counting (part_at ns) 0 (count_in ns) i l ∙ ap (part_at ns) (zero-add i)

  number_last : get_or (parts_in ns ++ p ∷ []) (count_in ns) 0 ≡ p
  number_last = get_or_push (parts_in ns) p 0 (count_in ns) (counting_length (part_at ns) 0 (count_in ns))

module _ (ns ms : List ℕ) (p q : ℕ) (long : length ns ≡ length ms) where
  pub same_at : (i : ℕ) → i < count_in ms → (part_at ns i ≡ part_at ms i) ↔ SameNumber ns p (parts_in ms) q i
  same_at i l =
      let a = number_at ns p i (omega arith) in
      let b = number_at ms q i l in
      (λ e. a ∙ e ∙ sym b, λ e. sym a ∙ e ∙ b)

  pub same_last : (p ≡ q) ↔ SameNumber ns p (parts_in ms) q (count_in ms)
  same_last =
      let a : get_or (parts_in ns ++ p ∷ []) (count_in ms) 0 ≡ p = ap (λ n. get_or (parts_in ns ++ p ∷ []) (n / 4) 0) (sym long) ∙ number_last ns p in
      let b = number_last ms q in
      (λ e. a ∙ e ∙ sym b, λ e. sym a ∙ e ∙ b)

module _ (ns : List ℕ) (corners : ℕ) (sound : All (λ i. Sound corners (triangle_at ns i)) (count_in ns)) where
  pub sound_in_range : length ns % 4 ≡ 0 → InRange ns corners
  sound_in_range whole i l r =
      let s = (sound (i / 4) (omega arith)).in_range in
      ⊎_elim (λ (z : i % 4 ≡ 0). subst (λ k. get_or ns k 0 < corners) (omega arith) s.0)
      (λ y. ⊎_elim (λ (z : i % 4 ≡ 1). subst (λ k. get_or ns k 0 < corners) (omega arith) s.1.0)
      (λ x. subst (λ k. get_or ns k 0 < corners) (omega arith) s.1.1.0) (cases_eq (i % 4) 1))
      (cases_eq (i % 4) 0)

  pub all_ringed : All (RingedOnce (triangles_in ns)) corners → Ringed eqb (triangles_in ns)
  all_ringed ringed c h =
      let r = above_zero (has eqb c) (triangle_at ns) 0 (count_in ns) h in
      let t : 0 < has eqb c (triangle_at ns r.0) = subst (λ k. 0 < has eqb c (triangle_at ns k)) (zero-add r.0) r.2 in
      (ringed c (corner_below corners c (triangle_at ns r.0) (sound r.0 r.1).in_range t)).ring

  pub numbered_by_links :
      All (RingedOnce (triangles_in ns)) corners → (qs : List ℕ) (m : ℕ) → ByLinks (triangles_in ns) qs m → Numbered eqb (triangles_in ns) qs m
  numbered_by_links ringed qs m =
      links_number_parts (triangles_in ns) qs m (all_ringed ringed)
