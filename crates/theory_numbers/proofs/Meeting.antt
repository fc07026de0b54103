-- Corners put one by one behind those met so far, each unless it is there: the list in the end, and numbers that do not change.
-- Assumes nothing.
use Rattle.std.proofs.Common.{◌≡◌, suc, ◌<◌, Bool, true, false, cond, ◌⊎◌, List, [], ◌∷◌, ◌++◌, map, length, sym, refl, ap, ◌∙◌, ap₂, inl, inr, append_assoc, append-nil, arith}
use Rattle.std.proofs.lemmas.List.{flat_map_more}
use Rattle.std.proofs.lemmas.Bool.{cases_Bool, cases_lt, cond_both}
use Rattle.std.specs.List.{flat_map, AllByRecursion}
use Rattle.theory.specs.Triangle.{Tri, tri, one_if, times, corners, without, firsts}
use Rattle.theory.specs.Skin.{Corner, Triangle, same}
use Rattle.theory.proofs.Same.{same_true, same_refl}
use Rattle.theory_numbers.specs.Numbers.{index_of, renumber, meet, meet_all, corners_met, AsTheyAreMet}
use Rattle.theory.proofs.Sums.{every_split}
use Rattle.theory_numbers.proofs.Firsts.{same_sym}
use Rattle.theory_numbers.proofs.Kept.{AllCorners}
use Rattle.theory_numbers.proofs.Numbered.{all_met}

joined_append : {A B : Type 0} (g : A → List B) (xs ys : List A) → flat_map g (xs ++ ys) ≡ flat_map g xs ++ flat_map g ys
joined_append g [] ys = refl
joined_append g (x ∷ xs) ys = ap (λ zs. g x ++ zs) (joined_append g xs ys) ∙ sym (append_assoc (g x) (flat_map g xs) (flat_map g ys))

module _ {C : Type 0} (same : C → C → Bool) where
  pub meet_known : (met : List C) (c : C) → 0 < times same c met → meet same met c ≡ met
  meet_known [] c h = absurd (omega arith)
  meet_known (d ∷ ds) c h =
      cond_both (same d c) _ _ (λ xs. xs ≡ d ∷ ds) (λ _. refl) (λ n. ap (λ xs. d ∷ xs) (meet_known ds c (omega (arith, ap one_if n))))

  pub meet_new : (met : List C) (c : C) → times same c met ≡ 0 → meet same met c ≡ met ++ c ∷ []
  meet_new [] c h = refl
  meet_new (d ∷ ds) c h =
      cond_both (same d c) _ _ (λ xs. xs ≡ d ∷ (ds ++ c ∷ [])) (λ p. absurd (omega (arith, ap one_if p)))
      (λ n. ap (λ xs. d ∷ xs) (meet_new ds c (omega (arith, ap one_if n))))

  meet_either : (met : List C) (c : C) → (meet same met c ≡ met) ⊎ (meet same met c ≡ met ++ c ∷ [])
  meet_either met c = elim (cases_lt 0 (times same c met)) [ inl h ↦ inl (meet_known met c h) | inr h ↦ inr (meet_new met c (omega arith)) ]

  -- nothing that was met is moved
  pub meet_all_grows : (met cs : List C) → (more : List C) × (meet_all same met cs ≡ met ++ more)
  meet_all_grows met [] = ([], sym (append-nil met))
  meet_all_grows met (c ∷ cs) =
      let r = meet_all_grows (meet same met c) cs in
      elim (meet_either met c) [
        | inl e ↦ (r.0, r.1 ∙ ap (λ xs. xs ++ r.0) e)
        | inr e ↦ (c ∷ r.0, r.1 ∙ ap (λ xs. xs ++ r.0) e ∙ append_assoc met (c ∷ []) r.0)
      ]

  pub index_append : (met more : List C) (c : C) → 0 < times same c met → index_of same c (met ++ more) ≡ index_of same c met
  index_append [] more c h = absurd (omega arith)
  index_append (d ∷ ds) more c h =
      elim (cases_Bool (same d c))
      [ inl p ↦ rw p | inr n ↦ ap (λ i. cond (same d c) 0 (suc i)) (index_append ds more c (omega (arith, ap one_if n))) ]

  renumber_append :
      (cs more : List C) (t : Tri C) → AllByRecursion (λ c. 0 < times same c cs) (corners t) → renumber same (cs ++ more) t ≡ renumber same cs t
  renumber_append cs more (tri a b e) s =
      λ i. tri (index_append cs more a s.0 i) (index_append cs more b s.1.0 i) (index_append cs more e s.1.1.0 i)

  map_renumber_append :
      (cs more : List C) (ts : List (Tri C)) → AllCorners (λ c. 0 < times same c cs) ts →
      map (renumber same (cs ++ more)) ts ≡ map (renumber same cs) ts
  map_renumber_append cs more [] a = refl
  map_renumber_append cs more (t ∷ ts) a = ap₂ ◌∷◌ (renumber_append cs more t a.0) (map_renumber_append cs more ts a.1)

  module _ (same_true : (c d : C) → same c d ≡ true → c ≡ d) (same_refl : (c : C) → same c c ≡ true) where
    index_push : (met : List C) (c : C) → times same c met ≡ 0 → index_of same c (met ++ c ∷ []) ≡ length met
    index_push [] c h = rw (same_refl c)
    index_push (d ∷ ds) c h =
        cond_both (same d c) _ _ (λ n. n ≡ suc (length ds)) (λ p. absurd (omega (arith, ap one_if p)))
        (λ n. ap suc (index_push ds c (omega (arith, ap one_if n))))

    without_meet_itself : (c d : C) (ds : List C) → same c d ≡ true → without same c (meet same ds d) ≡ without same c ds
    without_meet_itself c d [] p = rw (same_sym same same_true same_refl d c, p)
    without_meet_itself c d (e ∷ ds) p =
        cond_both (same e d) _ _ (λ xs. without same c xs ≡ without same c (e ∷ ds)) (λ _. refl)
        (λ _. ap (λ xs. cond (same e c) xs (e ∷ xs)) (without_meet_itself c d ds p))

    without_meet_other : (c d : C) (ds : List C) → same c d ≡ false → without same c (meet same ds d) ≡ meet same (without same c ds) d
    without_meet_other c d [] n = rw (same_sym same same_true same_refl d c, n)
    without_meet_other c d (e ∷ ds) n =
        let i = without_meet_other c d ds n in
        elim (cases_Bool (same e d)) [
          | inl p ↦
              let o : same e c ≡ false = ap (λ x. same x c) (same_true e d p) ∙ same_sym same same_true same_refl d c ∙ n in
              rw (p, o, p)
          | inr m ↦ elim (cases_Bool (same e c)) [
            | inl p ↦ rw (m, p) i
            | inr o ↦ rw (m, o, m) (ap (λ xs. e ∷ xs) i)
          ]
        ]

    firsts_push : (cs : List C) (d : C) → firsts same (cs ++ d ∷ []) ≡ meet same (firsts same cs) d
    firsts_push [] d = refl
    firsts_push (c ∷ cs) d =
        ap (λ xs. c ∷ without same c xs) (firsts_push cs d)
        ∙ cond_both (same c d) _ _ (λ ys. c ∷ without same c (meet same (firsts same cs) d) ≡ ys)
        (λ p. ap (λ xs. c ∷ xs) (without_meet_itself c d (firsts same cs) p))
        (λ n. ap (λ xs. c ∷ xs) (without_meet_other c d (firsts same cs) n))

    -- meeting goes on as the list does
    pub meet_all_firsts : (cs ds : List C) → meet_all same (firsts same cs) ds ≡ firsts same (cs ++ ds)
    meet_all_firsts cs [] = ap (firsts same) (sym (append-nil cs))
    meet_all_firsts cs (d ∷ ds) =
        ap (λ xs. meet_all same xs ds) (sym (firsts_push cs d)) ∙ meet_all_firsts (cs ++ d ∷ []) ds
        ∙ ap (firsts same) (append_assoc cs (d ∷ []) ds)

met_next : (ts : List Triangle) (t : Triangle) → meet_all same (corners_met ts) (corners t) ≡ corners_met (ts ++ t ∷ [])
met_next ts t = meet_all_firsts same same_true same_refl (flat_map corners ts) (corners t) ∙ ap (firsts same) (flat_map_more corners [] ts t)

-- what more triangles meet stands behind
met_more : (ts us : List Triangle) → (more : List Corner) × (corners_met (ts ++ us) ≡ corners_met ts ++ more)
met_more ts us =
    let r = meet_all_grows same (corners_met ts) (flat_map corners us) in (
      r.0,
      ap (firsts same) (joined_append corners ts us)
          ∙ sym (meet_all_firsts same same_true same_refl (flat_map corners ts) (flat_map corners us)) ∙ r.1,
    )

so_far : (ts us : List Triangle) → map (renumber same (corners_met (ts ++ us))) ts ≡ map (renumber same (corners_met ts)) ts
so_far ts us =
    let r = met_more ts us in
    ap (λ cs. map (renumber same cs) ts) r.1 ∙ map_renumber_append same (corners_met ts) r.0 ts (all_met ts)

final : (ts : List Triangle) (t : Triangle) (us : List Triangle) →
    renumber same (meet_all same (corners_met ts) (corners t)) t ≡ renumber same (corners_met (ts ++ t ∷ us)) t
final ts t us =
    let vs = ts ++ t ∷ [] in
    let r = met_more vs us in
    ap (λ cs. renumber same cs t) (met_next ts t)
    ∙ sym (renumber_append same (corners_met vs) r.0 t (every_split _ ts (t ∷ []) (all_met vs)).1.0)
    ∙ ap (λ cs. renumber same cs t) (sym r.1 ∙ ap corners_met (append_assoc ts (t ∷ []) us))

pub as_they_are_met : AsTheyAreMet
as_they_are_met =
    record {
      in_the_end = meet_all_firsts same same_true same_refl [];
      known = meet_known same;
      new = meet_new same;
      new_number = λ met c h. ap (index_of same c) (meet_new same met c h) ∙ index_push same same_true same_refl met c h;
      kept = λ met cs c h. let r = meet_all_grows same met cs in ap (index_of same c) r.1 ∙ index_append same met r.0 c h;
      next = met_next;
      final = final;
      so_far = so_far;
    }
