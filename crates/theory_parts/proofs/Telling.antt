-- The part with a given number: which triangles it has, and that a test of corners tells it from the others. Assumes nothing.
use Rattle.std.proofs.Common.{◌≡◌, ℕ, zero, suc, ◌<◌, ◌≤◌, Bool, cond, eqb, ltb, List, [], ◌∷◌, length, get_or, sym, refl, ap, ◌∙◌, subst, ap₂, inl, inr, arith}
use Rattle.std.proofs.lemmas.Bool.{cases_Bool, cases_eq, cases_lt, cond-true, cond-false, cond_both, eqb-true, eq-eqb, ne_eqb, lt-ltb, le-ltb}
use Rattle.std.specs.List.{filter}
use Rattle.theory.specs.Triangle.{tri, sum_of, has, with_corner}
use Rattle.theory.specs.Skin.{Corner, Triangle, same, skin}
use Rattle.theory.proofs.Closing.{rings_from_walks}
use Rattle.theory.proofs.Rings.{closed_walks}
use Rattle.theory.proofs.Same.{same_true, same_refl}
use Rattle.theory_parts.specs.Parts.{Stands, InTurn, Numbered, Ringed}
use Rattle.theory_parts.specs.Regions.{Agree, on, OnePart, Region, of_part, NumberedPartsEnclose}
use Rattle.theory_parts.proofs.Joining.{stands_below, corners_had, no_corner_in_two_parts}
use Rattle.theory_parts.proofs.Agreeing.{stands_every}
use Rattle.theory_parts.proofs.Enclosing.{parts_enclose}

-- each part that begins has a triangle
in_turn_has :
    (k : ℕ) (ps : List ℕ) (n : ℕ) → InTurn k ps n → (m : ℕ) → k ≤ m → m < n → (i : ℕ) × (i < length ps) × (get_or ps i 0 ≡ m)
in_turn_has k [] n e m l h = absurd (omega arith)
in_turn_has k (p ∷ ps) n (inl e) m l h = let r = in_turn_has k ps n e.1 m l h in (suc r.0, omega (arith, r.1), r.2)
in_turn_has k (p ∷ ps) n (inr e) m l h =
    elim (cases_eq p m) [
      | inl q ↦ (0, omega arith, q)
      | inr q ↦ let r = in_turn_has (suc k) ps n e.1 m (omega (arith, λ (d : p ≡ m). q d)) h in (suc r.0, omega (arith, r.1), r.2)
    ]

stands_at : {A : Type 0} (xs : List A) (i : ℕ) → i < length xs → (x : A) × Stands xs i x
stands_at [] i l = absurd (omega arith)
stands_at (x ∷ xs) zero l = (x, refl)
stands_at (x ∷ xs) (suc i) l = stands_at xs i (omega arith)

-- things beside the numbers of their parts
module _ {A : Type 0} (m : ℕ) where
  part_sum :
      (h : A → ℕ) (ts : List A) (ps : List ℕ) (i : ℕ) (t : A) → length ps ≡ length ts → Stands ts i t → get_or ps i 0 ≡ m →
      h t ≤ sum_of h (of_part m ts ps)
  part_sum h [] ps i t l s e = absurd s
  part_sum h (u ∷ ts) [] i t l s e = absurd (omega arith)
  part_sum h (u ∷ ts) (p ∷ ps) zero t l s e =
      subst (λ us. h t ≤ sum_of h us) (sym (cond-true (eqb p m) (u ∷ of_part m ts ps) (of_part m ts ps) (eq-eqb p m e))) (omega (arith, ap h s))
  part_sum h (u ∷ ts) (p ∷ ps) (suc i) t l s e =
      let r = part_sum h ts ps i t (omega arith) s e in
      cond_both (eqb p m) (u ∷ of_part m ts ps) (of_part m ts ps) (λ us. h t ≤ sum_of h us) (λ _. omega arith) (λ _. r)

  -- a thing of the part m that weighs something
  Found : (A → ℕ) → List A → List ℕ → Type 0
  Found h ts ps = (i : ℕ) × (t : A) × Stands ts i t × (get_or ps i 0 ≡ m) × (0 < h t)

  part_found : (h : A → ℕ) (ts : List A) (ps : List ℕ) → 0 < sum_of h (of_part m ts ps) → Found h ts ps
  unfolding Found
  part_found h [] ps l = absurd (omega arith)
  part_found h (t ∷ ts) [] l = absurd (omega arith)
  part_found h (t ∷ ts) (p ∷ ps) l =
      elim (cases_Bool (eqb p m)) [
        | inl e ↦
            let k = rw (cond-true (eqb p m) (t ∷ of_part m ts ps) (of_part m ts ps) e) at l in
            elim (cases_lt 0 (h t)) [
              | inl d ↦ (0, t, refl, eqb-true p m e, d)
              | inr d ↦ let r = part_found h ts ps (omega arith) in (suc r.0, r.1, r.2, r.3, r.4)
            ]
        | inr e ↦
            let r = part_found h ts ps (rw (cond-false (eqb p m) (t ∷ of_part m ts ps) (of_part m ts ps) e) at l) in
            (suc r.0, r.1, r.2, r.3, r.4)
      ]

  kept_part :
      (T : A → Bool) (ts : List A) (ps : List ℕ) → length ps ≡ length ts →
      ((i : ℕ) (t : A) → Stands ts i t → T t ≡ eqb (get_or ps i 0) m) →
      filter T ts ≡ of_part m ts ps
  kept_part T [] ps l e = refl
  kept_part T (t ∷ ts) [] l e = absurd (omega arith)
  kept_part T (t ∷ ts) (p ∷ ps) l e =
      ap₂ (λ b us. cond b (t ∷ us) us) (e 0 t refl) (kept_part T ts ps (omega arith) (λ i u s. e (suc i) u s))

module _ (ts : List Triangle) (ps : List ℕ) (n : ℕ) (ringed : Ringed same ts) (numbered : Numbered same ts ps n) (m : ℕ) where
  -- the corner is one of the part's
  abbrev tells : Corner → Bool
  tells c = ltb 0 (with_corner same c (of_part m ts ps))

  tells_number : (i : ℕ) (t : Triangle) → Stands ts i t → (c : Corner) → 0 < has same c t → tells c ≡ eqb (get_or ps i 0) m
  unfolding Found
  tells_number i t s c h =
      elim (cases_eq (get_or ps i 0) m) [
        | inl e ↦ let k = part_sum m (has same c) ts ps i t numbered.long s e in lt-ltb 0 _ (omega arith) ∙ sym (eq-eqb (get_or ps i 0) m e)
        | inr d ↦ elim (cases_lt 0 (with_corner same c (of_part m ts ps))) [
          | inl k ↦
              let r = part_found m (has same c) ts ps k in
              let e = no_corner_in_two_parts same same_true same_refl ts ps n ringed numbered i r.0
              (record { this = t; that = r.1; this_stands = s; that_stands = r.2; corner = c; of_this = h; of_that = r.4 }) in
              absurd (d (e ∙ r.3))
          | inr k ↦ le-ltb 0 _ k ∙ sym (ne_eqb (get_or ps i 0) m d)
        ]
      ]

  on_number : (i : ℕ) (t : Triangle) → Stands ts i t → on tells t ≡ eqb (get_or ps i 0) m
  on_number i (tri a b e) s = tells_number i (tri a b e) s a (corners_had same same_true same_refl (tri a b e)).0

  agree_number : (i : ℕ) (t : Triangle) → Stands ts i t → Agree tells t
  agree_number i (tri a b e) s =
      let k = corners_had same same_true same_refl (tri a b e) in
      let at = λ (c : Corner) (h : 0 < has same c (tri a b e)). tells_number i (tri a b e) s c h in
      (at a k.0 ∙ sym (at b k.1.0), at b k.1.0 ∙ sym (at e k.1.1.0))

  one_part : m < n → OnePart tells ts
  one_part l =
      let r = in_turn_has 0 ps n numbered.in_turn m (omega arith) l in
      let t = stands_at ts r.0 (omega (arith, r.1, numbered.long)) in
      record {
        agree = stands_every (Agree tells) ts agree_number;
        place = r.0;
        triangle = t.0;
        stands = t.1;
        passes = on_number r.0 t.0 t.1 ∙ eq-eqb (get_or ps r.0 0) m r.2;
        together = λ i u s h.
            (numbered.alike r.0 i (stands_below ts r.0 t.0 t.1) (stands_below ts i u s)
            ).0 (r.2 ∙ sym (eqb-true (get_or ps i 0) m (sym (on_number i u s) ∙ h)));
      }

pub numbered_parts_enclose : NumberedPartsEnclose
numbered_parts_enclose f x y z border ps n numbered m l =
    let ts = skin f x y z in
    let ringed = rings_from_walks closed_walks f x y z border in
    subst (λ us. Region us x y z) (kept_part m _ ts ps numbered.long (on_number ts ps n ringed numbered m))
    (parts_enclose f x y z border (tells ts ps n ringed numbered m) (one_part ts ps n ringed numbered m l))
