-- Triangles whose corners are renamed: where they lie, which of them have a common side and which part they are of stays as it is.
-- Stated over any sorts of corner. Assumes nothing.
use Rattle.std.proofs.Common.{◌≡◌, ℕ, zero, suc, ◌≤◌, Bool, true, cond, ◌&&◌, eqb, List, [], ◌∷◌, map, sym, refl, ap, ◌∙◌, subst, inl, inr, arith}
use lib.ListN.{length-map}
use Rattle.std.proofs.lemmas.Bool.{cases_Bool, and_parts, and_from, cond-true, cond-false, cond_both}
use Rattle.std.specs.List.{AllByRecursion}
use Rattle.theory.specs.Triangle.{Tri, tri, one_if, side}
use Rattle.theory.specs.Places.{Place}
use Rattle.theory_numbers.specs.Numbers.{mapped}
use Rattle.theory_numbers.proofs.Kept.{AllCorners}
use Rattle.theory_parts.specs.Parts.{itself, step, back, onward, Stands, Joined, Numbered}
use Rattle.theory_parts.specs.Regions.{of_part}
use Rattle.theory_volume.specs.Volume.{six_volume}
use Rattle.theory_volume.specs.Sizes.{Small}
use Rattle.theory_volume.proofs.Signs.{six_volume_named}

stands_map : {A B : Type 0} (g : A → B) (xs : List A) (i : ℕ) (x : A) → Stands xs i x → Stands (map g xs) i (g x)
stands_map g [] i x s = absurd s
stands_map g (y ∷ ys) zero x s = ap g s
stands_map g (y ∷ ys) (suc i) x s = stands_map g ys i x s

pub of_part_map : {A B : Type 0} (g : A → B) (m : ℕ) (ts : List A) (ps : List ℕ) → of_part m (map g ts) ps ≡ map g (of_part m ts ps)
of_part_map g m [] ps = refl
of_part_map g m (t ∷ ts) [] = refl
of_part_map g m (t ∷ ts) (p ∷ ps) =
    ap (λ us. cond (eqb p m) (g t ∷ us) us) (of_part_map g m ts ps)
    ∙ cond_both (eqb p m) _ _ (λ us. cond (eqb p m) (g t ∷ map g (of_part m ts ps)) (map g (of_part m ts ps)) ≡ map g us)
    (cond-true (eqb p m) _ _) (cond-false (eqb p m) _ _)

pub mapped_itself : {C : Type 0} (ts : List (Tri C)) → map (mapped (λ c. c)) ts ≡ ts
mapped_itself [] = refl
mapped_itself (tri a b e ∷ ts) = ap (λ us. tri a b e ∷ us) (mapped_itself ts)

-- what triangles enclose depends on their corners' places alone
pub six_volume_places :
    {C D : Type 0} (at : C → Place) (to : D → Place) (ts : List (Tri C)) (us : List (Tri D)) →
    map (mapped at) ts ≡ map (mapped to) us → six_volume at ts ≡ six_volume to us
six_volume_places at to ts us e = sym (six_volume_named (λ p. p) at ts) ∙ ap (six_volume (λ p. p)) e ∙ six_volume_named (λ p. p) to us

module _ {C D : Type 0} (m : C → D) where
  pub all_corners_mapped : (P : D → Type 0) (ts : List (Tri C)) → AllCorners (λ c. P (m c)) ts → AllCorners P (map (mapped m) ts)
  all_corners_mapped P [] p = tt
  all_corners_mapped P (tri a b e ∷ ts) p = (p.0, all_corners_mapped P ts p.1)

  pub mapped_twice :
      {E : Type 0} (g : D → E) (h : C → E) (ts : List (Tri C)) → AllCorners (λ c. g (m c) ≡ h c) ts →
      map (mapped g) (map (mapped m) ts) ≡ map (mapped h) ts
  mapped_twice g h [] p = refl
  mapped_twice g h (tri a b e ∷ ts) p = λ i. tri (p.0.0 i) (p.0.1.0 i) (p.0.1.1.0 i) ∷ mapped_twice g h ts p.1 i

  pub small_mapped :
      (at : D → Place) (to : C → Place) (ts : List (Tri C)) → AllCorners (λ c. at (m c) ≡ to c) ts →
      AllByRecursion (Small to) ts → AllByRecursion (Small at) (map (mapped m) ts)
  small_mapped at to [] p s = tt
  small_mapped at to (tri a b e ∷ ts) p s =
      (rw (p.0.0, p.0.1.0, p.0.1.1.0) s.0, small_mapped at to ts p.1 s.1)

-- Whatever corners are renamed to, those that were the same stay the same, so triangles that were joined stay joined. No more is needed of
-- the new names: where a renaming can be undone, the same holds on the way back.
module _ {C D : Type 0} (sC : C → C → Bool) (sD : D → D → Bool)
    (true-C : (a b : C) → sC a b ≡ true → a ≡ b) (refl-D : (d : D) → sD d d ≡ true) (m : C → D) where
  same_kept : (a b : C) → sC a b ≡ true → sD (m a) (m b) ≡ true
  same_kept a b e = subst (λ c. sD (m a) (m c) ≡ true) (true-C a b e) (refl-D (m a))

  both_kept : (a b c d : C) → one_if (sC a c && sC b d) ≤ one_if (sD (m a) (m c) && sD (m b) (m d))
  both_kept a b c d =
      elim (cases_Bool (sC a c && sC b d)) [
        | inl e ↦
            let p = and_parts (sC a c) (sC b d) e in
            omega (arith, ap one_if e, ap one_if (and_from _ _ (same_kept a c p.0) (same_kept b d p.1)))
        | inr e ↦ omega (arith, ap one_if e)
      ]

  side_kept : (c d : C) (t : Tri C) → side sC c d t ≤ side sD (m c) (m d) (mapped m t)
  unfolding side
  side_kept c d (tri a b e) = omega (arith, both_kept a b c d, both_kept b e c d, both_kept e a c d)

  pub joined_mapped : (ts : List (Tri C)) {i j : ℕ} → Joined sC ts i j → Joined sD (map (mapped m) ts) i j
  joined_mapped ts (itself i) = itself i
  joined_mapped ts {i} {j} (step s) =
      step (record {
        this = mapped m s.this;
        that = mapped m s.that;
        this_stands = stands_map (mapped m) ts i s.this s.this_stands;
        that_stands = stands_map (mapped m) ts j s.that s.that_stands;
        from = m s.from;
        to = m s.to;
        side_of_this = omega (arith, s.side_of_this, side_kept s.from s.to s.this, side_kept s.to s.from s.this);
        side_of_that = omega (arith, s.side_of_that, side_kept s.from s.to s.that, side_kept s.to s.from s.that);
      })
  joined_mapped ts (back r) = back (joined_mapped ts r)
  joined_mapped ts (onward q r) = onward (joined_mapped ts q) (joined_mapped ts r)

-- where a renaming can be undone, the parts by the new names are the parts
pub numbered_unmapped :
    {C D : Type 0} (sC : C → C → Bool) (sD : D → D → Bool) →
    ((a b : C) → sC a b ≡ true → a ≡ b) → ((c : C) → sC c c ≡ true) → ((a b : D) → sD a b ≡ true → a ≡ b) → ((d : D) → sD d d ≡ true) →
    (m : C → D) (g : D → C) (ts : List (Tri C)) → map (mapped g) (map (mapped m) ts) ≡ ts →
    (ps : List ℕ) (n : ℕ) → Numbered sD (map (mapped m) ts) ps n → Numbered sC ts ps n
numbered_unmapped sC sD true-C refl-C true-D refl-D m g ts undone ps n q =
    let long = length-map ts (mapped m) in
    record {
      long = q.long ∙ long;
      alike = λ i j k l.
          let r = q.alike i j (omega arith) (omega arith) in (
            (λ e. subst (λ us. Joined sC us i j) undone (joined_mapped sD sC true-D refl-C g (map (mapped m) ts) (r.0 e))),
            λ h. r.1 (joined_mapped sC sD true-C refl-D m ts h),
          );
      in_turn = q.in_turn;
    }
