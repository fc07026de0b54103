-- The spokes of triangles, from the first corner to the second and the third, connect what the triangles link. Assumes nothing.
use Rattle.std.proofs.Common.{◌≡◌, ℕ, ◌+◌, ◌*◌, ◌<◌, eqb, List, length, get_or, sym, refl, ap, ◌∙◌, subst, inl, inr, arith}
use mathlib.Core.Logic.Iff
use Rattle.std.proofs.lemmas.Bool.{cases_lt}
use Rattle.theory.specs.Triangle.{has}
use Rattle.theory_parts.specs.Parts.{Connected, step, back, onward, ShareTriangle}
use Rattle.part.specs.Forest.{Alone, Link, Plus, Alike, Tells}
use Rattle.theory_parts.specs.Buffer.{triangle_at, count_in, triangles_in}
use Rattle.part.specs.Passes.{Spoke, Told}
use Rattle.part.proofs.Connection.{connected_same, alike_trans, alike_tells}
use Rattle.part.proofs.Places.{stands_in, in_stands, has_one, one_had}

pub no_spokes : (ns p : List ℕ) → Alone p → Alike (Link p) (Spoke ns 0)
no_spokes ns p alone =
    record {
      there = λ a b l. connected_same (Spoke ns 0) (sym (alone a l.below) ∙ l.is);
      back = λ a b s. absurd (omega (arith, s.before));
    }

-- one more triangle has two more spokes
pub spokes_more : (ns : List ℕ) (n : ℕ) → Alike (Plus (Plus (Spoke ns n) (get_or ns (4 * n) 0) (get_or ns (4 * n + 1) 0)) (get_or ns (4 * n) 0) (get_or ns (4 * n + 2) 0)) (Spoke ns (n + 1))
spokes_more ns n =
    record {
      there = λ c d. elim [
        | inl r ↦ elim r [
          | inl s ↦ step (record { place = s.place; before = omega (arith, s.before); first = s.first; other = s.other })
          | inr e ↦ step (record { place = n; before = omega arith; first = e.0; other = inl e.1 })
        ]
        | inr e ↦ step (record { place = n; before = omega arith; first = e.0; other = inr e.1 })
      ];
      back = λ c d s. elim (cases_lt s.place n) [
        | inl l ↦ step (inl (inl (record { place = s.place; before = l; first = s.first; other = s.other })))
        | inr l ↦
            let e : s.place ≡ n = omega (arith, s.before) in
            elim s.other [
              | inl o ↦ step (inl (inr (s.first ∙ ap (λ k. get_or ns (4 * k) 0) e, o ∙ ap (λ k. get_or ns (4 * k + 1) 0) e)))
              | inr o ↦ step (inr (s.first ∙ ap (λ k. get_or ns (4 * k) 0) e, o ∙ ap (λ k. get_or ns (4 * k + 2) 0) e))
            ]
      ];
    }

module _ (ns : List ℕ) where
  spoke_to :
      (k : ℕ) → k < count_in ns → (c : ℕ) → 0 < has eqb c (triangle_at ns k) → Connected (Spoke ns (count_in ns)) (get_or ns (4 * k) 0) c
  spoke_to k l c h =
      elim (one_had c (get_or ns (4 * k) 0) (get_or ns (4 * k + 1) 0) (get_or ns (4 * k + 2) 0) h) [
        | inl e ↦ connected_same (Spoke ns (count_in ns)) (sym e)
        | inr o ↦ step (record { place = k; before = l; first = refl; other = o })
      ]

  pub spokes_share : Alike (Spoke ns (count_in ns)) (ShareTriangle eqb (triangles_in ns))
  spokes_share =
      record {
        there = λ c d s. step (record {
          place = s.place;
          triangle = triangle_at ns s.place;
          stands = stands_in (triangle_at ns) (count_in ns) s.place s.before;
          has_c = has_one c _ _ _ (inl s.first);
          has_d = has_one d _ _ _ (inr s.other);
        });
        back = λ c d s.
            let r = in_stands (triangle_at ns) (count_in ns) s.place s.triangle s.stands in
            onward (back (spoke_to s.place r.0 c (subst (λ t. 0 < has eqb c t) (sym r.1) s.has_c)))
            (spoke_to s.place r.0 d (subst (λ t. 0 < has eqb d t) (sym r.1) s.has_d));
      }

  -- numbers of trees that connect what the spokes do tell linked corners
  pub told : (p numbers : List ℕ) → length numbers ≡ length p → Tells p numbers → Alike (Link p) (Spoke ns (count_in ns)) → Told ns numbers
  told p numbers long t alike =
      record {
        below = λ a l. omega (arith, t.below a (omega arith));
        tells = λ a b l m. Iff.trans (t.tells a b (omega arith) (omega arith)) (alike_tells (alike_trans alike spokes_share));
      }
