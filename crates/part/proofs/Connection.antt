-- Relations that connect the same numbers may stand for one another. Assumes nothing.
use Rattle.std.proofs.Common.{◌≡◌, ℕ, ◌⊎◌, ◌↔◌, sym, refl, subst, subst₂, inl, inr}
use Rattle.theory_parts.specs.Parts.{Connected, itself, step, back, onward}
use Rattle.part.specs.Forest.{Plus, Alike}

pub connected_along : {R S : ℕ → ℕ → Type 0} → ((a b : ℕ) → R a b → Connected S a b) → {a b : ℕ} → Connected R a b → Connected S a b
connected_along f (itself a) = itself a
connected_along f (step {a} {b} r) = f a b r
connected_along f (back w) = back (connected_along f w)
connected_along f (onward v w) = onward (connected_along f v) (connected_along f w)

pub connected_same : (R : ℕ → ℕ → Type 0) {a b : ℕ} → a ≡ b → Connected R a b
connected_same R {a} e = subst (λ x. Connected R a x) e (itself a)

pub alike_trans : {R S T : ℕ → ℕ → Type 0} → Alike R S → Alike S T → Alike R T
alike_trans f g =
    record { there = λ a b r. connected_along g.there (f.there a b r); back = λ a b t. connected_along f.back (g.back a b t) }

pub alike_refl : {R : ℕ → ℕ → Type 0} → Alike R R
alike_refl = record { there = λ a b r. step r; back = λ a b r. step r }

pub alike_tells : {R S : ℕ → ℕ → Type 0} → Alike R S → {a b : ℕ} → Connected R a b ↔ Connected S a b
alike_tells f = (connected_along f.there, connected_along f.back)

-- one step more
module _ (R : ℕ → ℕ → Type 0) (a b : ℕ) where
  pub with_more : {c d : ℕ} → Connected R c d → Connected (Plus R a b) c d
  with_more w = connected_along (λ c d r. step (inl r)) w

  pub plus_step : {c d : ℕ} → c ≡ a → d ≡ b → Connected (Plus R a b) c d
  plus_step e g = step (inr (e, g))

pub alike_plus : (R S : ℕ → ℕ → Type 0) (a b : ℕ) → Alike R S → Alike (Plus R a b) (Plus S a b)
alike_plus R S a b f =
    record {
      there = λ c d. elim [ inl r ↦ with_more S a b (f.there c d r) | inr e ↦ plus_step S a b e.0 e.1 ];
      back = λ c d. elim [ inl s ↦ with_more R a b (f.back c d s) | inr e ↦ plus_step R a b e.0 e.1 ];
    }

pub plus_turned : (R : ℕ → ℕ → Type 0) (a b : ℕ) → Alike (Plus R a b) (Plus R b a)
plus_turned R a b =
    record {
      there = λ c d. elim [ inl r ↦ step (inl r) | inr e ↦ back (plus_step R b a e.1 e.0) ];
      back = λ c d. elim [ inl r ↦ step (inl r) | inr e ↦ back (plus_step R a b e.1 e.0) ];
    }

pub plus_swapped : (R : ℕ → ℕ → Type 0) (a b c d : ℕ) → Alike (Plus (Plus R a b) c d) (Plus (Plus R c d) a b)
plus_swapped R a b c d = record { there = swap a b c d; back = swap c d a b }
  where
    swap : (a b c d v w : ℕ) → Plus (Plus R a b) c d v w → Connected (Plus (Plus R c d) a b) v w
    swap a b c d v w (inl (inl r)) = step (inl (inl r))
    swap a b c d v w (inl (inr e)) = step (inr e)
    swap a b c d v w (inr e) = step (inl (inr e))

-- a step that leads nowhere
pub plus_none : (R : ℕ → ℕ → Type 0) (a b : ℕ) → a ≡ b → Alike R (Plus R a b)
plus_none R a b same =
    record {
      there = λ v w r. step (inl r);
      back = λ v w. elim [ inl r ↦ step r | inr e ↦ subst₂ (Connected R) (sym e.0) (sym e.1) (connected_same R same) ];
    }

-- three steps to m, which one of their ends is connected to, or two steps from a
module _ (R : ℕ → ℕ → Type 0) (a b c m : ℕ) (near : Connected R a m ⊎ (Connected R b m ⊎ Connected R c m)) where
  abbrev Star : ℕ → ℕ → Type 0
  Star = Plus (Plus (Plus R a m) b m) c m

  abbrev Spokes : ℕ → ℕ → Type 0
  Spokes = Plus (Plus R a b) a c

  to_b : Connected Spokes a b
  to_b = step (inl (inr (refl, refl)))

  to_c : Connected Spokes a c
  to_c = step (inr (refl, refl))

  more : {x y : ℕ} → Connected R x y → Connected Spokes x y
  more = connected_along (λ x y r. step (inl (inl r)))

  to_m : Connected Spokes a m
  to_m = elim near [ inl w ↦ more w | inr o ↦ elim o [ inl w ↦ onward to_b (more w) | inr w ↦ onward to_c (more w) ] ]

  moved : {x y v w : ℕ} → (v ≡ x) × (w ≡ y) → Connected Spokes x y → Connected Spokes v w
  moved e = subst₂ (Connected Spokes) (sym e.0) (sym e.1)

  from_a : Connected Star a m
  from_a = step (inl (inl (inr (refl, refl))))

  pub star_alike : Alike Star Spokes
  star_alike =
      record {
        there = λ v w. elim [
          | inl s ↦ elim s [
            | inl s ↦ elim s [ inl r ↦ step (inl (inl r)) | inr e ↦ moved e to_m ]
            | inr e ↦ moved e (onward (back to_b) to_m)
          ]
          | inr e ↦ moved e (onward (back to_c) to_m)
        ];
        back = λ v w. elim [
          | inl s ↦ elim s [
            | inl r ↦ step (inl (inl (inl r)))
            | inr e ↦ subst₂ (Connected Star) (sym e.0) (sym e.1) (onward from_a (back (step (inl (inr (refl, refl))))))
          ]
          | inr e ↦ subst₂ (Connected Star) (sym e.0) (sym e.1) (onward from_a (back (step (inr (refl, refl)))))
        ];
      }

-- Three steps to m, from a, b and c, are made one after the other, as long as x, y and z are left to be connected to m.
pub three_steps :
    (P Q R S : ℕ → ℕ → Type 0) (a b c m x y z : ℕ) →
    Alike (Plus Q x m) (Plus P a m) → Alike (Plus R y m) (Plus Q b m) → Alike (Plus S z m) (Plus R c m) →
    Alike (Plus (Plus (Plus S z m) y m) x m) (Plus (Plus (Plus P a m) b m) c m)
three_steps P Q R S a b c m x y z one two three =
    alike_trans (alike_plus _ _ x m (alike_plus _ _ y m three))
    (alike_trans (alike_plus _ _ x m (plus_swapped R c m y m))
    (alike_trans (alike_plus _ _ x m (alike_plus _ _ c m two))
    (alike_trans (plus_swapped (Plus Q b m) c m x m)
    (alike_trans (alike_plus _ _ c m (plus_swapped Q b m x m)) (alike_plus _ _ c m (alike_plus _ _ b m one))))))
