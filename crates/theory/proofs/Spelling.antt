-- The skin, the border and the crossings in other words, shown to be the same. Assumes nothing.
use Rattle.std.proofs.Common.{◌≡◌, ℕ, zero, suc, ◌+◌, ◌<◌, ◌≤◌, Bool, true, false, ◌≢◌, ◌⊎◌, ◌++◌, refl, ap, subst, ap₂, inl, inr, append_assoc, append-nil, arith}
use Rattle.std.proofs.lemmas.Bool.{cases_Bool, both_ways}
use Rattle.theory.specs.Grid.{Point, pt, Offset, off, lowest, raised, ◌⊕◌, Border}
use Rattle.theory.specs.Triangle.{edge, one_if, with_corner}
use Rattle.theory.specs.Skin.{same, in_piece, cube, below, skin}
use Rattle.theory.specs.Closed.{Parted}
use Rattle.theory.specs.Spelled.{spelled_cube, row, layer, spelled_skin, SpelledOut}

cube_spelled : (f : Point → Bool) (x y z : ℕ) → cube f (pt x y z) ≡ spelled_cube f x y z
unfolding cube in_piece spelled_cube
cube_spelled f x y z = simp (append_assoc, append-nil)

row_spelled : (f : Point → Bool) (x y z : ℕ) → below x (λ i. cube f (pt i y z)) ≡ row f x y z
unfolding row
row_spelled f zero y z = refl
row_spelled f (suc x) y z = ap₂ ◌++◌ (row_spelled f x y z) (cube_spelled f x y z)

layer_spelled : (f : Point → Bool) (x y z : ℕ) → below y (λ j. below x (λ i. cube f (pt i j z))) ≡ layer f x y z
unfolding layer
layer_spelled f x zero z = refl
layer_spelled f x (suc y) z = ap₂ ◌++◌ (layer_spelled f x y z) (row_spelled f x y z)

pub skin_spelled : (f : Point → Bool) (x y z : ℕ) → skin f x y z ≡ spelled_skin f x y z
unfolding skin spelled_skin
skin_spelled f x y zero = refl
skin_spelled f x y (suc z) = ap₂ ◌++◌ (skin_spelled f x y z) (layer_spelled f x y z)

module _ (f : Point → Bool) (x y z : ℕ) where
  -- one coordinate is 0 or past the last
  abbrev OnBorder : ℕ → ℕ → ℕ → Type 0
  OnBorder u v w = ((u ≡ 0) ⊎ (v ≡ 0)) ⊎ ((w ≡ 0) ⊎ (x ≤ u)) ⊎ ((y ≤ v) ⊎ (z ≤ w))

  pub border_outside : Border f x y z → (u v w : ℕ) → OnBorder u v w → f (pt u v w) ≡ false
  border_outside border u v w on =
      elim (cases_Bool (f (pt u v w))) [ inl t ↦ absurd (let a = border (pt u v w) t in omega arith) | inr q ↦ q ]

  pub outside_border : ((u v w : ℕ) → OnBorder u v w → f (pt u v w) ≡ false) → Border f x y z
  outside_border outside (pt u v w) t =
      let not_on : OnBorder u v w → ⊥ = λ on. both_ways (f (pt u v w)) (outside u v w on) t in
      let a : u ≢ 0 = λ e. not_on (inl (inl e)) in
      let b : v ≢ 0 = λ e. not_on (inl (inr e)) in
      let c : w ≢ 0 = λ e. not_on (inr (inl (inl e))) in
      let d : ¬ (x ≤ u) = λ e. not_on (inr (inl (inr e))) in
      let g : ¬ (y ≤ v) = λ e. not_on (inr (inr (inl e))) in
      let h : ¬ (z ≤ w) = λ e. not_on (inr (inr (inr e))) in
      omega arith

  -- a corner lies between p and q where one of them is inside and the other is not
  abbrev pub Crossing : Point → Point → Type 0
  Crossing p q =
      (f p ≡ true → f q ≡ false → 0 < with_corner same (edge p q) (skin f x y z))
      × (f p ≡ false → f q ≡ true → 0 < with_corner same (edge q p) (skin f x y z))

  pub step_crossing : Parted → Border f x y z → (p : Point) (o : Offset) → o ≢ lowest → Crossing p (p ⊕ o)
  step_crossing parted border p o up = (
    λ s t. (parted f x y z border p (p ⊕ o)).1 ((o, up, inl refl), s, t),
    λ s t. (parted f x y z border (p ⊕ o) p).1 ((o, up, inr refl), t, s),
  )

-- a step of 0 or 1 as a bit
bit : (a : ℕ) → a ≤ 1 → (b : Bool) × (one_if b ≡ a) × ((n : ℕ) → raised b n ≡ n + a)
bit zero l = (false, refl, λ n. omega arith)
bit (suc zero) l = (true, refl, λ n. omega arith)
bit (suc (suc a)) l = absurd (omega arith)

abbrev steps_up : Offset → ℕ
steps_up (off a b c) = one_if a + (one_if b + one_if c)

pub crossings_from_parted :
    Parted → (f : Point → Bool) (x y z u v w a b c : ℕ) → Border f x y z → a ≤ 1 → b ≤ 1 → c ≤ 1 → 0 < a + (b + c) →
    Crossing f x y z (pt u v w) (pt (u + a) (v + b) (w + c))
crossings_from_parted parted f x y z u v w a b c border la lb lc some =
    let (d, d-is, d-up) = bit a la in
    let (e, e-is, e_up) = bit b lb in
    let (g, g-is, g-up) = bit c lc in
    let there : pt u v w ⊕ off d e g ≡ pt (u + a) (v + b) (w + c) = λ i. pt (d-up u i) (e_up v i) (g-up w i) in
    let crossing = step_crossing f x y z parted border (pt u v w) (off d e g) (λ h. omega (arith, ap steps_up h)) in
    subst (Crossing f x y z (pt u v w)) there crossing

pub spelled_out : Parted → SpelledOut
spelled_out parted =
    record {
      skins = skin_spelled;
      borders = λ f x y z. (border_outside f x y z, outside_border f x y z);
      crossings = crossings_from_parted parted;
    }
