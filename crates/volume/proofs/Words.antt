-- Numbers that are small enough are what the signed words of 64 bits hold. Assumes nothing.
use Rattle.std.proofs.Common.{◌≡◌, ℕ, ◌^◌, ◌<◌, ◌≤◌, ℤ, pos, ◌+ℤ◌, ◌-ℤ◌, ◌*ℤ◌, nat_abs, sym, ap, ◌∙◌, subst, ap₂, arith, w64, SFits, to_z, of_z}
use Rattle.std.proofs.lemmas.Int.{ints, to_z-of_z, to_z_pos}
use Rattle.theory_volume.specs.Sizes.{crossed}
use Rattle.theory_volume.proofs.Steps.{sum_size, product_size, crossed_size}

pub fits : (x : ℤ) → nat_abs x ≤ 2 ^ 60 → SFits w64 x
fits x l = omega (arith, ints)

pub kept : (x : ℤ) → nat_abs x ≤ 2 ^ 60 → to_z w64 (of_z w64 x) ≡ x
kept x l = to_z-of_z w64 x (fits x l)

pub kept_as : (x v : ℤ) → x ≡ v → nat_abs v ≤ 2 ^ 34 → to_z w64 (of_z w64 x) ≡ v
kept_as x v e l = ap (λ w. to_z w64 (of_z w64 w)) e ∙ kept v (omega arith)

-- a difference of products of numbers of two bytes
module _ (e g i j : ℕ) (le : e < 2 ^ 16) (lg : g < 2 ^ 16) (li : i < 2 ^ 16) (lj : j < 2 ^ 16) where
  times_kept : (m n : ℕ) → m < 2 ^ 16 → n < 2 ^ 16 → to_z w64 (of_z w64 (to_z w64 m *ℤ to_z w64 n)) ≡ pos m *ℤ pos n
  times_kept m n lm ln =
      let is : to_z w64 m *ℤ to_z w64 n ≡ pos m *ℤ pos n = ap₂ ◌*ℤ◌ (to_z_pos w64 m (omega arith)) (to_z_pos w64 n (omega arith)) in
      let h = product_size m (pos n) (2 ^ 16) (2 ^ 16) (omega arith) (omega arith) in
      ap (λ v. to_z w64 (of_z w64 v)) is ∙ kept (pos m *ℤ pos n) (omega arith)

  pub crossed_kept :
      to_z w64 (of_z w64 (to_z w64 (of_z w64 (to_z w64 e *ℤ to_z w64 j)) -ℤ to_z w64 (of_z w64 (to_z w64 g *ℤ to_z w64 i)))) ≡ crossed e g i j
  crossed_kept =
      let h = crossed_size e g i j (2 ^ 16) (omega arith) (omega arith) (omega arith) (omega arith) in
      ap (λ v. to_z w64 (of_z w64 v)) (ap₂ ◌-ℤ◌ (times_kept e j le lj) (times_kept g i lg li)) ∙ kept (crossed e g i j) (omega arith)

-- a number of two bytes times a signed one, as words hold it
abbrev held : ℕ → ℤ → ℤ
held a x = to_z w64 a *ℤ to_z w64 (of_z w64 x)

module _ (a : ℕ) (x : ℤ) (l : a < 2 ^ 16) (s : nat_abs x ≤ 2 ^ 32) where
  product_small : nat_abs (pos a *ℤ x) ≤ 2 ^ 48
  product_small = product_size a x (2 ^ 16) (2 ^ 32) (omega arith) s

  held_is : held a x ≡ pos a *ℤ x
  held_is = ap₂ ◌*ℤ◌ (to_z_pos w64 a (omega arith)) (kept x (omega arith))

  pub product_fits : SFits w64 (held a x)
  product_fits = subst (SFits w64) (sym held_is) (fits _ (let h = product_small in omega arith))

  product_kept : to_z w64 (of_z w64 (held a x)) ≡ pos a *ℤ x
  product_kept = to_z-of_z w64 (held a x) product_fits ∙ held_is

-- a row times a vector
module _ (a b c : ℕ) (x y z : ℤ) (la : a < 2 ^ 16) (lb : b < 2 ^ 16) (lc : c < 2 ^ 16)
    (lx : nat_abs x ≤ 2 ^ 32) (ly : nat_abs y ≤ 2 ^ 32) (lz : nat_abs z ≤ 2 ^ 32) where
  abbrev held_two : ℤ
  held_two = to_z w64 (of_z w64 (held a x)) +ℤ to_z w64 (of_z w64 (held b y))

  two_is : held_two ≡ (pos a *ℤ x) +ℤ (pos b *ℤ y)
  two_is = ap₂ ◌+ℤ◌ (product_kept a x la lx) (product_kept b y lb ly)

  pub two_fits : SFits w64 held_two
  two_fits =
      let p = sum_size (pos a *ℤ x) (pos b *ℤ y) _ _ (product_small a x la lx) (product_small b y lb ly) in
      subst (SFits w64) (sym two_is) (fits _ (omega arith))

  abbrev held_three : ℤ
  held_three = to_z w64 (of_z w64 held_two) +ℤ to_z w64 (of_z w64 (held c z))

  abbrev product : ℤ
  product = ((pos a *ℤ x) +ℤ (pos b *ℤ y)) +ℤ (pos c *ℤ z)

  product_most : nat_abs product ≤ 2 ^ 50
  product_most =
      let p = sum_size (pos a *ℤ x) (pos b *ℤ y) _ _ (product_small a x la lx) (product_small b y lb ly) in
      let q = sum_size ((pos a *ℤ x) +ℤ (pos b *ℤ y)) (pos c *ℤ z) _ _ p (product_small c z lc lz) in
      omega arith

  three_is : held_three ≡ product
  three_is = ap₂ ◌+ℤ◌ (to_z-of_z w64 held_two two_fits ∙ two_is) (product_kept c z lc lz)

  pub three_fits : SFits w64 held_three
  three_fits = subst (SFits w64) (sym three_is) (fits product (let h = product_most in omega arith))

  pub sum_kept : to_z w64 (of_z w64 held_three) ≡ product
  sum_kept = to_z-of_z w64 held_three three_fits ∙ three_is

  pub sum_small : nat_abs (to_z w64 (of_z w64 held_three)) ≤ 2 ^ 50
  sum_small = subst (λ v. nat_abs v ≤ 2 ^ 50) (sym sum_kept) product_most
