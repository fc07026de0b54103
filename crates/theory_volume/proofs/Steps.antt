-- The steps of working out a determinant, and their sizes. Assumes nothing.
use Rattle.std.proofs.Common.{◌≡◌, ℕ, zero, suc, ◌+◌, ◌*◌, ◌^◌, ◌≤◌, ℤ, pos, negsuc, ◌+ℤ◌, ◌-ℤ◌, ◌*ℤ◌, neg_ℤ, nat_abs, sym, refl, ap, ◌∙◌, subst, mul-le-mul, arith}
use borrow.Author.Differences.{up, down}
use Rattle.std.proofs.lemmas.Int.{ints}
use Rattle.theory.specs.Grid.{pt}
use Rattle.theory_volume.specs.Volume.{diagonals, determinant}
use Rattle.theory_volume.specs.Sizes.{crossed, StepsFit}

pub minus_size : (p q m : ℕ) → p ≤ q + m → q ≤ p + m → nat_abs (pos p -ℤ pos q) ≤ m
minus_size p q m a b = omega (arith, ints)

pub sum_size : (x y : ℤ) (m n : ℕ) → nat_abs x ≤ m → nat_abs y ≤ n → nat_abs (x +ℤ y) ≤ m + n
sum_size x y m n a b = omega (arith, ints)

negative_size : (n : ℕ) → nat_abs (neg_ℤ (pos n)) ≡ n
negative_size zero = refl
negative_size (suc n) = refl

pub product_size : (a : ℕ) (x : ℤ) (m n : ℕ) → a ≤ m → nat_abs x ≤ n → nat_abs (pos a *ℤ x) ≤ m * n
product_size a (pos x) m n l h = mul-le-mul l h
product_size a (negsuc x) m n l h = subst (λ v. v ≤ m * n) (sym (negative_size (a * suc x))) (mul-le-mul l h)

pub crossed_size : (e g i j m : ℕ) → e ≤ m → g ≤ m → i ≤ m → j ≤ m → nat_abs (crossed e g i j) ≤ m * m
crossed_size e g i j m le lg li lj =
    let p = mul-le-mul le lj in let q = mul-le-mul lg li in minus_size (e * j) (g * i) (m * m) (omega arith) (omega arith)

times_minus : (a p q : ℕ) → pos a *ℤ (pos p -ℤ pos q) ≡ pos (a * p) -ℤ pos (a * q)
times_minus a p q =
    let x = pos p -ℤ pos q in
    let e : up x + q ≡ down x + p = omega (arith, ints) in
    let h = ap (λ v. a * v) e in omega (arith, ints)

three_minus : (p p' q q' r r' : ℕ) →
    ((pos p -ℤ pos p') +ℤ (pos q -ℤ pos q')) +ℤ (pos r -ℤ pos r') ≡ pos (p + (q + r)) -ℤ pos (p' + (q' + r'))
three_minus p p' q q' r r' = omega (arith, ints)

pub worked_value : (a b c d e g h i j : ℕ) →
    ((pos a *ℤ crossed e g i j) +ℤ (pos b *ℤ crossed g d j h)) +ℤ (pos c *ℤ crossed d e h i)
    ≡ determinant (pt a b c) (pt d e g) (pt h i j)
unfolding determinant
worked_value a b c d e g h i j =
    let w : a * (g * i) + (b * (d * j) + c * (e * h)) ≡ diagonals (pt a b c) (pt h i j) (pt d e g) = omega arith in
    (λ k. (times_minus a (e * j) (g * i) k +ℤ times_minus b (g * h) (d * j) k) +ℤ times_minus c (d * i) (e * h) k)
    ∙ three_minus (a * (e * j)) (a * (g * i)) (b * (g * h)) (b * (d * j)) (c * (d * i)) (c * (e * h))
    ∙ ap (λ v. pos (diagonals (pt a b c) (pt d e g) (pt h i j)) -ℤ pos v) w

pub steps_fit : StepsFit
steps_fit a b c d e g h i j p q r =
    let x = crossed_size e g i j (2 ^ 16) q.1 q.2 r.1 r.2 in
    let y = crossed_size g d j h (2 ^ 16) q.2 q.0 r.2 r.0 in
    let z = crossed_size d e h i (2 ^ 16) q.0 q.1 r.0 r.1 in
    let px = product_size a (crossed e g i j) (2 ^ 16) (2 ^ 32) p.0 x in
    let py = product_size b (crossed g d j h) (2 ^ 16) (2 ^ 32) p.1 y in
    let pz = product_size c (crossed d e h i) (2 ^ 16) (2 ^ 32) p.2 z in
    let s = sum_size (pos a *ℤ crossed e g i j) (pos b *ℤ crossed g d j h) (2 ^ 48) (2 ^ 48) px py in
    record {
      cross_x = x;
      cross_y = y;
      cross_z = z;
      product_x = px;
      product_y = py;
      product_z = pz;
      sum = s;
      size = subst (λ v. nat_abs v ≤ 2 ^ 50) (worked_value a b c d e g h i j)
          (let xy = (pos a *ℤ crossed e g i j) +ℤ (pos b *ℤ crossed g d j h) in
          let t = sum_size xy (pos c *ℤ crossed d e h i) (2 ^ 49) (2 ^ 48) s pz in omega arith);
      value = worked_value a b c d e g h i j;
    }
