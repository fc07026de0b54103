-- The sum of products along the falling diagonals of three rows: it is cyclic, and linear in each row, so that of mixed rows is a sum of
-- those of the places that are mixed. Assumes nothing.
use Rattle.std.proofs.Common.{◌≡◌, ℕ, ◌+◌, ◌*◌, sym, ap, ◌∙◌, ap₂, add_comm, arith}
use Rattle.theory.specs.Grid.{pt}
use Rattle.theory.specs.Places.{Place}
use Rattle.theory_volume.specs.Volume.{diagonals}

-- n times one place and k times another, added up
abbrev pub mix : ℕ → ℕ → Place → Place → Place
mix n k (pt x y z) (pt u v w) = pt (n * x + k * u) (n * y + k * v) (n * z + k * w)

pub cyclic : (a b c : Place) → diagonals a b c ≡ diagonals b c a
cyclic (pt a b c) (pt d e g) (pt h i j) = omega arith

pub linear : (n k : ℕ) (p q b c : Place) → diagonals (mix n k p q) b c ≡ n * diagonals p b c + k * diagonals q b c
linear n k (pt x y z) (pt u v w) (pt d e g) (pt h i j) = omega arith

linear_second : (n k : ℕ) (p q b c : Place) → diagonals b (mix n k p q) c ≡ n * diagonals b p c + k * diagonals b q c
linear_second n k p q b c =
    cyclic b (mix n k p q) c ∙ linear n k p q c b ∙ ap₂ (λ u v. n * u + k * v) (sym (cyclic b p c)) (sym (cyclic b q c))

linear_third : (n k : ℕ) (p q b c : Place) → diagonals b c (mix n k p q) ≡ n * diagonals b c p + k * diagonals b c q
linear_third n k p q b c =
    sym (cyclic (mix n k p q) b c) ∙ linear n k p q b c ∙ ap₂ (λ u v. n * u + k * v) (cyclic p b c) (cyclic q b c)

-- two mixed rows beside a third
abbrev half : (n k o l w x y z : ℕ) → ℕ
half n k o l w x y z = n * (o * w + l * x) + k * (o * y + l * z)

-- three mixed rows: each of the eight ways to choose a place from every row, by its share
pub mixed :
    (m j : ℕ) (p p' : Place) (n k : ℕ) (q q' : Place) (o l : ℕ) (r r' : Place) →
    diagonals (mix m j p p') (mix n k q q') (mix o l r r')
    ≡ m * half n k o l (diagonals p q r) (diagonals p q r') (diagonals p q' r) (diagonals p q' r')
    + j * half n k o l (diagonals p' q r) (diagonals p' q r') (diagonals p' q' r) (diagonals p' q' r')
mixed m j p p' n k q q' o l r r' = linear m j p p' _ _ ∙ ap₂ (λ u v. m * u + j * v) (from p) (from p')
  where
    from : (t : Place) →
        diagonals t (mix n k q q') (mix o l r r')
        ≡ half n k o l (diagonals t q r) (diagonals t q r') (diagonals t q' r) (diagonals t q' r')
    from t =
        linear_second n k q q' t _ ∙ ap₂ (λ u v. n * u + k * v) (linear_third o l r r' t q) (linear_third o l r r' t q')

-- four numbers, by their shares
abbrev pub four_of : (a b c d x y z t : ℕ) → ℕ
four_of a b c d x y z t = a * x + (b * y + (c * z + d * t))

scaled_three : (m u w a b c x x' y y' z z' : ℕ) → u + (a * x' + (b * y' + c * z')) ≡ w + (a * x + (b * y + c * z)) →
    m * u + (m * a * x' + (m * b * y' + m * c * z')) ≡ m * w + (m * a * x + (m * b * y + m * c * z))
scaled_three m u w a b c x x' y y' z z' e = let h = ap (λ v. m * v) e in omega arith

scaled_one : (m u w a x x' : ℕ) → u + a * x' ≡ w + a * x → m * u + m * a * x' ≡ m * w + m * a * x
scaled_one m u w a x x' e = let h = ap (λ v. m * v) e in omega arith

-- three of the four come with the one row, the fourth with the other
joint : (m j u u' w w' a b c d x x' y y' z z' t t' p q : ℕ) → p ≡ m * u + j * u' → q ≡ m * w + j * w' →
    u + (a * x' + (b * y' + c * z')) ≡ w + (a * x + (b * y + c * z)) → u' + d * t' ≡ w' + d * t →
    p + four_of (m * a) (m * b) (m * c) (j * d) x' y' z' t' ≡ q + four_of (m * a) (m * b) (m * c) (j * d) x y z t
joint m j u u' w w' a b c d x x' y y' z z' t t' p q ep eq e g =
    ap (λ v. v + four_of (m * a) (m * b) (m * c) (j * d) x' y' z' t') ep
    ∙ both _ _ _ _ _ _ _ _ _ _ _ _ (scaled_three m u w a b c x x' y y' z z' e) (scaled_one j u' w' d t t' g)
    ∙ ap (λ v. v + four_of (m * a) (m * b) (m * c) (j * d) x y z t) (sym eq)
  where
    both : (r s r' s' i j k l i' j' k' l' : ℕ) → r + (i + (j + k)) ≡ s + (i' + (j' + k')) → r' + l ≡ s' + l' →
        (r + r') + (i + (j + (k + l))) ≡ (s + s') + (i' + (j' + (k' + l')))
    both r s r' s' i j k l i' j' k' l' e g = omega arith

module _ (n k o l : ℕ) where
  -- what is the same in both orders of the last two rows falls away
  one_left : (a b c d d' : ℕ) → half n k o l a b c d + k * l * d' ≡ half o l n k a c b d' + k * l * d
  one_left a b c d d' = omega arith

  three_left : (a a' b b' c c' d : ℕ) →
      half n k o l a b d c + (n * o * a' + (n * l * b' + k * l * c')) ≡ half o l n k a' d b' c' + (n * o * a + (n * l * b + k * l * c))
  three_left a a' b b' c c' d = omega arith

  three_left_too : (a b b' c c' d d' : ℕ) →
      half n k o l a b c d + (n * l * b' + (k * o * c' + k * l * d')) ≡ half o l n k a c' b' d' + (n * l * b + (k * o * c + k * l * d))
  three_left_too a b b' c c' d d' = omega arith

module _ (m j n k o l : ℕ) where
  -- places on the edges of a way p, q, r, t: their determinant by those of the four points
  pub path :
      (p q r t : Place) →
      diagonals (mix m j p q) (mix n k q r) (mix o l r t)
      + four_of (m * (n * o)) (m * (n * l)) (m * (k * l)) (j * (k * l)) (diagonals p r q) (diagonals p t q) (diagonals p t r) (diagonals q t r)
      ≡ diagonals (mix m j p q) (mix o l r t) (mix n k q r)
      + four_of (m * (n * o)) (m * (n * l)) (m * (k * l)) (j * (k * l)) (diagonals p q r) (diagonals p q t) (diagonals p r t) (diagonals q r t)
  path p q r t =
      joint m j _ _ _ _ (n * o) (n * l) (k * l) (k * l) _ _ _ _ _ _ _ _ _ _
      (mixed m j p q n k q r o l r t)
      (mixed m j p q o l r t n k q r ∙ ap₂ turned (sym (cyclic q q r)) (sym (cyclic q q t)))
      (three_left n k o l (diagonals p q r) (diagonals p r q) (diagonals p q t) (diagonals p t q) (diagonals p r t) (diagonals p t r)
      (diagonals p r r))
      (one_left n k o l (diagonals q q r) (diagonals q q t) (diagonals q r r) (diagonals q r t) (diagonals q t r))
    where
      turned : ℕ → ℕ → ℕ
      turned x y =
          m * half o l n k (diagonals p r q) (diagonals p r r) (diagonals p t q) (diagonals p t r)
          + j * half o l n k x (diagonals q r r) y (diagonals q t r)

  -- places on the three edges of a point a: their determinant by those of the four points
  pub cap :
      (a b c d : Place) →
      diagonals (mix m j a b) (mix n k a c) (mix o l a d)
      + four_of (j * (n * l)) (j * (k * o)) (j * (k * l)) (m * (k * l)) (diagonals b d a) (diagonals b a c) (diagonals b d c) (diagonals a d c)
      ≡ diagonals (mix m j a b) (mix o l a d) (mix n k a c)
      + four_of (j * (n * l)) (j * (k * o)) (j * (k * l)) (m * (k * l)) (diagonals b a d) (diagonals b c a) (diagonals b c d) (diagonals a c d)
  cap a b c d =
      joint j m _ _ _ _ (n * l) (k * o) (k * l) (k * l) _ _ _ _ _ _ _ _ _ _
      (mixed m j a b n k a c o l a d ∙ ap straight (sym (cyclic a a c)) ∙ add_comm _ _)
      (mixed m j a b o l a d n k a c ∙ ap turned (sym (cyclic a a d)) ∙ add_comm _ _)
      (three_left_too n k o l (diagonals b a a) (diagonals b a d) (diagonals b d a) (diagonals b c a) (diagonals b a c) (diagonals b c d)
      (diagonals b d c))
      (one_left n k o l (diagonals a a a) (diagonals a a d) (diagonals a a c) (diagonals a c d) (diagonals a d c))
    where
      straight : ℕ → ℕ
      straight x =
          m * half n k o l (diagonals a a a) (diagonals a a d) x (diagonals a c d)
          + j * half n k o l (diagonals b a a) (diagonals b a d) (diagonals b c a) (diagonals b c d)

      turned : ℕ → ℕ
      turned x =
          m * half o l n k (diagonals a a a) (diagonals a a c) x (diagonals a d c)
          + j * half o l n k (diagonals b a a) (diagonals b a c) (diagonals b d a) (diagonals b d c)
