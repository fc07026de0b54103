-- A piece with one, two or three points inside is settled. Its points are a, b, c, d, those inside first, and its faces, as seen from outside,
-- b c d, a d c, a b d and a c b. A corner's place is a mix of the places of its edge's ends, so the determinant of three corners is a sum of
-- the faces' determinants, each times a product of three numbers; with the shares of the faces each of them comes to the inside part.
-- In the equations between numbers, j, k, l (and h, i) say how far the corners lie along their edges and m, n, o (and p) what is left of the
-- edges; α, β, γ, δ are the falling diagonals of the four faces, and α', β', γ', δ' those of the faces turned. Assumes nothing.
use Rattle.std.proofs.Common.{◌≡◌, ℕ, ◌+◌, ◌-◌, ◌*◌, true, false, List, [], ◌∷◌, sym, refl, ap, ◌∙◌, mul_comm, add_comm, arith}
use mathlib.Core.Path.{transport}
use Rattle.theory.specs.Grid.{Point, pt}
use Rattle.theory.specs.Triangle.{edge, tri, sum_of}
use Rattle.theory.specs.Skin.{Corner, Triangle}
use Rattle.theory.specs.Places.{between, place, place_at}
use Rattle.theory_volume.specs.Volume.{diagonals}
use Rattle.theory_volume.specs.Inside.{rest, whole, one_inside, two_inside, three_inside}
use Rattle.theory_volume.proofs.Form.{mix, cyclic, four_of, path, cap}
use Rattle.theory_volume.proofs.Corners.{Fits}
use Rattle.theory_volume.proofs.Signs.{falling, rising}
use Rattle.theory_volume.proofs.Balance.{facet, levelled, mark, two_of, Settled}

abbrev s : Point → Point → Point → ℕ
s = diagonals

between_mixed : (n k u v : ℕ) → n + k ≡ 256 → n * u + k * v ≡ between k u v
between_mixed n k u v e = let h = ap (λ t. t * u) e in omega arith

place_mixed : (n k : ℕ) → n + k ≡ 256 → (p q : Point) → mix n k p q ≡ place_at k p q
place_mixed n k e (pt x y z) (pt u v w) = λ i. pt (between_mixed n k x u e i) (between_mixed n k y v e i) (between_mixed n k z w e i)

mix_swapped : (n k : ℕ) (p q : Point) → mix n k p q ≡ mix k n q p
mix_swapped n k (pt x y z) (pt u v w) = λ i. pt (add_comm (n * x) (k * u) i) (add_comm (n * y) (k * v) i) (add_comm (n * z) (k * w) i)

-- numbers alike by their shares
alike : (a b c d : ℕ) {x x' y y' z z' t t' : ℕ} → x ≡ x' → y ≡ y' → z ≡ z' → t ≡ t' →
    four_of a b c d x y z t ≡ four_of a b c d x' y' z' t'
alike a b c d e g h j = λ i. four_of a b c d (e i) (g i) (h i) (j i)

-- the same equation about other places and numbers
at_places : {x x' y y' z z' : Point} {p p' q q' : ℕ} → x ≡ x' → y ≡ y' → z ≡ z' → p ≡ p' → q ≡ q' →
    s x y z + p ≡ s x z y + q → s x' y' z' + p' ≡ s x' z' y' + q'
at_places e g h j l = transport (λ i. s (e i) (g i) (h i) + j i ≡ s (e i) (h i) (g i) + l i)

module _ (k : Corner → ℕ) where
  rests : (c : Corner) → Fits k c → rest (k c) + k c ≡ 256
  rests c f = omega arith

  placed : (p q : Point) → Fits k (edge p q) → mix (rest (k (edge p q))) (k (edge p q)) p q ≡ place k (edge p q)
  placed p q f = place_mixed _ _ (rests (edge p q) f) p q

  placed_back : (p q : Point) → Fits k (edge p q) → mix (k (edge p q)) (rest (k (edge p q))) q p ≡ place k (edge p q)
  placed_back p q f = mix_swapped (k (edge p q)) (rest (k (edge p q))) q p ∙ placed p q f

times : (j m x : ℕ) → m + j ≡ 256 → 256 * x ≡ j * x + m * x
times j m x e = let h = ap (λ t. t * x) e in omega arith

-- one point inside: what the triangle has of the four faces, and what the faces' shares add to it
one_had : (u w a b c d α α' β β' γ γ' δ δ' : ℕ) → u + four_of a b c d γ δ α' β ≡ w + four_of a b c d γ' δ' α β' →
    (u + 0) + ((c * α' + 0 * α) + ((0 * β' + d * β) + ((0 * γ' + a * γ) + ((0 * δ' + b * δ) + 0))))
    ≡ (w + 0) + ((c * α + 0 * α') + ((0 * β + d * β') + ((0 * γ + a * γ') + ((0 * δ + b * δ') + 0))))
one_had u w a b c d α α' β β' γ γ' δ δ' e = omega arith

one_level : (j k l m n o : ℕ) → m + j ≡ 256 → n + k ≡ 256 → o + l ≡ 256 →
    ((0 + 256 * (l * k) ≡ j * (k * l) + m * (k * l)) × (0 + 256 * (k * l) ≡ j * (k * l) + m * (k * l)))
    × ((0 + 256 * (j * l) ≡ j * (k * l) + j * (n * l)) × (0 + 256 * (l * j) ≡ j * (k * l) + j * (n * l)))
    × ((0 + 256 * (k * j) ≡ j * (k * l) + j * (k * o)) × (0 + 256 * (j * k) ≡ j * (k * l) + j * (k * o)))
one_level j k l m n o ej ek el = omega (arith, times j m (k * l) ej, times k n (j * l) ek, times l o (j * k) el)

pub settled_one :
    (k : Corner → ℕ) (a b c d : Point) → Fits k (edge a b) → Fits k (edge a c) → Fits k (edge a d) →
    Settled k (one_inside (k (edge a b)) (k (edge a c)) (k (edge a d)))
    (sum_of (falling (place k)) (tri (edge a b) (edge a c) (edge a d) ∷ [])) (sum_of (rising (place k)) (tri (edge a b) (edge a c) (edge a d) ∷ []))
    (mark true a) (mark false b) (mark false c) (mark false d)
settled_one κ a b c d fb fc fd =
    let j = κ (edge a b) in let k = κ (edge a c) in let l = κ (edge a d) in
    let m = rest j in let n = rest k in let o = rest l in
    let levels = one_level j k l m n o (rests κ (edge a b) fb) (rests κ (edge a c) fc) (rests κ (edge a d) fd) in
    record {
      sums = levelled (j * (k * l))
          (facet 0 0 (j * (k * l)) 0 (s b c d) (s b d c)
          ∷ facet (256 * (l * k)) (256 * (k * l)) 0 (m * (k * l)) (s a d c) (s a c d)
          ∷ facet (256 * (j * l)) (256 * (l * j)) 0 (j * (n * l)) (s a b d) (s a d b)
          ∷ facet (256 * (k * j)) (256 * (j * k)) 0 (j * (k * o)) (s a c b) (s a b c) ∷ []) _ _
          ((refl, refl), (levels.0, (levels.1, (levels.2, tt))))
          (one_had _ _ (j * (n * l)) (j * (k * o)) (j * (k * l)) (m * (k * l))
          (s b c d) (s b d c) (s a d c) (s a c d) (s a b d) (s a d b) (s a c b) (s a b c)
          (at_places (placed κ a b fb) (placed κ a c fc) (placed κ a d fd)
          (alike _ _ _ _ (sym (cyclic a b d)) (cyclic b a c) refl refl) (alike _ _ _ _ (cyclic b a d) (sym (cyclic a b c)) refl refl)
          (cap m j n k o l a b c d)));
    }

-- three points inside: the triangle is that of the fourth point, d, as seen from the other side
three_had : (u w a b c e α α' β β' γ γ' δ δ' : ℕ) → u + four_of a b c e β' γ' δ α' ≡ w + four_of a b c e β γ δ' α →
    (u + 0) + ((e * α' + 0 * α) + ((a * β' + 0 * β) + ((b * γ' + 0 * γ) + ((0 * δ' + c * δ) + 0))))
    ≡ (w + 0) + ((e * α + 0 * α') + ((a * β + 0 * β') + ((b * γ + 0 * γ') + ((0 * δ + c * δ') + 0))))
three_had u w a b c e α α' β β' γ γ' δ δ' h = omega arith

three_level : (j k l m n o : ℕ) → m + j ≡ 256 → n + k ≡ 256 → o + l ≡ 256 →
    j * (n * o) + 256 * (k * l + (k * o + n * l)) + m * (n * o) ≡ whole
three_level j k l m n o ej ek el = omega (arith, times j m (n * o) ej, times k n l ek, times k n o ek, ap (λ t. 256 * t) el)

three_levels : (j k l m n o : ℕ) → m + j ≡ 256 → n + k ≡ 256 → o + l ≡ 256 →
    (j * (n * o) + 256 * (k * l + (k * o + n * l)) ≡ whole - m * (n * o) + 0)
    × (m * (k * o) + 256 * (j * l + (j * o + m * l)) ≡ whole - m * (n * o) + 0)
    × (m * (n * l) + 256 * (j * k + (j * n + m * k)) ≡ whole - m * (n * o) + 0)
    × (0 + whole ≡ whole - m * (n * o) + m * (n * o))
three_levels j k l m n o ej ek el =
    let a = three_level j k l m n o ej ek el in
    (omega arith, omega (arith, three_level k j l n m o ek ej el), omega (arith, three_level l j k o m n el ej ek), omega arith)

either_order : (j k : ℕ) → two_of j k ≡ two_of k j
either_order j k = omega arith

pub settled_three :
    (k : Corner → ℕ) (a b c d : Point) → Fits k (edge a d) → Fits k (edge b d) → Fits k (edge c d) →
    Settled k (three_inside (k (edge a d)) (k (edge b d)) (k (edge c d)))
    (sum_of (falling (place k)) (tri (edge a d) (edge b d) (edge c d) ∷ [])) (sum_of (rising (place k)) (tri (edge a d) (edge b d) (edge c d) ∷ []))
    (mark true a) (mark true b) (mark true c) (mark false d)
settled_three κ a b c d fa fb fc =
    let j = κ (edge a d) in let k = κ (edge b d) in let l = κ (edge c d) in
    let m = rest j in let n = rest k in let o = rest l in
    let levels = three_levels j k l m n o (rests κ (edge a d) fa) (rests κ (edge b d) fb) (rests κ (edge c d) fc) in
    let α = levels.0 in let β = levels.1 in let γ = levels.2 in let δ = levels.3 in
    record {
      sums = levelled (whole - m * (n * o))
          (facet (two_of k l) (two_of l k) (j * (n * o)) 0 (s b c d) (s b d c)
          ∷ facet (two_of l j) (two_of j l) (m * (k * o)) 0 (s a d c) (s a c d)
          ∷ facet (two_of j k) (two_of k j) (m * (n * l)) 0 (s a b d) (s a d b)
          ∷ facet whole whole 0 (m * (n * o)) (s a c b) (s a b c) ∷ []) _ _ (
            (α, ap (λ t. j * (n * o) + t) (either_order l k) ∙ α),
            (
              (ap (λ t. m * (k * o) + t) (either_order l j) ∙ β, β),
              ((γ, ap (λ t. m * (n * l) + t) (either_order k j) ∙ γ), ((δ, δ), tt)),
            ),
          )
          (three_had _ _ (m * (k * o)) (m * (n * l)) (m * (n * o)) (j * (n * o))
          (s b c d) (s b d c) (s a d c) (s a c d) (s a b d) (s a d b) (s a c b) (s a b c)
          (at_places (placed_back κ a d fa) (placed_back κ b d fb) (placed_back κ c d fc)
          (alike _ _ _ _ refl refl refl (cyclic d c b ∙ cyclic c b d)) (alike _ _ _ _ refl refl refl (cyclic d b c))
          (cap j m k n l o d a b c)));
    }

-- a and b inside, c and d outside: the corners of each of the two triangles lie along a way, c a d b and a c b d
two_had : (u u' w w' a b c d a' b' c' d' α α' β β' γ γ' δ δ' : ℕ) →
    u + four_of a b c d β' δ α' γ ≡ w + four_of a b c d β δ' α γ' →
    w' + four_of a' b' c' d' δ' β γ' α ≡ u' + four_of a' b' c' d' δ β' γ α' →
    (u + (u' + 0)) + (((c + d') * α' + 0 * α) + (((a + b') * β' + 0 * β) + ((0 * γ' + (d + c') * γ) + ((0 * δ' + (b + a') * δ) + 0))))
    ≡ (w + (w' + 0)) + (((c + d') * α + 0 * α') + (((a + b') * β + 0 * β') + ((0 * γ + (d + c') * γ') + ((0 * δ + (b + a') * δ') + 0))))
two_had u u' w w' a b c d a' b' c' d' α α' β β' γ γ' δ δ' h g = omega arith

module _ (h i j k m n o p : ℕ) (eh : m + h ≡ 256) (ei : n + i ≡ 256) (ej : o + j ≡ 256) (ek : p + k ≡ 256) where
  abbrev part : ℕ
  part = h * (i * p) + (h * (k * o) + 256 * (j * k))

  two_level_α : h * (i * p) + h * (o * k) + 256 * (j * k) ≡ part + 0
  two_level_α = omega arith

  two_level_β : h * (n * k) + m * (j * k) + 256 * (i * h) ≡ part + 0
  two_level_β = omega (arith, times k p (h * i) ek, times h m (j * k) eh, times i n (h * k) ei, times j o (h * k) ej)

  two_level_γ : 0 + 256 * (i * k + (i * p + n * k)) ≡ part + (m * (i * p) + m * (o * k))
  two_level_γ = omega (arith, times h m (i * p) eh, times h m (k * o) eh, times j o k ej, times i n k ei)

  two_level_δ : 0 + 256 * (j * h + (j * m + o * h)) ≡ part + (h * (n * p) + m * (j * p))
  two_level_δ =
      omega (arith, times i n (h * p) ei, times h m (j * k) eh, times j o (h * k) ej, times k p (m * j) ek, times k p h ek, times j o h ej)

abbrev two_triangles : (a b c d : Point) → List Triangle
two_triangles a b c d = tri (edge a c) (edge a d) (edge b d) ∷ tri (edge a c) (edge b d) (edge b c) ∷ []

pub settled_two :
    (k : Corner → ℕ) (a b c d : Point) → Fits k (edge a c) → Fits k (edge a d) → Fits k (edge b c) → Fits k (edge b d) →
    Settled k (two_inside (k (edge a c)) (k (edge a d)) (k (edge b c)) (k (edge b d)))
    (sum_of (falling (place k)) (two_triangles a b c d)) (sum_of (rising (place k)) (two_triangles a b c d))
    (mark true a) (mark true b) (mark false c) (mark false d)
settled_two κ a b c d fh fi fj fk =
    let h = κ (edge a c) in let i = κ (edge a d) in let j = κ (edge b c) in let k = κ (edge b d) in
    let m = rest h in let n = rest i in let o = rest j in let p = rest k in
    let eh = rests κ (edge a c) fh in let ei = rests κ (edge a d) fi in let ej = rests κ (edge b c) fj in let ek = rests κ (edge b d) fk in
    let α = two_level_α h i j k m n o p eh ei ej ek in let β = two_level_β h i j k m n o p eh ei ej ek in
    let γ = two_level_γ h i j k m n o p eh ei ej ek in let δ = two_level_δ h i j k m n o p eh ei ej ek in
    record {
      sums = levelled (two_inside h i j k)
          (facet (256 * (j * k)) (256 * (k * j)) (h * (i * p) + h * (o * k)) 0 (s b c d) (s b d c)
          ∷ facet (256 * (i * h)) (256 * (h * i)) (h * (n * k) + m * (j * k)) 0 (s a d c) (s a c d)
          ∷ facet (two_of i k) (two_of k i) 0 (m * (i * p) + m * (o * k)) (s a b d) (s a d b)
          ∷ facet (two_of j h) (two_of h j) 0 (h * (n * p) + m * (j * p)) (s a c b) (s a b c) ∷ []) _ _ (
            (α, ap (λ t. h * (i * p) + h * (o * k) + 256 * t) (mul_comm k j) ∙ α),
            (
              (β, ap (λ t. h * (n * k) + m * (j * k) + 256 * t) (mul_comm h i) ∙ β),
              ((γ, ap (λ t. 0 + t) (either_order k i) ∙ γ), ((δ, ap (λ t. 0 + t) (either_order h j) ∙ δ), tt)),
            ),
          )
          (two_had _ _ _ _ (h * (n * k)) (h * (n * p)) (h * (i * p)) (m * (i * p)) (m * (j * p)) (m * (j * k)) (m * (o * k)) (h * (o * k))
          (s b c d) (s b d c) (s a d c) (s a c d) (s a b d) (s a d b) (s a c b) (s a b c)
          (at_places (placed_back κ a c fh) (placed κ a d fi) (placed_back κ b d fk)
          (alike _ _ _ _ (sym (cyclic a c d)) (cyclic c b a ∙ cyclic b a c) (cyclic c b d) refl)
          (alike _ _ _ _ (cyclic c a d) (cyclic c a b) (sym (cyclic b c d)) refl)
          (path h m n i k p c a d b))
          (at_places (placed κ a c fh) (placed_back κ b c fj) (placed κ b d fk)
          (alike _ _ _ _ refl refl refl (sym (cyclic b c d))) (alike _ _ _ _ refl refl refl (cyclic c b d))
          (path m h j o p k a c b d)));
    }
