-- When a piece is settled: its triangles' determinants and its faces' inside shares together make up its inside part. It does not matter
-- in which even order its points are named. Assumes nothing.
use Rattle.std.proofs.Common.{◌≡◌, ℕ, ◌+◌, ◌*◌, Bool, true, false, List, [], ◌∷◌, sym, refl, ap, ◌∙◌, ap₂, arith}
use mathlib.Core.Path.{transport}
use Rattle.std.specs.List.{AllByRecursion}
use Rattle.theory.specs.Grid.{Point}
use Rattle.theory.specs.Triangle.{edge, sum_of}
use Rattle.theory.specs.Skin.{Corner}
use Rattle.theory.specs.Faces.{Face, face, faces, turn}
use Rattle.theory_volume.specs.Volume.{diagonals}
use Rattle.theory_volume.specs.Inside.{rest, whole}
use Rattle.theory_volume.proofs.Form.{cyclic}

-- What the determinants at hand have of one face: `more` less `less` times the face's own, which is `fore` less `back`. The inside share of
-- the face is written twice, as seen from either side.
pub data Facet : Type 0 where
  facet : (share share' more less fore back : ℕ) → Facet

abbrev pub had : Facet → ℕ
had (facet e e' a b x y) = a * x + b * y

abbrev pub owed : Facet → ℕ
owed (facet e e' a b x y) = a * y + b * x

abbrev pub fore_share : Facet → ℕ
fore_share (facet e e' a b x y) = e * x

abbrev pub back_share : Facet → ℕ
back_share (facet e e' a b x y) = e' * y

abbrev pub fore : Facet → ℕ
fore (facet e e' a b x y) = x

abbrev pub back : Facet → ℕ
back (facet e e' a b x y) = y

-- with its inside share the face is had v times
abbrev pub Level : ℕ → Facet → Type 0
Level v (facet e e' a b x y) = (a + e ≡ v + b) × (a + e' ≡ v + b)

pub levelled :
    (v : ℕ) (fs : List Facet) (u w : ℕ) → AllByRecursion (Level v) fs → u + sum_of owed fs ≡ w + sum_of had fs →
    u + sum_of fore_share fs + v * sum_of back fs ≡ w + sum_of back_share fs + v * sum_of fore fs
levelled v [] u w l h = omega arith
levelled v (facet e e' a b x y ∷ fs) u w l h =
    step u w a b x y e e' _ _ _ _ (levelled v fs (u + (a * y + b * x)) (w + (a * x + b * y)) l.1 (omega arith)) l.0.0 l.0.1
  where
    step : (u w a b x y e e' r r' s s' : ℕ) →
        (u + (a * y + b * x)) + r + v * s' ≡ (w + (a * x + b * y)) + r' + v * s → a + e ≡ v + b → a + e' ≡ v + b →
        u + (e * x + r) + v * (y + s') ≡ w + (e' * y + r') + v * (x + s)
    step u w a b x y e e' r r' s s' h p q = let p' = ap (λ t. t * x) p in let q' = ap (λ t. t * y) q in omega arith

-- a point and whether it is inside
pub data Marked : Type 0 where
  mark : Bool → Point → Marked

-- the share of a face that is inside, where the whole face has 256³: a triangle at its one inside point, or all but one at its outside point
abbrev pub two_of : ℕ → ℕ → ℕ
two_of j k = 256 * (j * k + (j * rest k + rest j * k))

abbrev pub share : (Corner → ℕ) → Bool → Bool → Bool → Point → Point → Point → ℕ
share k false false false p q r = 0
share k true false false p q r = 256 * (k (edge p q) * k (edge p r))
share k false true false p q r = 256 * (k (edge q r) * k (edge q p))
share k false false true p q r = 256 * (k (edge r p) * k (edge r q))
share k true true false p q r = two_of (k (edge p r)) (k (edge q r))
share k true false true p q r = two_of (k (edge r q)) (k (edge p q))
share k false true true p q r = two_of (k (edge q p)) (k (edge r p))
share k true true true p q r = whole

abbrev pub plain : Face Marked → ℕ
plain (face (mark i p) (mark j q) (mark l r)) = diagonals p q r

abbrev pub weighted : (Corner → ℕ) → Face Marked → ℕ
weighted k (face (mark i p) (mark j q) (mark l r)) = share k i j l p q r * diagonals p q r

-- u and w are the two parts of the triangles' determinants, and v is the inside part of a piece of four points
pub record Settled (k : Corner → ℕ) (v u w : ℕ) (a b c d : Marked) : Type 0 where
  pub sums :
      u + sum_of (weighted k) (faces a b c d) + v * sum_of (λ t. plain (turn t)) (faces a b c d)
      ≡ w + sum_of (λ t. weighted k (turn t)) (faces a b c d) + v * sum_of plain (faces a b c d)

-- a number of a face that does not ask which of its points comes first
abbrev Round : (Face Marked → ℕ) → Type 0
Round g = (a b c : Marked) → g (face a b c) ≡ g (face b c a)

module _ (g : Face Marked → ℕ) where
  backward : Round g → Round (λ t. g (turn t))
  backward round a b c = round a c b ∙ round c b a

  sum_turned : Round g → (a b c d : Marked) → sum_of g (faces a b c d) ≡ sum_of g (faces a c d b)
  sum_turned round a b c d = omega (arith, round b c d)

  sum_swapped : Round g → (a b c d : Marked) → sum_of g (faces a b c d) ≡ sum_of g (faces b a d c)
  sum_swapped round a b c d = omega (arith, round b a c, round a b d)

  sum_mirrored : (a b c d : Marked) → sum_of (λ t. g (turn t)) (faces a b c d) ≡ sum_of g (faces a b d c)
  sum_mirrored a b c d = omega arith

plain_round : Round plain
plain_round (mark i p) (mark j q) (mark l r) = cyclic p q r

share_round : (k : Corner → ℕ) (i j l : Bool) (p q r : Point) → share k i j l p q r ≡ share k j l i q r p
share_round k false false false p q r = refl
share_round k true false false p q r = refl
share_round k false true false p q r = refl
share_round k false false true p q r = refl
share_round k true true false p q r = refl
share_round k true false true p q r = refl
share_round k false true true p q r = refl
share_round k true true true p q r = refl

weighted_round : (k : Corner → ℕ) → Round (weighted k)
weighted_round k (mark i p) (mark j q) (mark l r) = ap₂ ◌*◌ (share_round k i j l p q r) (cyclic p q r)

abbrev plain_back : Face Marked → ℕ
plain_back t = plain (turn t)

abbrev weighted_back : (Corner → ℕ) → Face Marked → ℕ
weighted_back k t = weighted k (turn t)

changed :
    (v u w : ℕ) {r r' s s' t t' z z' : ℕ} → r ≡ r' → s ≡ s' → t ≡ t' → z ≡ z' →
    u + r + v * s ≡ w + t + v * z → u + r' + v * s' ≡ w + t' + v * z'
changed v u w e g h i = transport (λ j. u + e j + v * g j ≡ w + h j + v * i j)

module _ {k : Corner → ℕ} {v u w : ℕ} {a b c d : Marked} where
  pub turned : Settled k v u w a b c d → Settled k v u w a c d b
  turned h = record {
    sums =
        changed v u w (sum_turned (weighted k) (weighted_round k) a b c d) (sum_turned plain_back (backward plain plain_round) a b c d)
        (sum_turned (weighted_back k) (backward (weighted k) (weighted_round k)) a b c d) (sum_turned plain plain_round a b c d) h.sums;
  }

  pub swapped : Settled k v u w a b c d → Settled k v u w b a d c
  swapped h = record {
    sums =
        changed v u w (sum_swapped (weighted k) (weighted_round k) a b c d) (sum_swapped plain_back (backward plain plain_round) a b c d)
        (sum_swapped (weighted_back k) (backward (weighted k) (weighted_round k)) a b c d) (sum_swapped plain plain_round a b c d) h.sums;
  }

  pub mirrored : Settled k v u w a b c d → Settled k v w u a b d c
  mirrored h = record {
    sums =
        changed v w u (sum_mirrored (weighted k) a b c d) (sym (sum_mirrored plain a b d c))
        (sym (sum_mirrored (weighted k) a b d c)) (sum_mirrored plain a b c d) (sym h.sums);
  }
