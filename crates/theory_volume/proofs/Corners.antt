-- What holds of each edge that the skin crosses holds of the corners in every piece. Assumes nothing.
use Rattle.std.proofs.Common.{◌≡◌, ℕ, suc, ◌≤◌, Bool, true, false, List, [], ◌∷◌, arith}
use Rattle.std.proofs.ByRecursion.{All-weaker}
use Rattle.std.specs.List.{AllByRecursion}
use Rattle.theory.specs.Grid.{Point, pt, pieces}
use Rattle.theory.specs.Triangle.{edge, corners}
use Rattle.theory.specs.Skin.{Corner, Triangle, in_piece, cube, below, skin}
use Rattle.theory.specs.Closed.{Neighbours}
use Rattle.theory.specs.Places.{AmidStep, InRange}
use Rattle.theory.proofs.Sums.{every_split, every_parts}
use Rattle.theory.proofs.Crossings.{Crossing, skin_crosses}

every_last : {A : Type 0} (P : A → Type 0) (n : ℕ) (g : ℕ → List A) → AllByRecursion P (below (suc n) g) → AllByRecursion P (g n)
every_last P n g a = (every_split P (below n g) (g n) a).1

last_cube : (P : Triangle → Type 0) (f : Point → Bool) (u v w : ℕ) → AllByRecursion P (skin f (suc u) (suc v) (suc w)) → AllByRecursion P (cube f (pt u v w))
unfolding skin
last_cube P f u v w a =
    every_last P u (λ i. cube f (pt i v w))
    (every_last P v (λ j. below (suc u) (λ i. cube f (pt i j w)))
    (every_last P w (λ k. below (suc v) (λ j. below (suc u) (λ i. cube f (pt i j k)))) a))

-- what holds of each edge that the skin crosses holds of the corners in every piece: each cube is the last of some skin
piece_corners :
    (R : Corner → Type 0) (f : Point → Bool) → ((c : Corner) → Crossing f c → R c) →
    (l : Point) → AllByRecursion (λ w. AllByRecursion (λ t. AllByRecursion R (corners t)) (in_piece f l w)) pieces
unfolding cube
piece_corners R f r (pt u v w) =
    All-weaker _ _ (λ o. All-weaker _ _ (λ t. All-weaker _ _ r (corners t)) (in_piece f (pt u v w) o)) pieces
    (every_parts (λ t. AllByRecursion (Crossing f) (corners t)) (in_piece f (pt u v w)) pieces
    (last_cube (λ t. AllByRecursion (Crossing f) (corners t)) f u v w (skin_crosses f (suc u) (suc v) (suc w))))

module _ (k : Corner → ℕ) where
  -- the corner lies on its edge …
  abbrev pub Fits : Corner → Type 0
  Fits c = k c ≤ 256

  -- … and at neither end of it
  abbrev pub Amid : Corner → Type 0
  Amid c = AmidStep (k c)

  -- k is strictly between the ends of each edge of the grid from a point inside to a point outside: all that the enclosed volume asks for
  abbrev pub WithinSteps : (Point → Bool) → Type 0
  WithinSteps f = (p q : Point) → Neighbours p q → f p ≡ true → f q ≡ false → Amid (edge p q)

  pub in_range_within : (f : Point → Bool) → InRange f k → WithinSteps f
  in_range_within f range p q n i o = let r = range p q n i o in omega arith

  amid_of : (f : Point → Bool) → WithinSteps f → (c : Corner) → Crossing f c → Amid c
  amid_of f within (edge p q) x = within p q x.0 x.1 x.2

  pub pieces_amid : (f : Point → Bool) → WithinSteps f → (l : Point) → AllByRecursion (λ w. AllByRecursion (λ t. AllByRecursion Amid (corners t)) (in_piece f l w)) pieces
  pieces_amid f within = piece_corners Amid f (amid_of f within)

  pub pieces_fit : (f : Point → Bool) → WithinSteps f → (l : Point) → AllByRecursion (λ w. AllByRecursion (λ t. AllByRecursion Fits (corners t)) (in_piece f l w)) pieces
  pieces_fit f within = piece_corners Fits f (λ c x. let a = amid_of f within c x in omega arith)

-- what follows of each element from two facts
pub every_from_two :
    {A : Type 0} (P Q R : A → Type 0) → ((x : A) → P x → Q x → R x) → (xs : List A) → AllByRecursion P xs → AllByRecursion Q xs → AllByRecursion R xs
every_from_two P Q R h [] a b = tt
every_from_two P Q R h (x ∷ xs) a b = (h x a.0 b.0, every_from_two P Q R h xs a.1 b.1)
