-- A block's bytes: what they say, which of them are refused and where, and who is inside. Assumes nothing.
use Rattle.std.specs.Prelude.{◌≡◌, ℕ, suc, ◌+◌, ◌-◌, ◌*◌, ◌<◌, ◌≤◌, Bool, true, cond, ◌&&◌, ◌||◌, ◌↔◌, List, [], ◌∷◌, length, Some, None, Option, ◌==◌, nat_le, nat_lt, slice_index}
use Rattle.std.specs.Borrow.{Bor}
use Rattle.theory.specs.Grid.{Point, pt, Border}
use Rattle.theory.specs.Skin.{below}
use Rattle.block.specs.declared.Block.{Block}
use Rattle.block.specs.declared.refusal.Refusal.{Refusal}
use Rattle.block.specs.declared.refusal.Refusal.TheVariants.{WrongLength, WrongSize, OpenBorder}

-- the bytes of a block that was read
abbrev pub bytes_in : Bor Block → List ℕ
bytes_in k = k.now.bytes.now

-- the first four bytes: how many points there are along x, y and z, and the threshold
abbrev pub size_x : List ℕ → ℕ
size_x bs = slice_index bs 0

abbrev pub size_y : List ℕ → ℕ
size_y bs = slice_index bs 1

abbrev pub size_z : List ℕ → ℕ
size_z bs = slice_index bs 2

abbrev pub threshold : List ℕ → ℕ
threshold bs = slice_index bs 3

-- the values follow, x going fastest, then y, then z: the place of a point's byte
abbrev pub byte_of : List ℕ → Point → ℕ
byte_of bs (pt x y z) = 4 + (x + size_x bs * (y + size_y bs * z))

-- the place behind the last value
abbrev pub byte_end : List ℕ → ℕ
byte_end bs = 4 + size_x bs * (size_y bs * size_z bs)

abbrev pub value_of : List ℕ → Point → ℕ
value_of bs p = slice_index bs (byte_of bs p)

abbrev pub within : List ℕ → Point → Bool
within bs (pt x y z) = nat_lt x (size_x bs) && (nat_lt y (size_y bs) && nat_lt z (size_z bs))

-- WHO IS INSIDE: the points of the block whose value is the threshold or more
unfoldable pub inside : List ℕ → Point → Bool
inside bs p = within bs p && nat_le (threshold bs) (value_of bs p)

-- the first or the last of n
abbrev pub at_end : ℕ → ℕ → Bool
at_end i n = i == 0 || i + 1 == n

-- the first or the last point along some axis
abbrev pub on_border : List ℕ → Point → Bool
on_border bs (pt x y z) = at_end x (size_x bs) || (at_end y (size_y bs) || at_end z (size_z bs))

-- the points in the order of their values
abbrev pub row : ℕ → ℕ → ℕ → List Point
row a y z = below a (λ x. pt x y z ∷ [])

abbrev pub layer : ℕ → ℕ → ℕ → List Point
layer a b z = below b (λ y. row a y z)

abbrev pub points : List ℕ → List Point
points bs = below (size_z bs) (λ z. layer (size_x bs) (size_y bs) z)

-- what is wrong at place i, where the value of p is expected: the bytes have ended, or p is a border point and inside
abbrev pub fault_at : List ℕ → Point → ℕ → Option Refusal
fault_at bs p i =
    cond (nat_le (length bs) i) (Some (WrongLength i)) (cond (on_border bs p && nat_le (threshold bs) (slice_index bs i)) (Some (OpenBorder i)) None)

-- the first of two faults
abbrev pub first_of : Option Refusal → Option Refusal → Option Refusal
first_of None r = r
first_of (Some e) r = Some e

-- from front to back: the points that are still to come, and the place of the next byte
abbrev pub faults : List ℕ → List Point → ℕ → Option Refusal
faults bs [] i = None
faults bs (p ∷ ps) i = first_of (fault_at bs p i) (faults bs ps (suc i))

abbrev pub in_range : ℕ → Bool
in_range n = nat_le 2 n && nat_le n 96

abbrev pub size_fault : ℕ → ℕ → Option Refusal
size_fault n i = cond (in_range n) None (Some (WrongSize i))

abbrev pub header_fault : List ℕ → Option Refusal
header_fault bs =
    cond (nat_lt (length bs) 4) (Some (WrongLength (length bs)))
    (first_of (size_fault (size_x bs) 0)
    (first_of (size_fault (size_y bs) 1)
    (first_of (size_fault (size_z bs) 2)
    (cond (threshold bs == 0) (Some (WrongSize 3)) None))))

abbrev pub excess : List ℕ → Option Refusal
excess bs = cond (nat_lt (byte_end bs) (length bs)) (Some (WrongLength (byte_end bs))) None

-- THE VERDICT on a block's bytes: the header, then the values from front to back, then bytes too many; None where the block is taken
unfoldable pub refusal_of : List ℕ → Option Refusal
refusal_of bs = first_of (header_fault bs) (first_of (faults bs (points bs) 4) (excess bs))

-- what a block is, in plain words: its sizes and threshold are in range, there is a byte for each point and no other, and each point on
-- the border has a value below the threshold
pub record Good (bs : List ℕ) : Type 0 where
  pub x_size : (2 ≤ size_x bs) × (size_x bs ≤ 96)
  pub y_size : (2 ≤ size_y bs) × (size_y bs ≤ 96)
  pub z_size : (2 ≤ size_z bs) × (size_z bs ≤ 96)
  pub above_zero : 0 < threshold bs
  pub whole : length bs ≡ byte_end bs
  pub closed : (p : Point) → within bs p ≡ true → on_border bs p ≡ true → value_of bs p < threshold bs

-- a block is taken exactly if it is good
abbrev pub TakenIfGood : Type 0
TakenIfGood = (bs : List ℕ) → (refusal_of bs ≡ None) ↔ Good bs

-- what is known of a block that was taken: it is good, and whatever is inside lies strictly between its first and last points
pub record Taken (bs : List ℕ) : Type 0 where
  pub verdict : refusal_of bs ≡ None
  pub good : Good bs
  pub border : Border (inside bs) (size_x bs - 1) (size_y bs - 1) (size_z bs - 1)
