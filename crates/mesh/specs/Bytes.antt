-- The printer's bytes of a skin, as they are read: how long they are, and which numbers they hold. Assumes nothing.
use Rattle.std.specs.Prelude.{◌≡◌, ℕ, ◌+◌, ◌*◌, cond, List, [], ◌∷◌, length, Some, None, Option, nat_lt, slice_index}
use Rattle.std.specs.Borrow.{Bor}
use Rattle.block.specs.declared.refusal.Refusal.{Refusal}
use Rattle.block.specs.declared.refusal.Refusal.TheVariants.{WrongLength}
use Rattle.theory.specs.Skin.{below}
use Rattle.mesh.specs.declared.Skin.{Skin}

-- the bytes of a skin that was read
abbrev pub bytes_in : Bor Skin → List ℕ
bytes_in k = k.now.bytes.now

-- the number in the two bytes from place i on, and in the four, the low byte first
abbrev pub short_at : List ℕ → ℕ → ℕ
short_at bs i = slice_index bs i + 256 * slice_index bs (i + 1)

abbrev pub number_at : List ℕ → ℕ → ℕ
number_at bs i = slice_index bs i + 256 * (slice_index bs (i + 1) + 256 * (slice_index bs (i + 2) + 256 * slice_index bs (i + 3)))

-- the numbers of corners, of triangles and of parts
abbrev pub corner_count : List ℕ → ℕ
corner_count bs = number_at bs 0

abbrev pub triangle_count : List ℕ → ℕ
triangle_count bs = number_at bs 4

abbrev pub part_count : List ℕ → ℕ
part_count bs = number_at bs 8

-- where the triangles begin: behind six bytes for each corner
abbrev pub triangles_from : List ℕ → ℕ
triangles_from bs = 12 + 6 * corner_count bs

-- THE COORDINATES of the corners, three for each, and THE NUMBERS of the triangles, four for each: its corners and its part
abbrev pub coordinates_in : List ℕ → List ℕ
coordinates_in bs = below (3 * corner_count bs) (λ i. short_at bs (12 + 2 * i) ∷ [])

abbrev pub triangles_in : List ℕ → List ℕ
triangles_in bs = below (4 * triangle_count bs) (λ i. number_at bs (triangles_from bs + 4 * i) ∷ [])

-- the place behind the last triangle: six bytes a corner, sixteen a triangle
abbrev pub skin_end : List ℕ → ℕ
skin_end bs = 12 + (6 * corner_count bs + 16 * triangle_count bs)

-- THE VERDICT on the length: bytes that end early are refused at their length, and bytes that go on at the first too many
abbrev pub length_fault : List ℕ → Option Refusal
length_fault bs =
    cond (nat_lt (length bs) 12) (Some (WrongLength (length bs)))
    (cond (nat_lt (length bs) (skin_end bs)) (Some (WrongLength (length bs)))
    (cond (nat_lt (skin_end bs) (length bs)) (Some (WrongLength (skin_end bs))) None))

-- the header of a skin whose bytes have the right length
pub record Counted (bs : List ℕ) (corners triangles parts : ℕ) : Type 0 where
  pub verdict : length_fault bs ≡ None
  pub corners_are : corners ≡ corner_count bs
  pub triangles_are : triangles ≡ triangle_count bs
  pub parts_are : parts ≡ part_count bs

-- the header that the first bytes say, whether or not they are a skin's
pub record Said (bs : List ℕ) (corners triangles parts : ℕ) : Type 0 where
  pub corners_are : corners ≡ corner_count bs
  pub triangles_are : triangles ≡ triangle_count bs
  pub parts_are : parts ≡ part_count bs
