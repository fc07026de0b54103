-- The printer's bytes of a skin, as they are written: which bytes, where there is room for them, and that reading undoes writing and
-- writing undoes reading. Assumes nothing.
use Rattle.std.specs.Prelude.{◌≡◌, ℕ, ◌+◌, ◌*◌, ◌/◌, ◌%◌, ◌^◌, ◌<◌, Bool, true, cond, ◌&&◌, List, [], ◌∷◌, ◌++◌, length, take, drop, Some, None, Option, ◌==◌, nat_le, nat_lt}
use Rattle.std.specs.List.{flat_map, AllByRecursion}
use Rattle.mesh.specs.Bytes.{corner_count, triangle_count, part_count, coordinates_in, triangles_in, length_fault}

-- a number below 65536 in two bytes, and one below 2 ^ 32 in four, the low byte first
abbrev pub two_bytes : ℕ → List ℕ
two_bytes n = n % 256 ∷ n / 256 % 256 ∷ []

abbrev pub four_bytes : ℕ → List ℕ
four_bytes n = n % 256 ∷ n / 256 % 256 ∷ n / 65536 % 256 ∷ n / 16777216 % 256 ∷ []

-- so many of the four, the low ones
abbrev pub low_bytes : ℕ → ℕ → List ℕ
low_bytes n number = take n (four_bytes number)

-- the header, one corner and one triangle
abbrev pub header_bytes : ℕ → ℕ → ℕ → List ℕ
header_bytes corners triangles parts = four_bytes corners ++ (four_bytes triangles ++ four_bytes parts)

abbrev pub corner_bytes : ℕ → ℕ → ℕ → List ℕ
corner_bytes x y z = two_bytes x ++ (two_bytes y ++ two_bytes z)

abbrev pub triangle_bytes : ℕ → ℕ → ℕ → ℕ → List ℕ
triangle_bytes a b c part = four_bytes a ++ (four_bytes b ++ (four_bytes c ++ four_bytes part))

-- THE SKIN'S BYTES, of its coordinates, three for each corner, its triangles' numbers, four for each, and how many parts it has
abbrev pub skin_bytes : List ℕ → List ℕ → ℕ → List ℕ
skin_bytes corners triangles parts =
    header_bytes (length corners / 3) (length triangles / 4) parts ++ (flat_map two_bytes corners ++ flat_map four_bytes triangles)

-- how many those are
abbrev pub skin_size : List ℕ → List ℕ → ℕ
skin_size corners triangles = 12 + (2 * length corners + 4 * length triangles)

-- whether all numbers are below the bound
abbrev pub all_below : ℕ → List ℕ → Bool
all_below bound [] = true
all_below bound (n ∷ ns) = nat_lt n bound && all_below bound ns

-- WHAT CAN BE WRITTEN: whole corners and whole triangles, not too many for four bytes to count, with coordinates that two bytes hold,
-- into so many bytes that they have room
abbrev pub writable : List ℕ → List ℕ → ℕ → Bool
writable corners triangles room =
    (length corners % 3 == 0)
    && (nat_lt (length corners / 3) (2 ^ 32)
    && (length triangles % 4 == 0
    && (nat_lt (length triangles / 4) (2 ^ 32)
    && (nat_le (skin_size corners triangles) room && all_below 65536 corners))))

-- how many bytes are written into so many
abbrev pub written : List ℕ → List ℕ → ℕ → Option ℕ
written corners triangles room = cond (writable corners triangles room) (Some (skin_size corners triangles)) None

-- what a buffer holds then: the skin at its front and the rest as it was, or, where the skin cannot be written, all as it was
abbrev pub buffer_after : List ℕ → List ℕ → ℕ → List ℕ → List ℕ
buffer_after corners triangles parts old =
    cond (writable corners triangles (length old)) (skin_bytes corners triangles parts ++ drop (skin_size corners triangles) old) old

-- a skin that bytes can hold: whole corners and whole triangles, and each number below what its bytes can say
pub record InRange (corners triangles : List ℕ) (parts : ℕ) : Type 0 where
  pub corners_whole : length corners % 3 ≡ 0
  pub corners_few : length corners / 3 < 2 ^ 32
  pub triangles_whole : length triangles % 4 ≡ 0
  pub triangles_few : length triangles / 4 < 2 ^ 32
  pub parts_few : parts < 2 ^ 32
  pub coordinates_short : AllByRecursion (λ n. n < 65536) corners
  pub numbers_short : AllByRecursion (λ n. n < 2 ^ 32) triangles

-- what is read of the bytes of a skin: they are taken, and hold it
pub record Holds (bs corners triangles : List ℕ) (parts : ℕ) : Type 0 where
  pub verdict : length_fault bs ≡ None
  pub corners_counted : corner_count bs ≡ length corners / 3
  pub triangles_counted : triangle_count bs ≡ length triangles / 4
  pub parts_counted : part_count bs ≡ parts
  pub coordinates_are : coordinates_in bs ≡ corners
  pub numbers_are : triangles_in bs ≡ triangles

-- reading undoes writing
abbrev pub ReadBack : Type 0
ReadBack = (corners triangles : List ℕ) (parts : ℕ) → InRange corners triangles parts → Holds (skin_bytes corners triangles parts) corners triangles parts

-- what is known of bytes that are taken: they are the bytes of the skin in them
pub record Taken (bs : List ℕ) : Type 0 where
  pub verdict : length_fault bs ≡ None
  pub again : skin_bytes (coordinates_in bs) (triangles_in bs) (part_count bs) ≡ bs

-- writing undoes reading
abbrev pub WrittenBack : Type 0
WrittenBack = (bs : List ℕ) → AllByRecursion (λ b. b < 256) bs → length_fault bs ≡ None → Taken bs
