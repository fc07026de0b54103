-- What each pass over the triangles hands on to the next: spokes united, corners told apart, numbers written, numbers in turn. Assumes nothing.
use Rattle.std.specs.Prelude.{◌≡◌, ℕ, ◌+◌, ◌*◌, ◌%◌, ◌<◌, cond, ◌⊎◌, ◌↔◌, List, length, ◌==◌, nat_eq, slice_index, slice_set}
use Rattle.theory_parts.specs.Parts.{Linked}
use Rattle.theory_parts.specs.Buffer.{part_at, count_in, triangles_in}

-- c is the first corner, and d the second or the third, of a triangle before the place n
pub record Spoke (ns : List ℕ) (n c d : ℕ) : Type 0 where
  pub place : ℕ
  pub before : place < n
  pub first : c ≡ slice_index ns (4 * place)
  pub other : (d ≡ slice_index ns (4 * place + 1)) ⊎ (d ≡ slice_index ns (4 * place + 2))

-- the numbers of corners: two corners have one number exactly if they are linked by triangles
pub record Told (ns numbers : List ℕ) : Type 0 where
  pub below : (a : ℕ) → a < length numbers → slice_index numbers a < length numbers
  pub tells :
      (a b : ℕ) → a < length numbers → b < length numbers → (slice_index numbers a ≡ slice_index numbers b) ↔ Linked nat_eq (triangles_in ns) a b

-- the same corners, whatever the parts' numbers
abbrev pub SameCorners : List ℕ → List ℕ → Type 0
SameCorners ns ms = (i : ℕ) → i % 4 < 3 → slice_index ms i ≡ slice_index ns i

-- in the place of its part's number, each triangle has the number of its first corner
abbrev pub HoldsNumbers : List ℕ → List ℕ → List ℕ → Type 0
HoldsNumbers numbers ns ms = (i : ℕ) → i < count_in ns → part_at ms i ≡ slice_index numbers (slice_index ns (4 * i))

-- the parts' numbers are below a limit
abbrev pub PartsBelow : List ℕ → ℕ → Type 0
PartsBelow ns limit = (i : ℕ) → i < count_in ns → part_at ns i < limit

-- the numbers ms tell the triangles' parts apart as the numbers ns do
abbrev pub SameParts : List ℕ → List ℕ → Type 0
SameParts ns ms = (i j : ℕ) → i < count_in ns → j < count_in ns → (part_at ms i ≡ part_at ms j) ↔ (part_at ns i ≡ part_at ns j)

-- stands for the new number of a number that has none yet
abbrev pub no_number : ℕ
no_number = 4294967295

-- the new numbers of numbers, where r is given the number n if it has none
abbrev pub given_at : List ℕ → ℕ → ℕ → List ℕ
given_at numbers r n = cond (slice_index numbers r == no_number) (slice_set numbers r n) numbers
