-- Which triangles are taken to have their parts numbered. Assumes nothing.
use Rattle.std.specs.Prelude.{◌≡◌, ℕ, ◌%◌, ◌<◌, ◌≤◌, List, length, slice_index}

-- each corner's number is below the number of corners
abbrev pub InRange : List ℕ → ℕ → Type 0
InRange ns corners = (i : ℕ) → i < length ns → i % 4 < 3 → slice_index ns i < corners

-- what is taken: whole triangles, corners in range, and a number of work for each corner
pub record Takes (ns : List ℕ) (corners : ℕ) (work : List ℕ) : Type 0 where
  pub whole : length ns % 4 ≡ 0
  pub in_range : InRange ns corners
  pub enough : corners ≤ length work
