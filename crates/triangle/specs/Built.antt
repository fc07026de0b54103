-- What a call of the builder answers, and what the buffers hold afterwards. Assumes nothing: these are definitions.
use Rattle.std.specs.Prelude.{◌≡◌, ℕ, ◌-◌, ◌*◌, ◌/◌, ◌≤◌, cond, List, length, Some, None, Option, nat_lt}
use Rattle.block.specs.Scan.{size_x, size_y, size_z, first_of, refusal_of}
use Rattle.block.specs.declared.refusal.Refusal.{Refusal}
use Rattle.block.specs.declared.refusal.Refusal.TheVariants.{ShortBuffer}
use Rattle.triangle.specs.Progress.{skin_of, corners_of, SkinWritten}
use Rattle.triangle.specs.declared.Counts.{Counts}

-- a buffer that is too short, by the lengths of the three: corners first, then triangles, then work
abbrev pub short_buffer : List ℕ → ℕ → ℕ → ℕ → Option Refusal
short_buffer bs corners triangles work =
    cond (nat_lt (corners / 3) (length (corners_of bs))) (Some (ShortBuffer (corners / 3)))
    (cond (nat_lt (triangles / 4) (length (skin_of bs))) (Some (ShortBuffer (triangles / 4)))
    (cond (nat_lt work (6 * (size_x bs * (size_y bs * size_z bs)))) (Some (ShortBuffer 0)) None))

-- THE VERDICT: the block is refused, or a buffer is too short; None where the skin is built
abbrev pub verdict : List ℕ → ℕ → ℕ → ℕ → Option Refusal
verdict bs corners triangles work = first_of (refusal_of bs) (short_buffer bs corners triangles work)

-- the counts of a block's skin, where the block is taken
pub record Needed (bs : List ℕ) (r : Counts) : Type 0 where
  pub taken : refusal_of bs ≡ None
  pub corner_count : r.corners ≡ length (corners_of bs)
  pub triangle_count : r.triangles ≡ length (skin_of bs)
  pub at_most_six : r.corners ≤ 6 * ((size_x bs - 1) * (size_y bs - 1) * (size_z bs - 1))

-- refused: all three buffers are as they were
pub record Refused (bs corners triangles work corners' triangles' work' : List ℕ) (e : Refusal) : Type 0 where
  pub reason : verdict bs (length corners) (length triangles) (length work) ≡ Some e
  pub same_corners : corners' ≡ corners
  pub same_triangles : triangles' ≡ triangles
  pub same_work : work' ≡ work

-- built: the skin of the block is written, and its corners and triangles are counted
pub record Built (bs corners triangles work corners' triangles' : List ℕ) (r : Counts) : Type 0 where
  pub fits : verdict bs (length corners) (length triangles) (length work) ≡ None
  pub corner_count : r.corners ≡ length (corners_of bs)
  pub triangle_count : r.triangles ≡ length (skin_of bs)
  pub at_most_six : r.corners ≤ 6 * ((size_x bs - 1) * (size_y bs - 1) * (size_z bs - 1))
  pub written : SkinWritten bs corners triangles corners' triangles'
