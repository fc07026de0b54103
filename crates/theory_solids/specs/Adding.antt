-- The parts make up the whole: their counts and their volumes add up to those of all triangles. Stated over any sort of corner with a test
-- of sameness, as parts are. Each statement is a type; a public function's contract names it, so its proof is owed. Assumes nothing.
use Rattle.std.specs.Prelude.{◌≡◌, ℕ, zero, suc, ◌<◌, Bool, List, length, ℤ, pos, ◌+ℤ◌}
use Rattle.theory.specs.Triangle.{Tri, sum_of}
use Rattle.theory.specs.Faces.{sum_below}
use Rattle.theory.specs.Places.{Place}
use Rattle.theory_parts.specs.Parts.{Numbered}
use Rattle.theory_parts.specs.Regions.{of_part}
use Rattle.theory_volume.specs.Volume.{six_volume}

-- the sum of whole numbers at 0, 1, … below n
abbrev pub sum_belowℤ : ℕ → (ℕ → ℤ) → ℤ
sum_belowℤ zero v = pos 0
sum_belowℤ (suc n) v = sum_belowℤ n v +ℤ v n

-- each of the n parts has a triangle, and together they have all
pub record Counted {C : Type 0} (ts : List (Tri C)) (ps : List ℕ) (n : ℕ) : Type 0 where
  pub some : (m : ℕ) → m < n → 0 < length (of_part m ts ps)
  pub all : sum_below n (λ m. length (of_part m ts ps)) ≡ length ts

-- whatever number a triangle has, the sum over the parts of the parts' sums is the sum over all triangles; so for volumes, wherever corners lie
pub record AddedUp {C : Type 0} (ts : List (Tri C)) (ps : List ℕ) (n : ℕ) : Type 0 where
  pub weights : (h : Tri C → ℕ) → sum_below n (λ m. sum_of h (of_part m ts ps)) ≡ sum_of h ts
  pub volumes : (at : C → Place) → sum_belowℤ n (λ m. six_volume at (of_part m ts ps)) ≡ six_volume at ts

module _ {C : Type 0} (same : C → C → Bool) where
  -- EACH PART HAS A TRIANGLE
  abbrev pub PartsCounted : Type 0
  PartsCounted = (ts : List (Tri C)) (ps : List ℕ) (n : ℕ) → Numbered same ts ps n → Counted ts ps n

  -- THE PARTS ADD UP
  abbrev pub PartsAddUp : Type 0
  PartsAddUp = (ts : List (Tri C)) (ps : List ℕ) (n : ℕ) → Numbered same ts ps n → AddedUp ts ps n
