-- A pass over the cubes of a block, and how far it is. Assumes nothing: these are definitions.
use Rattle.std.specs.Prelude.{ℕ, List}
use Rattle.std.specs.Borrow.{Bor}
use Rattle.theory.specs.Grid.{Point}
use Rattle.theory.specs.Skin.{Triangle}
use Rattle.triangle.specs.Progress.{earlier}
use Rattle.triangle.specs.declared.scan.Scan.{Scan}

-- the bytes of a block
abbrev pub bytes_of : Bor Scan → List ℕ
bytes_of s = s.now.block.bytes.now

-- `has bs old s ts`: a pass that began as `old` and is now `s` has gone over cubes with these triangles
module _ {S : Type 0} (has : List ℕ → S → S → List Triangle → Type 0) (bs : List ℕ) where
  -- it is at the cube at p
  abbrev pub ReadyAt : Point → S → Type 0
  ReadyAt p s = (old : S) × has bs old s (earlier bs p)

  -- it goes over the cubes from the one at p on, up to the one at q
  abbrev pub GoesOn : Point → Point → S → S → Type 0
  GoesOn p q s s' = (old : S) → has bs old s (earlier bs p) → has bs old s' (earlier bs q)
