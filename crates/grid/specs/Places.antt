-- What the code's points, steps and edges stand for, and the lower end of an edge. Assumes nothing.
use Rattle.std.specs.Prelude.{◌≡◌, ℕ, ◌-◌, cond, ◌&&◌, ◌≢◌, ◌↔◌, List, [], ◌∷◌, Some, None, Option, nat_le}
use Rattle.std.specs.List.{slice_get}
use Rattle.theory.specs.Grid.{Point, pt, Offset, off, lowest, +x, +y, +z, +xy, +xz, +yz, highest, ◌⊕◌}
use Rattle.theory.specs.Triangle.{one_if}
use Rattle.grid.specs.declared.edge.Point.{Point as Place}
use Rattle.grid.specs.declared.edge.Edge.{Edge}
use Rattle.grid.specs.declared.edge.Step.{Step}
use Rattle.grid.specs.declared.edge.Step.TheVariants.{X, Y, Z, Xy, Xz, Yz, Xyz}

-- the point that the code's point is
abbrev pub at : Place → Point
at p = pt p.x p.y p.z

-- an edge by its upper end and the step that leads there
abbrev pub rise : Edge → Point × Step
rise e = (at e.upper, e.step)

-- the point of a cube to which a step leads from the lowest one
abbrev pub offset_of : Step → Offset
offset_of X = +x
offset_of Y = +y
offset_of Z = +z
offset_of Xy = +xy
offset_of Xz = +xz
offset_of Yz = +yz
offset_of Xyz = highest

-- the steps in the order of their numbers
abbrev pub steps : List Step
steps = X ∷ Y ∷ Z ∷ Xy ∷ Xz ∷ Yz ∷ Xyz ∷ []

-- the step that has a number: there is none from 7 on
abbrev pub step_in : ℕ → Option Step
step_in n = slice_get steps n

abbrev pub step_number : Step → ℕ
step_number X = 0
step_number Y = 1
step_number Z = 2
step_number Xy = 3
step_number Xz = 4
step_number Yz = 5
step_number Xyz = 6

-- the lower end of an edge: one step back along each axis of the step, unless that falls below 0
abbrev pub lower_of : Point → Offset → Option Point
lower_of (pt x y z) (off a b c) =
    cond (nat_le (one_if a) x && (nat_le (one_if b) y && nat_le (one_if c) z)) (Some (pt (x - one_if a) (y - one_if b) (z - one_if c))) None

-- AN EDGE'S ENDS: the step leads from the lower end to the upper one, and there is no lower end only where no point has that step to the
-- upper end; each point of a cube but the lowest is one step from it, and different steps lead to different points
pub record EndsJoined : Type 0 where
  pub lower : (p q : Point) (o : Offset) → (lower_of q o ≡ Some p) ↔ (q ≡ p ⊕ o)
  pub stepped : (o : Offset) → o ≢ lowest → (s : Step) × (offset_of s ≡ o)
  pub apart : (s t : Step) → offset_of s ≡ offset_of t → s ≡ t
