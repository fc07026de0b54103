-- A pass that goes on from cube to cube goes on from row to row, and from layer to layer. Assumes nothing.
use Rattle.std.proofs.Common.{◌≡◌, ℕ, zero, suc, ◌-◌, ◌≤◌, List, [], ◌++◌, None, sym, refl, ap, ◌∙◌, subst, append-nil, arith}
use Rattle.theory.specs.Grid.{Point, pt}
use Rattle.theory.specs.Skin.{Triangle, cube}
use Rattle.theory_numbers.proofs.Order.{in_order}
use Rattle.block.specs.Scan.{size_x, size_y, size_z, inside}
use Rattle.triangle.specs.Cubes.{lowest_of, OfBlock}
use Rattle.triangle.specs.Rows.{RowOf}
use Rattle.triangle.specs.Progress.{skin_of, earlier}
use Rattle.triangle.specs.Passes.{GoesOn}
use Rattle.triangle.specs.declared.cube.Cube.{Cube}
use Rattle.triangle.proofs.Pieces.{plain_empty}

module _ {S : Type 0} (has : List ℕ → S → S → List Triangle → Type 0) (bs : List ℕ) where
  abbrev Goes : Point → Point → S → S → Type 0
  Goes = GoesOn has bs

  pub goes_then : (p q r : Point) (s s' s'' : S) → Goes p q s s' → Goes q r s' s'' → Goes p r s s''
  goes_then p q r s s' s'' a b old w = b old (a old w)

  -- the cubes between have no triangles
  pub passed_by : (p q : Point) (s : S) → earlier bs q ≡ earlier bs p → Goes p q s s
  passed_by p q s e old w = subst (has bs old s) (sym e) w

  pub plain_passed : (k : Cube) (s : S) → OfBlock bs k → cube (inside bs) (lowest_of k) ≡ [] → Goes (lowest_of k) (pt (suc k.lowest.x) k.lowest.y k.lowest.z) s s
  plain_passed k s h e =
      passed_by (lowest_of k) _ s
      ((in_order (inside bs) (size_x bs - 1) (size_y bs - 1)).next_cube k.lowest.x k.lowest.y k.lowest.z
      ∙ ap (λ ts. earlier bs (lowest_of k) ++ ts) e ∙ append-nil _)

  -- the cubes of a row up to one of them, none of whose points is inside
  pub row_passed : (y z n : ℕ) (s : S) → RowOf bs y z None → n ≤ size_x bs - 1 → Goes (pt 0 y z) (pt n y z) s s
  row_passed y z zero s row l = λ old w. w
  row_passed y z (suc n) s row l =
      let h = row n (omega arith) in
      goes_then (pt 0 y z) (pt n y z) (pt (suc n) y z) s s s (row_passed y z n s row (omega arith)) (plain_passed _ s h (plain_empty bs _ h refl))

  pub row_done : (y z : ℕ) (s s' : S) → Goes (pt 0 y z) (pt (size_x bs - 1) y z) s s' → Goes (pt 0 y z) (pt 0 (suc y) z) s s'
  row_done y z s s' g old w = subst (has bs old s') (sym ((in_order (inside bs) (size_x bs - 1) (size_y bs - 1)).next_row y z)) (g old w)

  pub layer_done : (z : ℕ) (s s' : S) → Goes (pt 0 0 z) (pt 0 (size_y bs - 1) z) s s' → Goes (pt 0 0 z) (pt 0 0 (suc z)) s s'
  layer_done z s s' g old w = subst (has bs old s') (sym ((in_order (inside bs) (size_x bs - 1) (size_y bs - 1)).next_layer z)) (g old w)

  -- from no cubes to all
  pub begun : (s : S) → has bs s s [] → has bs s s (earlier bs (pt 0 0 0))
  begun s w = subst (has bs s s) (sym (in_order (inside bs) (size_x bs - 1) (size_y bs - 1)).start) w

  pub all_done : (s s' : S) → Goes (pt 0 0 0) (pt 0 0 (size_z bs - 1)) s s' → has bs s s [] → has bs s s' (skin_of bs)
  all_done s s' g w = subst (has bs s s') ((in_order (inside bs) (size_x bs - 1) (size_y bs - 1)).end (size_z bs - 1)) (g s (begun s w))
