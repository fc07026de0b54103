-- The triangles that the table gives for the pieces of a cube, one after the other, are those of the cube; a plain cube has none; and the
-- bits of two faces are those of the cube between them. Assumes nothing.
use Rattle.std.proofs.Common.{◌≡◌, ℕ, zero, suc, ◌+◌, ◌/◌, ◌<◌, ◌≤◌, Bool, true, false, eqb, List, [], ◌∷◌, ◌++◌, map, Some, sym, refl, ap, ◌∙◌, ap₂, inl, inr, append_assoc, append-nil, add-one, arith}
use Rattle.std.proofs.lemmas.List.{map-append}
use Rattle.std.proofs.lemmas.Bool.{eqb-true, or_cases}
use Rattle.std.specs.List.{slice_get}
use Rattle.theory.specs.Grid.{Point, pt, Piece, pieces, ◌⊕◌}
use Rattle.theory.specs.Triangle.{Edge, edge, Tri, tri, one_if}
use Rattle.theory.specs.Skin.{Triangle, in_piece, cube, below}
use Rattle.theory.specs.Faces.{renamed}
use Rattle.block.specs.Scan.{size_x, size_y, size_z, inside, Taken}
use Rattle.piece.specs.Table.{bit, point_of, corner_point, offset_at, triangles_in}
use Rattle.piece.proofs.Table.{cut_by_table}
use Rattle.triangle.specs.Cubes.{lowest_of, cube_at, point_in, case_in, plain, face_bits, piece_triangles, OfBlock}
use Rattle.triangle.specs.Cases.{cube_table}
use Rattle.triangle.specs.declared.cube.Cube.{Cube}
use Rattle.triangle.proofs.Tables.{case_bit, point_below, bit_is}

-- the table cuts the pieces of a cube
module _ (bs : List ℕ) (k : Cube) (h : OfBlock bs k) where
  name_bit : (w a : ℕ) → w < 6 → a < 4 → bit (case_in k.bits w) a ≡ inside bs (corner_point (lowest_of k) w a)
  name_bit w a lw la = case_bit k.bits w a la ∙ h.bits (point_of w a) (point_below w a lw la)

  piece_is : (w : ℕ) (p : Piece) → w < 6 → slice_get pieces w ≡ Some p → in_piece (inside bs) (lowest_of k) p ≡ piece_triangles k w
  piece_is w p lw e =
      cut_by_table (inside bs) (lowest_of k) w (case_in k.bits w) p e
      (name_bit w 0 lw (omega arith), (name_bit w 1 lw (omega arith), (name_bit w 2 lw (omega arith), (name_bit w 3 lw (omega arith), tt))))

  pub cube_is : cube (inside bs) (lowest_of k) ≡ below 6 (piece_triangles k)
  unfolding cube
  cube_is =
      (λ i. piece_is 0 _ (omega arith) refl i ++ (piece_is 1 _ (omega arith) refl i ++ (piece_is 2 _ (omega arith) refl i
      ++ (piece_is 3 _ (omega arith) refl i ++ (piece_is 4 _ (omega arith) refl i ++ (piece_is 5 _ (omega arith) refl i ++ []))))))
      ∙ regroup (piece_triangles k 0) (piece_triangles k 1) (piece_triangles k 2) (piece_triangles k 3) (piece_triangles k 4) (piece_triangles k 5)
    where
      regroup : (a b c d e g : List Triangle) → a ++ (b ++ (c ++ (d ++ (e ++ (g ++ []))))) ≡ ((((a ++ b) ++ c) ++ d) ++ e) ++ g
      regroup a b c d e g = simp (append_assoc, append-nil)

  -- the triangles of a cube, by the numbers of their points
  pub cube_by_table : cube (inside bs) (lowest_of k) ≡ map (renamed (point_in k)) (cube_table k.bits)
  cube_by_table = cube_is ∙ moved 6
    where
      twice :
          (w : ℕ) (ts : List (Tri (Edge ℕ))) →
          map (renamed (corner_point (lowest_of k) w)) ts ≡ map (renamed (point_in k)) (map (renamed (point_of w)) ts)
      twice w [] = refl
      twice w (tri (edge a b) (edge c d) (edge e g) ∷ ts) =
          ap (λ us. renamed (corner_point (lowest_of k) w) (tri (edge a b) (edge c d) (edge e g)) ∷ us) (twice w ts)

      moved :
          (n : ℕ) →
          below n (piece_triangles k) ≡ map (renamed (point_in k)) (below n (λ w. map (renamed (point_of w)) (triangles_in (case_in k.bits w))))
      moved zero = refl
      moved (suc n) =
          ap₂ ◌++◌ (moved n) (twice n (triangles_in (case_in k.bits n)))
          ∙ sym (map-append (renamed (point_in k)) (below n (λ w. map (renamed (point_of w)) (triangles_in (case_in k.bits w))))
          (map (renamed (point_of n)) (triangles_in (case_in k.bits n))))

  -- all eight points are outside, or all are inside
  pub plain_empty : plain k.bits ≡ true → cube (inside bs) (lowest_of k) ≡ []
  plain_empty e =
      cube_is ∙ elim (or_cases (eqb k.bits 0) (eqb k.bits 255) e) [
        | inl t ↦ ap (λ b. below 6 (λ w. map (renamed (corner_point (lowest_of k) w)) (triangles_in (case_in b w)))) (eqb-true k.bits 0 t)
        | inr t ↦ ap (λ b. below 6 (λ w. map (renamed (corner_point (lowest_of k) w)) (triangles_in (case_in b w)))) (eqb-true k.bits 255 t)
      ]

one_if_le : (b : Bool) → one_if b ≤ 1
one_if_le true = omega arith
one_if_le false = omega arith

-- the bits of the cube between two faces
pub between_faces : (f : Point → Bool) (x y z o : ℕ) → o < 8 → bit (face_bits f (pt x y z) / 2 + face_bits f (pt (suc x) y z)) o ≡ f (pt x y z ⊕ offset_at o)
between_faces f x y z = go
  where
    go : (o : ℕ) → o < 8 → bit (face_bits f (pt x y z) / 2 + face_bits f (pt (suc x) y z)) o ≡ f (pt x y z ⊕ offset_at o)
    go zero l = bit_is _ _ (omega (arith, one_if_le))
    go (suc zero) l = bit_is _ _ (omega (arith, one_if_le))
    go (suc (suc zero)) l = bit_is _ _ (omega (arith, one_if_le))
    go (suc (suc (suc zero))) l = bit_is _ _ (omega (arith, one_if_le))
    go (suc (suc (suc (suc zero)))) l = bit_is _ _ (omega (arith, one_if_le))
    go (suc (suc (suc (suc (suc zero))))) l = bit_is _ _ (omega (arith, one_if_le))
    go (suc (suc (suc (suc (suc (suc zero)))))) l = bit_is _ _ (omega (arith, one_if_le))
    go (suc (suc (suc (suc (suc (suc (suc zero))))))) l = bit_is _ _ (omega (arith, one_if_le))
    go (suc (suc (suc (suc (suc (suc (suc (suc o)))))))) l = absurd (omega arith)

pub face_le : (f : Point → Bool) (x y z : ℕ) → face_bits f (pt x y z) ≤ 170
face_le f x y z = omega (arith, one_if_le (f (pt x y z)), one_if_le (f (pt x (suc y) z)), one_if_le (f (pt x y (suc z))), one_if_le (f (pt x (suc y) (suc z))))

-- a cube of a block, with the bits of its two faces
pub cube_of_faces :
    (bs : List ℕ) (x y z near far : ℕ) → Taken bs → suc x < size_x bs → suc y < size_y bs → suc z < size_z bs →
    near ≡ face_bits (inside bs) (pt x y z) → far ≡ face_bits (inside bs) (pt (x + 1) y z) →
    OfBlock bs (cube_at x y z (near / 2 + far))
cube_of_faces bs x y z near far taken lx ly lz en ef =
    let next = ef ∙ ap (λ n. face_bits (inside bs) (pt n y z)) (add-one x) in
    record {
      taken = taken;
      along_x = lx;
      along_y = ly;
      along_z = lz;
      byte = omega (arith, face_le (inside bs) x y z, face_le (inside bs) (x + 1) y z);
      bits = λ o l. ap₂ (λ near far. bit (near / 2 + far) o) en next ∙ between_faces (inside bs) x y z o l;
    }
