-- The triangles of the cubes up to some place are the front of the skin; and how many the skin has at most. Assumes nothing.
use Rattle.std.proofs.Common.{◌≡◌, ℕ, zero, suc, ◌+◌, ◌-◌, ◌*◌, ◌<◌, ◌≤◌, List, [], ◌∷◌, ◌++◌, length, sym, refl, ap, ◌∙◌, subst, append_assoc, append-nil, mul-suc, mul-zero, arith, length-append}
use Rattle.theory.specs.Grid.{pt}
use Rattle.theory.specs.Triangle.{corners}
use Rattle.theory.specs.Faces.{renamed}
use Rattle.theory.specs.Skin.{Triangle, same, cube, skin, below}
use Rattle.theory_numbers.specs.Numbers.{corners_met}
use Rattle.theory_numbers.proofs.Order.{in_order}
use Rattle.theory_numbers.proofs.Meeting.{as_they_are_met, meet_all_grows}
use Rattle.block.specs.Scan.{size_x, size_y, size_z, inside, Taken}
use Rattle.triangle.specs.Cubes.{cube_at, point_in, case_in, OfBlock}
use Rattle.piece.specs.Table.{triangles_in}
use Rattle.triangle.specs.Cases.{cube_table, new_triangles}
use Rattle.triangle.specs.Progress.{skin_of, earlier}
use Rattle.triangle.proofs.Computed.{case_facts}
use Rattle.triangle.proofs.Pieces.{cube_by_table, cube_of_faces}
use Rattle.triangle.proofs.Tables.{at_most_two, case_below}
use Rattle.std.proofs.lemmas.List.{length-map}
use Rattle.std.proofs.lemmas.Nat.{mul-le}

-- xs is the front of ys
abbrev pub Front : {A : Type 0} → List A → List A → Type 0
Front {A} xs ys = (rest : List A) × (ys ≡ xs ++ rest)

pub front_trans : {A : Type 0} (xs ys zs : List A) → Front xs ys → Front ys zs → Front xs zs
front_trans xs ys zs (r, e) (s, d) = (r ++ s, d ∙ ap (λ l. l ++ s) e ∙ append_assoc xs r s)

front_same : {A : Type 0} (xs ys : List A) → xs ≡ ys → Front xs ys
front_same xs ys e = ([], sym e ∙ sym (append-nil xs))

module _ (bs : List ℕ) where
  -- from cube to cube along a row, from row to row, from layer to layer
  row_front : (i n j k : ℕ) → Front (earlier bs (pt i j k)) (earlier bs (pt (i + n) j k))
  row_front i zero j k = front_same _ _ (ap (λ m. earlier bs (pt m j k)) (omega arith))
  row_front i (suc n) j k =
      front_trans _ _ _ (row_front i n j k)
      (cube (inside bs) (pt (i + n) j k), ap (λ m. earlier bs (pt m j k)) (omega arith) ∙ (in_order (inside bs) (size_x bs - 1) (size_y bs - 1)).next_cube (i + n) j k)

  rows_front : (j n k : ℕ) → Front (earlier bs (pt 0 j k)) (earlier bs (pt 0 (j + n) k))
  rows_front j zero k = front_same _ _ (ap (λ m. earlier bs (pt 0 m k)) (omega arith))
  rows_front j (suc n) k =
      front_trans _ _ _ (rows_front j n k)
      (front_trans _ _ _ (row_front 0 (size_x bs - 1) (j + n) k)
      (front_same _ _ (ap (λ m. earlier bs (pt m (j + n) k)) (omega arith)
      ∙ sym ((in_order (inside bs) (size_x bs - 1) (size_y bs - 1)).next_row (j + n) k) ∙ ap (λ m. earlier bs (pt 0 m k)) (omega arith))))

  layers_front : (k n : ℕ) → Front (earlier bs (pt 0 0 k)) (earlier bs (pt 0 0 (k + n)))
  layers_front k zero = front_same _ _ (ap (λ m. earlier bs (pt 0 0 m)) (omega arith))
  layers_front k (suc n) =
      front_trans _ _ _ (layers_front k n)
      (front_trans _ _ _ (rows_front 0 (size_y bs - 1) (k + n))
      (front_same _ _ (ap (λ m. earlier bs (pt 0 m (k + n))) (omega arith)
      ∙ sym ((in_order (inside bs) (size_x bs - 1) (size_y bs - 1)).next_layer (k + n)) ∙ ap (λ m. earlier bs (pt 0 0 m)) (omega arith))))

  -- what is written once a cube is done is the front of the skin
  pub cube_front : (i j k : ℕ) → i < size_x bs - 1 → j < size_y bs - 1 → k < size_z bs - 1 → Front (earlier bs (pt i j k) ++ cube (inside bs) (pt i j k)) (skin_of bs)
  cube_front i j k li lj lk =
      let o = in_order (inside bs) (size_x bs - 1) (size_y bs - 1) in
      let x = size_x bs - 1 in let y = size_y bs - 1 in let z = size_z bs - 1 in
      front_trans _ _ _ (front_same _ _ (sym (o.next_cube i j k)))
      (front_trans _ _ _ (row_front (suc i) (x - suc i) j k)
      (front_trans _ _ _ (front_same _ _ (ap (λ m. earlier bs (pt m j k)) (omega arith) ∙ sym (o.next_row j k)))
      (front_trans _ _ _ (rows_front (suc j) (y - suc j) k)
      (front_trans _ _ _ (front_same _ _ (ap (λ m. earlier bs (pt 0 m k)) (omega arith) ∙ sym (o.next_layer k)))
      (front_trans _ _ _ (layers_front (suc k) (z - suc k))
      (front_same _ _ (ap (λ m. earlier bs (pt 0 0 m)) (omega arith) ∙ o.end z)))))))

-- fewer triangles meet no more corners
pub met_le : (ts us : List Triangle) → length (corners_met ts) ≤ length (corners_met (ts ++ us))
met_le ts [] = subst (λ vs. length (corners_met ts) ≤ length (corners_met vs)) (sym (append-nil ts)) (omega arith)
met_le ts (t ∷ us) =
    let r = meet_all_grows same (corners_met ts) (corners t) in
    let e = ap length (sym (as_they_are_met.next ts t) ∙ r.1) ∙ length-append (corners_met ts) r.0 in
    let i = met_le (ts ++ t ∷ []) us in
    subst (λ vs. length (corners_met ts) ≤ length (corners_met vs)) (append_assoc ts (t ∷ []) us) (omega arith)

few_triangles : (b : ℕ) → new_triangles b ≤ 12
few_triangles b = omega (arith, two 0, two 1, two 2, two 3, two 4, two 5)
  where
    two : (w : ℕ) → length (triangles_in (case_in b w)) ≤ 2
    two w = at_most_two (case_in b w) (case_below b w)

-- lists of at most m elements, one after the other
below_few : {A : Type 0} (m n : ℕ) (g : ℕ → List A) → ((i : ℕ) → i < n → length (g i) ≤ m) → length (below n g) ≤ m * n
below_few m zero g few = omega (arith, mul-zero m)
below_few m (suc n) g few =
    omega (arith, length-append (below n g) (g n), mul-suc m n, few n (omega arith), below_few m n g (λ i l. few i (omega arith)))

module _ (bs : List ℕ) (taken : Taken bs) where
  cube_few : (i j k : ℕ) → i < size_x bs - 1 → j < size_y bs - 1 → k < size_z bs - 1 → length (cube (inside bs) (pt i j k)) ≤ 12
  cube_few i j k li lj lk = of_bits _ (cube_of_faces bs i j k _ _ taken (omega arith) (omega arith) (omega arith) refl refl)
    where
      of_bits : (bits : ℕ) → OfBlock bs (cube_at i j k bits) → length (cube (inside bs) (pt i j k)) ≤ 12
      of_bits bits h =
          let many = ap length (cube_by_table bs (cube_at i j k bits) h) ∙ length-map (cube_table bits) (renamed (point_in (cube_at i j k bits))) in
          omega (arith, many, (case_facts bits h.byte).triangle_count, few_triangles bits)

  row_few : (j k : ℕ) → j < size_y bs - 1 → k < size_z bs - 1 → length (below (size_x bs - 1) (λ i. cube (inside bs) (pt i j k))) ≤ 12 * 95
  row_few j k lj lk =
      omega (arith, below_few 12 (size_x bs - 1) (λ i. cube (inside bs) (pt i j k)) (λ i li. cube_few i j k li lj lk), taken.good.x_size)

  layer_few : (k : ℕ) → k < size_z bs - 1 → length (below (size_y bs - 1) (λ j. below (size_x bs - 1) (λ i. cube (inside bs) (pt i j k)))) ≤ 12 * 95 * 95
  layer_few k lk =
      omega (
        arith,
        below_few (12 * 95) (size_y bs - 1) (λ j. below (size_x bs - 1) (λ i. cube (inside bs) (pt i j k))) (λ j lj. row_few j k lj lk),
        taken.good.y_size,
      )

  pub skin_few : length (skin_of bs) ≤ 12 * 95 * 95 * 95
  unfolding skin
  skin_few =
      omega (
        arith,
        below_few (12 * 95 * 95) (size_z bs - 1)
            (λ k. below (size_y bs - 1) (λ j. below (size_x bs - 1) (λ i. cube (inside bs) (pt i j k)))) layer_few,
        taken.good.z_size,
      )

  pub cubes_few : (size_x bs - 1) * (size_y bs - 1) * (size_z bs - 1) ≤ 95 * 95 * 95
  cubes_few =
      let g = taken.good in
      mul-le _ _ (95 * 95) 95 (mul-le (size_x bs - 1) (size_y bs - 1) 95 95 (omega (arith, g.x_size)) (omega (arith, g.y_size))) (omega (arith, g.z_size))
