-- A row of points stands in one part of the bytes, so what is read of it there says who is inside; and from the faces between the cubes of
-- a row follow their bits. Assumes nothing.
use Rattle.std.proofs.Common.{◌≡◌, ℕ, zero, suc, ◌+◌, ◌-◌, ◌*◌, ◌<◌, ◌≤◌, Bool, true, false, ◌&&◌, leb, List, [], ◌∷◌, length, get_or, take, drop, sym, refl, ap, ◌∙◌, ap₂, add-one, arith, length-drop}
use mir.Val.{bool_byte}
use lib.Bits.{bit_or, or_add_and}
use Rattle.std.proofs.lemmas.Nat.{and_le_l, and_le_r}
use Rattle.std.specs.List.{fold}
use Rattle.std.proofs.lemmas.List.{length-take-le, get_or-take, get_or-drop}
use Rattle.std.proofs.lemmas.Bool.{and_from, lt-ltb}
use Rattle.theory.specs.Grid.{Point, pt}
use Rattle.theory.specs.Triangle.{one_if}
use Rattle.block.specs.Scan.{size_x, size_y, size_z, threshold, value_of, inside, Taken}
use Rattle.grid.proofs.Undone.{points_numbered}
use Rattle.triangle.specs.Cubes.{face_bits}
use Rattle.triangle.specs.Rows.{Line}

module _ (bs : List ℕ) (taken : Taken bs) (y z : ℕ) (ly : y < size_y bs) (lz : z < size_z bs) where
  abbrev first : ℕ
  first = 4 + size_x bs * (y + size_y bs * z)

  pub line_end : first + size_x bs ≤ length bs
  line_end =
      let last = points_numbered.below (size_x bs) (size_y bs) (size_z bs) (pt (size_x bs - 1) y z) (omega (arith, taken.good.x_size), ly, lz) in
      omega (arith, taken.good.whole, taken.good.x_size)

  pub line_of : Line bs y z (take (first + size_x bs - first) (drop first bs))
  line_of =
      let n : first + size_x bs - first ≡ size_x bs = omega arith in
      record {
        long = length-take-le _ (drop first bs) (omega (arith, line_end, length-drop first bs)) ∙ n;
        value = λ x l. get_or-take _ (drop first bs) x 0 (omega arith) ∙ get_or-drop first bs x 0 ∙ ap (λ i. get_or bs i 0) (omega arith);
      }

  pub inside_line :
      (t x : ℕ) (values : List ℕ) → t ≡ threshold bs → x < size_x bs → Line bs y z values →
      leb t (get_or values x 0) ≡ inside bs (pt x y z)
  unfolding inside
  inside_line t x values et lx h =
      ap₂ leb et (h.value x lx)
      ∙ sym (ap (λ w. w && leb (threshold bs) (value_of bs (pt x y z)))
      (and_from _ _ (lt-ltb x (size_x bs) lx) (and_from _ _ (lt-ltb y (size_y bs) ly) (lt-ltb z (size_z bs) lz))))

byte_of_test : (b : Bool) → bool_byte b ≡ one_if b
byte_of_test true = refl
byte_of_test false = refl

-- four tests as a face, as the code adds them up
pub face_of :
    (f : Point → Bool) (x y z : ℕ) (a b c d : Bool) →
    a ≡ f (pt x y z) → b ≡ f (pt x (y + 1) z) → c ≡ f (pt x y (z + 1)) → d ≡ f (pt x (y + 1) (z + 1)) →
    2 * bool_byte a + 8 * bool_byte b + 32 * bool_byte c + 128 * bool_byte d ≡ face_bits f (pt x y z)
face_of f x y z a b c d ea eb ec ed =
    let ia = byte_of_test a ∙ ap one_if ea in
    let ib = byte_of_test b ∙ ap one_if eb ∙ ap (λ n. one_if (f (pt x n z))) (add-one y) in
    let ic = byte_of_test c ∙ ap one_if ec ∙ ap (λ n. one_if (f (pt x y n))) (add-one z) in
    let id = byte_of_test d ∙ ap one_if ed ∙ ap₂ (λ m n. one_if (f (pt x m n))) (add-one y) (add-one z) in
    omega arith

-- no number of a list has a bit
pub none_set : (xs : List ℕ) → fold bit_or 0 xs ≡ 0 → (i : ℕ) → get_or xs i 0 ≡ 0
none_set xs e = (from 0 xs e).1
  where
    from : (a : ℕ) (xs : List ℕ) → fold bit_or a xs ≡ 0 → (a ≡ 0) × ((i : ℕ) → get_or xs i 0 ≡ 0)
    from a [] e = (e, λ i. refl)
    from a (x ∷ xs) e =
        let rest = from (bit_or a x) xs e in
        let both : (a ≡ 0) × (x ≡ 0) = (omega (arith, rest.0, or_add_and a x, and_le_r a x), omega (arith, rest.0, or_add_and a x, and_le_l a x)) in
        (both.0, at x xs both.1 rest.1)
      where
        at : (x : ℕ) (xs : List ℕ) → x ≡ 0 → ((i : ℕ) → get_or xs i 0 ≡ 0) → (i : ℕ) → get_or (x ∷ xs) i 0 ≡ 0
        at x xs e r zero = e
        at x xs e r (suc i) = r i
