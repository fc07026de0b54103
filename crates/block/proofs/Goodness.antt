-- A block is taken exactly if it is good, and whatever is inside a good block lies strictly within its border. Assumes nothing.
use Rattle.std.proofs.Common.{◌≡◌, ℕ, zero, suc, ◌+◌, ◌-◌, ◌*◌, ◌<◌, ◌≤◌, Bool, true, false, cond, ◌&&◌, eqb, ltb, leb, ◌↔◌, List, [], ◌∷◌, length, Some, None, Option, sym, refl, ap, ◌∙◌, ⊎_elim, mul-le-mul_left, mul-suc, arith}
use Rattle.std.proofs.lemmas.Bool.{and_parts, and_from, and_cases, and_left, and_right, or_parts, leb-true, leb-false, ltb-true, ltb-false, eqb-false, lt-leb, le-leb, le-ltb, lt-ltb, ne_eqb, cases_Bool, cases_lt, both_ways}
use Rattle.theory.specs.Grid.{Point, pt, Border}
use Rattle.theory.specs.Skin.{below}
use Rattle.block.specs.declared.refusal.Refusal.{Refusal}
use Rattle.block.specs.declared.refusal.Refusal.TheVariants.{WrongLength, WrongSize, OpenBorder}
use Rattle.block.specs.Scan.{size_x, size_y, size_z, threshold, byte_of, byte_end, value_of, within, inside, at_end, on_border, row, layer, points, fault_at, first_of, faults, in_range, size_fault, header_fault, excess, refusal_of, Good, Taken, TakenIfGood}
use Rattle.block.proofs.Faults.{neither, faults_more, faults_alone, row_length, layer_length}

-- a refusal under a test: there is none exactly if the test fails, and nothing else is wrong
refused_if : (b : Bool) (r : Refusal) (o : Option Refusal) → (cond b (Some r) o ≡ None) ↔ ((b ≡ false) × (o ≡ None))
refused_if true r o = (λ e. (cc, cc), λ e. absurd (both_ways true e.0 refl))
refused_if false r o = (λ e. (refl, e), λ e. e.1)

refused_unless : (b : Bool) (r : Refusal) → (cond b None (Some r) ≡ None) ↔ (b ≡ true)
refused_unless true r = (λ e. refl, λ e. refl)
refused_unless false r = (λ e. cc, λ e. absurd (both_ways false refl e))

-- no fault in n lists of m points each: none in any of them
faults_each : (bs : List ℕ) (m n : ℕ) (h : ℕ → List Point) (i : ℕ) → ((k : ℕ) → length (h k) ≡ m) → (faults bs (below n h) i ≡ None) ↔ ((k : ℕ) → k < n → faults bs (h k) (i + m * k) ≡ None)
faults_each bs m zero h i long = (λ e k l. absurd (omega arith), λ e. refl)
faults_each bs m (suc n) h i long =
    let more = faults_more bs m n h i (i + m * n) long refl in
    let split = neither (faults bs (below n h) i) (faults bs (h n) (i + m * n)) in
    let before = faults_each bs m n h i long in (
      λ e k l. ⊎_elim (λ less. before.0 (split.0 (sym more ∙ e)).0 k less) (λ last. let same : n ≡ k = omega arith in ap (λ j. faults bs (h j) (i + m * j)) (sym same) ∙ (split.0 (sym more ∙ e)).1) (cases_lt k n),
      λ e. more ∙ split.1 (before.1 (λ k l. e k (omega arith)), e n (omega arith)),
    )

-- in order, at its own byte
abbrev Fine : List ℕ → Point → Type 0
Fine bs p = fault_at bs p (byte_of bs p) ≡ None

points_fine : (bs : List ℕ) → (faults bs (points bs) 4 ≡ None) ↔ ((x y z : ℕ) → x < size_x bs → y < size_y bs → z < size_z bs → Fine bs (pt x y z))
points_fine bs = (
  λ e x y z lx ly lz.
      let in-layer = layers.0 e z lz in
      let in_row = (rows z).0 in-layer y ly in
      let here = (spots y z).0 in_row x lx in
      ap (λ i. fault_at bs (pt x y z) i) (place x y z) ∙ sym (faults_alone bs (pt x y z) _) ∙ here,
  λ fine.
      layers.1
      (λ z lz.
      (rows z).1
      (λ y ly.
      (spots y z).1 (λ x lx. faults_alone bs (pt x y z) _ ∙ ap (λ i. fault_at bs (pt x y z) i) (sym (place x y z)) ∙ fine x y z lx ly lz))),
)
  where
    a : ℕ
    a = size_x bs

    b : ℕ
    b = size_y bs

    place : (x y z : ℕ) → byte_of bs (pt x y z) ≡ 4 + a * b * z + a * y + 1 * x
    place x y z = omega arith

    layers : (faults bs (points bs) 4 ≡ None) ↔ ((z : ℕ) → z < size_z bs → faults bs (layer a b z) (4 + a * b * z) ≡ None)
    layers = faults_each bs (a * b) (size_z bs) (layer a b) 4 (layer_length a b)

    rows : (z : ℕ) → (faults bs (layer a b z) (4 + a * b * z) ≡ None) ↔ ((y : ℕ) → y < b → faults bs (row a y z) (4 + a * b * z + a * y) ≡ None)
    rows z = faults_each bs a b (λ y. row a y z) (4 + a * b * z) (λ y. row_length a y z)

    spots : (y z : ℕ) → (faults bs (row a y z) (4 + a * b * z + a * y) ≡ None) ↔ ((x : ℕ) → x < a → faults bs (pt x y z ∷ []) (4 + a * b * z + a * y + 1 * x) ≡ None)
    spots y z = faults_each bs 1 a (λ x. pt x y z ∷ []) (4 + a * b * z + a * y) (λ x. refl)

-- the k-th row of n, and a place in it
row_below : (x a k n : ℕ) → x < a → k < n → x + a * k < a * n
row_below x a k n lx lk = omega (arith, mul-le-mul_left a lk, mul-suc a k)

byte_below : (bs : List ℕ) (x y z : ℕ) → x < size_x bs → y < size_y bs → z < size_z bs → byte_of bs (pt x y z) < byte_end bs
byte_below bs x y z lx ly lz =
    let h = row_below x (size_x bs) (y + size_y bs * z) (size_y bs * size_z bs) lx (row_below y (size_y bs) z (size_z bs) ly lz) in
    omega arith

within_parts : (bs : List ℕ) (x y z : ℕ) → within bs (pt x y z) ≡ true → (x < size_x bs) × (y < size_y bs) × (z < size_z bs)
within_parts bs x y z e =
    let p = and_parts (ltb x (size_x bs)) (ltb y (size_y bs) && ltb z (size_z bs)) e in
    let q = and_parts (ltb y (size_y bs)) (ltb z (size_z bs)) p.1 in
    (ltb-true x (size_x bs) p.0, ltb-true y (size_y bs) q.0, ltb-true z (size_z bs) q.1)

fine_parts : (bs : List ℕ) (p : Point) → Fine bs p ↔ ((byte_of bs p < length bs) × ((on_border bs p && leb (threshold bs) (value_of bs p)) ≡ false))
fine_parts bs p =
    let short = refused_if (leb (length bs) (byte_of bs p)) (WrongLength (byte_of bs p)) _ in
    let open-here = refused_if (on_border bs p && leb (threshold bs) (value_of bs p)) (OpenBorder (byte_of bs p)) None in (
      λ e. (leb-false (length bs) (byte_of bs p) (short.0 e).0, (open-here.0 (short.0 e).1).0),
      λ e. short.1 (lt-leb (length bs) (byte_of bs p) e.0, open-here.1 (e.1, refl)),
    )

-- what the header says where it is in order
pub record Header (bs : List ℕ) : Type 0 where
  pub there : 4 ≤ length bs
  pub x_size : (2 ≤ size_x bs) × (size_x bs ≤ 96)
  pub y_size : (2 ≤ size_y bs) × (size_y bs ≤ 96)
  pub z_size : (2 ≤ size_z bs) × (size_z bs ≤ 96)
  pub above_zero : 0 < threshold bs

range_parts : (n i : ℕ) → (size_fault n i ≡ None) ↔ ((2 ≤ n) × (n ≤ 96))
range_parts n i = (
  λ e. let p = and_parts (leb 2 n) (leb n 96) ((refused_unless (in_range n) (WrongSize i)).0 e) in (leb-true 2 n p.0, leb-true n 96 p.1),
  λ e. (refused_unless (in_range n) (WrongSize i)).1 (and_from _ _ (le-leb 2 n e.0) (le-leb n 96 e.1)),
)

header_parts : (bs : List ℕ) → (header_fault bs ≡ None) ↔ Header bs
header_parts bs = (
  λ e.
      let long = there.0 e in
      let x = (neither (size_fault (size_x bs) 0) _).0 long.1 in
      let y = (neither (size_fault (size_y bs) 1) _).0 x.1 in
      let z = (neither (size_fault (size_z bs) 2) _).0 y.1 in
      let t = eqb-false (threshold bs) 0 (zero_t.0 z.1).0 in
      record {
        there = ltb-false (length bs) 4 long.0;
        x_size = (range_parts _ 0).0 x.0;
        y_size = (range_parts _ 1).0 y.0;
        z_size = (range_parts _ 2).0 z.0;
        above_zero = omega arith;
      },
  λ h.
      let t : threshold bs ≡ 0 → ⊥ = λ e. omega (arith, h.above_zero) in
      there.1 (
        le-ltb (length bs) 4 h.there,
        (neither _ _).1 ((range_parts _ 0).1 h.x_size, (neither _ _).1 ((range_parts _ 1).1 h.y_size, (neither _ _).1 ((range_parts _ 2).1 h.z_size, zero_t.1 (ne_eqb (threshold bs) 0 t, refl)))),
      ),
)
  where
    zero_t : (cond (eqb (threshold bs) 0) (Some (WrongSize 3)) None ≡ None) ↔ ((eqb (threshold bs) 0 ≡ false) × (◌≡◌ {A = Option Refusal} None None))
    zero_t = refused_if (eqb (threshold bs) 0) (WrongSize 3) None

    sizes : Option Refusal
    sizes =
        first_of (size_fault (size_x bs) 0) (first_of (size_fault (size_y bs) 1) (first_of (size_fault (size_z bs) 2) (cond (eqb (threshold bs) 0) (Some (WrongSize 3)) None)))

    there : (cond (ltb (length bs) 4) (Some (WrongLength (length bs))) sizes ≡ None) ↔ ((ltb (length bs) 4 ≡ false) × (sizes ≡ None))
    there = refused_if (ltb (length bs) 4) (WrongLength (length bs)) sizes

-- the last value's place is the last before the end
last_byte : (bs : List ℕ) → Header bs → byte_of bs (pt (size_x bs - 1) (size_y bs - 1) (size_z bs - 1)) + 1 ≡ byte_end bs
last_byte bs h = ends (size_x bs) (size_y bs) (size_z bs) h.x_size.0 h.y_size.0 h.z_size.0
  where
    one_less : (n : ℕ) → suc n - 1 ≡ n
    one_less n = omega arith

    ends : (a b c : ℕ) → 2 ≤ a → 2 ≤ b → 2 ≤ c → 4 + (a - 1 + a * (b - 1 + b * (c - 1))) + 1 ≡ 4 + a * (b * c)
    ends (suc a) (suc b) (suc c) la lb lc = simp one_less (omega arith)
    ends zero b c la lb lc = absurd (omega arith)
    ends (suc a) zero c la lb lc = absurd (omega arith)
    ends (suc a) (suc b) zero la lb lc = absurd (omega arith)

pub taken_if_good : TakenIfGood
unfolding refusal_of
taken_if_good bs = (
  λ e.
      let first = (neither (header_fault bs) _).0 e in
      let then = (neither (faults bs (points bs) 4) (excess bs)).0 first.1 in
      let h = (header_parts bs).0 first.0 in
      let fine = (points_fine bs).0 then.0 in
      let long = ltb-false (byte_end bs) (length bs) ((refused_if (ltb (byte_end bs) (length bs)) (WrongLength (byte_end bs)) None).0 then.1).0 in
      let last : byte_of bs (pt (size_x bs - 1) (size_y bs - 1) (size_z bs - 1)) < length bs = ((fine_parts bs (pt (size_x bs - 1) (size_y bs - 1) (size_z bs - 1))).0 (fine (size_x bs - 1) (size_y bs - 1) (size_z bs - 1) (omega (arith, h)) (omega (arith, h)) (omega (arith, h)))).0 in
      record {
        x_size = h.x_size;
        y_size = h.y_size;
        z_size = h.z_size;
        above_zero = h.above_zero;
        whole = omega (arith, last_byte bs h);
        closed = border bs fine;
      },
  λ g.
      let h : Header bs = record { there = omega (arith, g.whole); x_size = g.x_size; y_size = g.y_size; z_size = g.z_size; above_zero = g.above_zero } in
      (neither _ _).1 (
        (header_parts bs).1 h,
        (neither _ _).1 ((points_fine bs).1 (closed bs g), (refused_if (ltb (byte_end bs) (length bs)) (WrongLength (byte_end bs)) None).1 (le-ltb (byte_end bs) (length bs) (omega (arith, g.whole)), refl)),
      ),
)
  where
    border : (bs : List ℕ) → ((x y z : ℕ) → x < size_x bs → y < size_y bs → z < size_z bs → Fine bs (pt x y z)) → (p : Point) → within bs p ≡ true → on_border bs p ≡ true → value_of bs p < threshold bs
    border bs fine (pt x y z) w b =
        let l = within_parts bs x y z w in
        let f = ((fine_parts bs (pt x y z)).0 (fine x y z l.0 l.1 l.2)).1 in
        leb-false (threshold bs) (value_of bs (pt x y z)) (⊎_elim (λ off. absurd (both_ways _ off b)) (λ low. low) (and_cases _ _ f))

    closed : (bs : List ℕ) → Good bs → (x y z : ℕ) → x < size_x bs → y < size_y bs → z < size_z bs → Fine bs (pt x y z)
    closed bs g x y z lx ly lz =
        let w : within bs (pt x y z) ≡ true = and_from _ _ (lt-ltb x (size_x bs) lx) (and_from _ _ (lt-ltb y (size_y bs) ly) (lt-ltb z (size_z bs) lz)) in
        (fine_parts bs (pt x y z)).1 (
          omega (arith, byte_below bs x y z lx ly lz, g.whole),
          ⊎_elim
              (λ on. and_right _ _ (lt-leb (threshold bs) (value_of bs (pt x y z)) (g.closed (pt x y z) w on)))
              (λ off. and_left _ _ off)
              (cases_Bool (on_border bs (pt x y z))),
        )

-- whatever is inside a good block lies strictly between its first and last points
pub good_border : (bs : List ℕ) → Good bs → Border (inside bs) (size_x bs - 1) (size_y bs - 1) (size_z bs - 1)
unfolding inside
good_border bs g (pt x y z) e =
    let p = and_parts (within bs (pt x y z)) (leb (threshold bs) (value_of bs (pt x y z))) e in
    let l = within_parts bs x y z p.0 in
    let high = leb-true (threshold bs) (value_of bs (pt x y z)) p.1 in
    let off : on_border bs (pt x y z) ≡ false = ⊎_elim (λ on. absurd (omega (arith, g.closed (pt x y z) p.0 on, high))) (λ f. f) (cases_Bool (on_border bs (pt x y z))) in
    let ex = or_parts (at_end x (size_x bs)) _ off in
    let ey = or_parts (at_end y (size_y bs)) (at_end z (size_z bs)) ex.1 in
    (amid x (size_x bs) l.0 ex.0, amid y (size_y bs) l.1 ey.0, amid z (size_z bs) l.2 ey.1)
  where
    amid : (i n : ℕ) → i < n → at_end i n ≡ false → (0 < i) × (i < n - 1)
    amid i n l e =
        let p = or_parts (eqb i 0) (eqb (i + 1) n) e in
        let low = eqb-false i 0 p.0 in
        let high = eqb-false (i + 1) n p.1 in
        (omega arith, omega arith)

pub taken : (bs : List ℕ) → refusal_of bs ≡ None → Taken bs
taken bs e = let g = (taken_if_good bs).0 e in record { verdict = e; good = g; border = good_border bs g }
