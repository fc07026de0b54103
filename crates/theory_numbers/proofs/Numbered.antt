-- The corners of a skin stand in its list of corners, each once, and its triangles by their numbers are as closed as it is.
-- Assumes nothing.
use Rattle.std.proofs.Common.{◌≡◌, ℕ, ◌<◌, ◌≤◌, Bool, eqb, ◌⊎◌, ◌↔◌, List, length, get_or, sym, refl, subst, inl, inr, arith}
use Rattle.std.proofs.ByRecursion.{All-weaker}
use Rattle.std.proofs.lemmas.Bool.{cases_lt, eqb-true, eq-eqb, ne_eqb}
use Rattle.std.specs.List.{flat_map}
use Rattle.theory.specs.Grid.{Point, pt, Border}
use Rattle.theory.specs.Triangle.{edge, with_corner, times, corners}
use Rattle.theory.specs.Skin.{Corner, Triangle, same, skin}
use Rattle.theory.specs.Closed.{OneRing, Ring}
use Rattle.theory.proofs.Same.{same_true, same_refl}
use Rattle.theory.proofs.Closing.{rings_from_walks, closed_from_rings}
use Rattle.theory.proofs.Rings.{closed_walks}
use Rattle.theory.proofs.Whole.{whole_triangles}
use Rattle.theory_numbers.specs.Numbers.{index_of, corners_met, corner_list, numbered, NumberedOnce, NumbersClosed}
use Rattle.theory.proofs.Sums.{every_parts}
use Rattle.theory_numbers.proofs.Firsts.{with_corner_times, times_firsts, every_stands}
use Rattle.theory_numbers.proofs.Firsts.{index_below, at_index, times_at, index_at, index_one_to_one}
use Rattle.theory_numbers.proofs.Kept.{AllCorners, Missed, whole_mapped, with_corner_mapped, with_corner_missed, closed_mapped, ring_mapped}

pub met_once : (c : Corner) (ts : List Triangle) → times same c (corners_met ts) ≤ 1
met_once c ts = omega (arith, times_firsts same same_true same_refl c (flat_map corners ts))

-- the corners met are those that some triangle has
pub met_had : (c : Corner) (ts : List Triangle) → (0 < times same c (corners_met ts)) ↔ (0 < with_corner same c ts)
met_had c ts =
    let a = times_firsts same same_true same_refl c (flat_map corners ts) in
    let b = with_corner_times same c ts in
    (λ h. omega arith, λ h. omega arith)

-- each corner of the triangles is met
pub all_met : (ts : List Triangle) → AllCorners (λ c. 0 < times same c (corners_met ts)) ts
all_met ts =
    every_parts _ corners ts
    (All-weaker _ _ (λ c h. omega (arith, times_firsts same same_true same_refl c (flat_map corners ts))) _
    (every_stands same same_true same_refl (flat_map corners ts)))

pub numbered_once : (f : Point → Bool) (x y z : ℕ) → NumberedOnce f x y z
numbered_once f x y z =
    record {
      once = λ c. met_once c (skin f x y z);
      listed = λ c. met_had c (skin f x y z);
      number_below = λ c h. index_below same same_true same_refl c cs ((met_had c (skin f x y z)).1 h);
      corner_at = λ c other h. at_index same same_true same_refl c other cs ((met_had c (skin f x y z)).1 h);
      number_at = λ n other. index_at same same_true same_refl n other cs (λ c. met_once c (skin f x y z));
    }
  where
    cs : List Corner
    cs = corner_list f x y z

one_ring : OneRing
one_ring = rings_from_walks closed_walks

module _ (f : Point → Bool) (x y z : ℕ) where
  abbrev Stands : Corner → Type 0
  Stands c = 0 < times same c (corner_list f x y z)

  abbrev number : Corner → ℕ
  number c = index_of same c (corner_list f x y z)

  one_to_one : (a b : Corner) → Stands a → Stands b → eqb (number a) (number b) ≡ same a b
  one_to_one = index_one_to_one same same_true same_refl (corner_list f x y z)

  missed : (n : ℕ) → length (corner_list f x y z) ≤ n → Missed eqb number Stands n
  missed n l a h = ne_eqb _ _ (λ e. omega (arith, index_below same same_true same_refl a (corner_list f x y z) h))

  -- the corner with a number
  numbers : (n : ℕ) → n < length (corner_list f x y z) → (c : Corner) × Stands c × (number c ≡ n)
  numbers n l =
      let some = edge (pt 0 0 0) (pt 0 0 0) in (
        get_or (corner_list f x y z) n some,
        times_at same same_true same_refl n some (corner_list f x y z) l,
        index_at same same_true same_refl n some (corner_list f x y z) (λ c. met_once c (skin f x y z)) l,
      )

  reached : (n : ℕ) → ((c : Corner) × Stands c × (number c ≡ n)) ⊎ Missed eqb number Stands n
  reached n = elim (cases_lt n (length (corner_list f x y z))) [ inl l ↦ inl (numbers n l) | inr l ↦ inr (missed n l) ]

  pub numbers_closed : Border f x y z → NumbersClosed f x y z
  numbers_closed out =
      let ts = skin f x y z in
      let all = all_met ts in
      let once = closed_from_rings one_ring f x y z out in
      record {
        closed = closed_mapped same eqb number Stands one_to_one reached ts all once;
        whole = whole_mapped same eqb number Stands one_to_one ts all (whole_triangles f x y z);
        occurs = λ n. (
          λ h. elim (cases_lt n (length (corner_list f x y z)))
              [ inl l ↦ l | inr l ↦ absurd (omega (arith, with_corner_missed same eqb number Stands one_to_one n (missed n l) ts all)) ],
          λ l. let c = numbers n l in
              subst (λ n. 0 < with_corner eqb n (numbered f x y z)) c.2
              (subst (λ n. 0 < n) (sym (with_corner_mapped same eqb number Stands one_to_one c.0 c.1 ts all))
              ((met_had c.0 ts).0 c.1)),
        );
        ring = λ n l. let c = numbers n l in
            subst (λ n. Ring eqb n (numbered f x y z)) c.2
            (ring_mapped same eqb number Stands one_to_one reached ts all eqb-true (λ n. eq-eqb n n refl) once (whole_triangles f x y z)
            c.0 c.1 (one_ring f x y z out c.0 ((met_had c.0 ts).0 c.1)));
      }
