-- The buffer that is left: its corners are the same, and its parts' numbers are those by links. Assumes nothing.
use Rattle.std.proofs.Common.{◌≡◌, ℕ, ◌+◌, ◌*◌, ◌<◌, eqb, ◌↔◌, List, map, length, get_or, sym, ap, ◌∙◌, subst₂, arith}
use mathlib.Core.Logic.Iff
use Rattle.std.specs.List.{range_with_len}
use Rattle.std.proofs.lemmas.List.FromFn.{length-map-range_with_len, get_or-map-range_with_len}
use Rattle.theory.specs.Triangle.{tri}
use Rattle.theory_parts.specs.Parts.{InTurn, Linked}
use Rattle.theory_parts.specs.Buffer.{triangle_at, part_at, count_in, triangles_in, parts_in}
use Rattle.part.specs.Taking.{InRange}
use Rattle.part.specs.Passes.{SameCorners, SameParts, Told, HoldsNumbers}
use Rattle.part.specs.Links.{first_corner, ByLinks}
use Rattle.part.proofs.Places.{in_stands}
use Rattle.part.proofs.Turns.{map_counting_same}

count_same : (ns ms : List ℕ) → length ms ≡ length ns → count_in ms ≡ count_in ns
count_same ns ms long = omega arith

pub triangles_same : (ns ms : List ℕ) → length ms ≡ length ns → SameCorners ns ms → triangles_in ms ≡ triangles_in ns
triangles_same ns ms long e =
    map_counting_same (triangle_at ms) (triangle_at ns) 0 (count_in ms)
    (λ k h i. tri (e (4 * k) (omega arith) i) (e (4 * k + 1) (omega arith) i) (e (4 * k + 2) (omega arith) i))
    ∙ ap (λ n. map (triangle_at ns) (range_with_len 0 n)) (count_same ns ms long)

-- ns are given, us have the numbers of corners, ms the numbers of parts
module _
    (ns us ms numbers : List ℕ) (us-long : length us ≡ length ns) (ms-long : length ms ≡ length ns)
    (range : InRange ns (length numbers)) (told : Told ns numbers) (holds : HoldsNumbers numbers ns us) (parts : SameParts us ms) where
  number_at : (i : ℕ) → i < count_in ns → get_or (parts_in ms) i 0 ≡ part_at ms i
  number_at i l = get_or-map-range_with_len (part_at ms) 0 (count_in ms) i i 0 (omega arith) (omega arith)

  first_below : (i : ℕ) → i < count_in ns → get_or ns (4 * i) 0 < length numbers
  first_below i l = range (4 * i) (omega arith) (omega arith)

  alike_at :
      (i j : ℕ) → i < count_in ns → j < count_in ns →
      (get_or (parts_in ms) i 0 ≡ get_or (parts_in ms) j 0) ↔ Linked eqb (triangles_in ns) (get_or ns (4 * i) 0) (get_or ns (4 * j) 0)
  alike_at i j h k =
      Iff.trans ((λ e. sym (number_at i h) ∙ e ∙ number_at j k), λ e. number_at i h ∙ e ∙ sym (number_at j k))
      (Iff.trans (parts i j (omega arith) (omega arith))
      (Iff.trans ((λ e. sym (holds i h) ∙ e ∙ holds j k), λ e. holds i h ∙ e ∙ sym (holds j k))
      (told.tells (get_or ns (4 * i) 0) (get_or ns (4 * j) 0) (first_below i h) (first_below j k))))

  pub by_links : (n : ℕ) → InTurn 0 (parts_in ms) n → ByLinks (triangles_in ns) (parts_in ms) n
  by_links n turn =
      record {
        long = length-map-range_with_len (part_at ms) 0 _ ∙ count_same ns ms ms-long ∙ sym (length-map-range_with_len (triangle_at ns) 0 _);
        alike = λ i j t u s r.
            let a = in_stands (triangle_at ns) (count_in ns) i t s in
            let b = in_stands (triangle_at ns) (count_in ns) j u r in
            subst₂ (λ v w. (get_or (parts_in ms) i 0 ≡ get_or (parts_in ms) j 0) ↔ Linked eqb (triangles_in ns) (first_corner v) (first_corner w))
            a.1 b.1 (alike_at i j a.0 b.0);
        in_turn = turn;
      }
