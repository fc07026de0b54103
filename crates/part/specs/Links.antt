-- The numbers of the parts by linked corners: what is written, that it is one numbering, and that where there are rings it is the
-- numbering of the parts by common sides. Assumes nothing.
use Rattle.std.specs.Prelude.{◌≡◌, ℕ, Bool, ◌↔◌, List, length, nat_eq, slice_index}
use Rattle.theory.specs.Grid.{Point, Border}
use Rattle.theory.specs.Triangle.{Tri, tri}
use Rattle.theory_numbers.specs.Numbers.{numbered}
use Rattle.theory_parts.specs.Parts.{Stands, InTurn, Linked, Ringed, Numbered}
use Rattle.theory_parts.specs.Buffer.{triangles_in, parts_in}
use Rattle.part.specs.Taking.{Takes}

abbrev pub first_corner : Tri ℕ → ℕ
first_corner (tri a b c) = a

-- ps are the numbers of the triangles' parts, and n is how many parts there are: two triangles have one number exactly if their corners
-- are linked by triangles, and numbers are given in turn
pub record ByLinks (ts : List (Tri ℕ)) (ps : List ℕ) (n : ℕ) : Type 0 where
  pub long : length ps ≡ length ts
  pub alike :
      (i j : ℕ) (t u : Tri ℕ) → Stands ts i t → Stands ts j u →
      (slice_index ps i ≡ slice_index ps j) ↔ Linked nat_eq ts (first_corner t) (first_corner u)
  pub in_turn : InTurn 0 ps n

-- a refusal: what is given is not as it is taken, and both buffers are as they were
pub record Refused (ns : List ℕ) (corners : ℕ) (work ms after : List ℕ) : Type 0 where
  pub fault : Takes ns corners work → ⊥
  pub same_triangles : ms ≡ ns
  pub same_work : after ≡ work

-- n parts: the corners are as they were, and each triangle has its part's number
pub record Written (ns : List ℕ) (corners : ℕ) (work ms : List ℕ) (n : ℕ) : Type 0 where
  pub taken : Takes ns corners work
  pub same_corners : triangles_in ms ≡ triangles_in ns
  pub numbered : ByLinks (triangles_in ns) (parts_in ms) n

-- ONE NUMBERING: the triangles alone say which part has which number
abbrev pub OnlyByLinks : Type 0
OnlyByLinks = (ts : List (Tri ℕ)) (ps qs : List ℕ) (m n : ℕ) → ByLinks ts ps m → ByLinks ts qs n → (ps ≡ qs) × (m ≡ n)

-- THESE ARE THE PARTS: where there is one ring around each corner, parts by linked corners are parts by common sides
abbrev pub LinksNumberParts : Type 0
LinksNumberParts =
    (ts : List (Tri ℕ)) (ps : List ℕ) (n : ℕ) → Ringed nat_eq ts → ByLinks ts ps n → Numbered nat_eq ts ps n

-- THE PARTS OF A SKIN: of the triangles of any skin, by their corners' numbers, those are the parts
abbrev pub SkinsNumbered : Type 0
SkinsNumbered =
    (f : Point → Bool) (x y z : ℕ) → Border f x y z →
    (ps : List ℕ) (n : ℕ) → ByLinks (numbered f x y z) ps n → Numbered nat_eq (numbered f x y z) ps n
