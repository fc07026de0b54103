-- What is asked of a skin from anywhere, when it is good, and the verdict on its bytes: the first rule in fault, and where. The rules are
-- tried one after the other, each over the whole skin. Assumes nothing.
use Rattle.std.specs.Prelude.{◌≡◌, ℕ, suc, ◌+◌, ◌*◌, ◌<◌, ◌≤◌, ◌↔◌, List, [], ◌∷◌, ◌++◌, Some, None, Option, nat_eq, slice_index}
use Rattle.std.specs.List.{AllByRecursion}
use Rattle.block.specs.declared.refusal.Refusal.{Refusal}
use Rattle.block.specs.declared.refusal.Refusal.TheVariants.{ShortBuffer, BadTriangle, BadSide, BadRing, BadPart}
use Rattle.theory.specs.Triangle.{Tri, corners, side, sides, with_corner}
use Rattle.theory.specs.Closed.{EachSideOnce, ThreeCorners, Ring}
use Rattle.theory_parts.specs.Parts.{Numbered}
use Rattle.theory_parts.specs.Buffer.{triangle_at, count_in, triangles_in, parts_in}
use Rattle.mesh.specs.Bytes.{corner_count, triangle_count, part_count, length_fault, triangles_in as numbers_in}

-- the numbers of a triangle's corners are below the number of corners, and different
pub record Sound (corner_count : ℕ) (t : Tri ℕ) : Type 0 where
  pub in_range : AllByRecursion (λ c. c < corner_count) (corners t)
  pub whole : ThreeCorners nat_eq t

-- each side of a triangle is a side of no other, and exactly one triangle has it the other way round
abbrev pub Matched : List (Tri ℕ) → Tri ℕ → Type 0
Matched ts t = (c d : ℕ) → 0 < side nat_eq c d t → (sides nat_eq c d ts ≡ 1) × (sides nat_eq d c ts ≡ 1)

-- a corner is in some triangle, and there is one ring around it
pub record RingedOnce (ts : List (Tri ℕ)) (c : ℕ) : Type 0 where
  pub used : 0 < with_corner nat_eq c ts
  pub ring : Ring nat_eq c ts

-- A GOOD SKIN: its bytes have the right length, numbers are in range and no triangle has a corner twice, each side runs once in each
-- direction, around each corner there is one ring, and parts are numbered by their first triangle and counted
pub record Good (bs : List ℕ) : Type 0 where
  pub whole : length_fault bs ≡ None
  pub sound : AllByRecursion (Sound (corner_count bs)) (triangles_in (numbers_in bs))
  pub closed : EachSideOnce nat_eq (triangles_in (numbers_in bs))
  pub ringed : (c : ℕ) → c < corner_count bs → RingedOnce (triangles_in (numbers_in bs)) c
  pub numbered : Numbered nat_eq (triangles_in (numbers_in bs)) (parts_in (numbers_in bs)) (part_count bs)

-- something holds of each number below n
abbrev pub All : (ℕ → Type 0) → ℕ → Type 0
All fine n = (i : ℕ) → i < n → fine i

-- i is the first number below n of which it does not hold
pub record First (fine : ℕ → Type 0) (n i : ℕ) : Type 0 where
  pub below : i < n
  pub before : All fine i
  pub fails : fine i → ⊥

-- one rule: the first of n things of which it does not hold is named; where it holds of all, the next rule has the word
pub data Rule (fine : ℕ → Type 0) (n : ℕ) (named : ℕ → Refusal) (next : Option Refusal → Type 0) : Option Refusal → Type 0 where
  fault : {i : ℕ} → First fine n i → Rule fine n named next (Some (named i))
  passed : {r : Option Refusal} → All fine n → next r → Rule fine n named next r

-- the parts' numbers, and behind them how many parts there are, are those of the numbering by first triangle
pub data PartsVerdict (ns : List ℕ) (parts : ℕ) : Option Refusal → Type 0 where
  by_first_triangle :
      {qs : List ℕ} {m : ℕ} {r : Option Refusal} → Numbered nat_eq (triangles_in ns) qs m →
      Rule (λ i. slice_index (parts_in ns ++ parts ∷ []) i ≡ slice_index (qs ++ m ∷ []) i) (suc (count_in ns)) BadPart (λ s. s ≡ None) r →
      PartsVerdict ns parts r

-- rule after rule, on the numbers of some triangles, four for each, with how many corners and parts there are said to be
abbrev pub RingVerdict : List ℕ → ℕ → ℕ → Option Refusal → Type 0
RingVerdict ns corners parts = Rule (RingedOnce (triangles_in ns)) corners BadRing (PartsVerdict ns parts)

abbrev pub SideVerdict : List ℕ → ℕ → ℕ → Option Refusal → Type 0
SideVerdict ns corners parts = Rule (λ i. Matched (triangles_in ns) (triangle_at ns i)) (count_in ns) BadSide (RingVerdict ns corners parts)

abbrev pub TriangleVerdict : List ℕ → ℕ → ℕ → Option Refusal → Type 0
TriangleVerdict ns corners parts = Rule (λ i. Sound corners (triangle_at ns i)) (count_in ns) BadTriangle (SideVerdict ns corners parts)

abbrev pub RulesVerdict : List ℕ → Option Refusal → Type 0
RulesVerdict bs = TriangleVerdict (numbers_in bs) (corner_count bs) (part_count bs)

-- THE VERDICT on a skin's bytes; None where they are accepted
pub data Verdict (bs : List ℕ) : Option Refusal → Type 0 where
  wrong_length : {e : Refusal} → length_fault bs ≡ Some e → Verdict bs (Some e)
  right_length : {r : Option Refusal} → length_fault bs ≡ None → RulesVerdict bs r → Verdict bs r

-- how much work a skin with so many corners and triangles needs: three numbers for each corner, and seven for each triangle
abbrev pub work_for : ℕ → ℕ → ℕ
work_for corners triangles = 3 * corners + 7 * triangles

abbrev pub Enough : List ℕ → ℕ → Type 0
Enough bs room = work_for (corner_count bs) (triangle_count bs) ≤ room

-- WHAT IS ANSWERED with so much work: the verdict on the bytes, unless they have the right length and the work does not suffice
pub data Answer (bs : List ℕ) (room : ℕ) : Option Refusal → Type 0 where
  wrong_length : {e : Refusal} → length_fault bs ≡ Some e → Answer bs room (Some e)
  too_little : length_fault bs ≡ None → (Enough bs room → ⊥) → Answer bs room (Some (ShortBuffer 0))
  told : {r : Option Refusal} → length_fault bs ≡ None → Enough bs room → Verdict bs r → Answer bs room r

-- there is at most one verdict on any bytes
abbrev pub OneVerdict : Type 0
OneVerdict = (bs : List ℕ) (r s : Option Refusal) → Verdict bs r → Verdict bs s → r ≡ s

-- and so at most one answer
abbrev pub OneAnswer : Type 0
OneAnswer = (bs : List ℕ) (room : ℕ) (r s : Option Refusal) → Answer bs room r → Answer bs room s → r ≡ s

-- a skin is accepted exactly if it is good
abbrev pub AcceptedIfGood : Type 0
AcceptedIfGood = (bs : List ℕ) → Verdict bs None ↔ Good bs
