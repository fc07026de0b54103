-- What each pass of the checker computes of the triangles, whose numbers are ns, four for each. Assumes nothing.
use Rattle.std.specs.Prelude.{◌≡◌, ℕ, zero, suc, ◌*◌, ◌<◌, ◌≤◌, not, ◌≢◌, List, [], ◌∷◌, ◌++◌, length, None, Option, ◌==◌, nat_eq, slice_index}
use Rattle.std.specs.List.{AllByRecursion}
use Rattle.theory.specs.Triangle.{Tri, one_if, side, sides, with_corner, read_from}
use Rattle.theory.specs.Faces.{sum_below}
use Rattle.theory_parts.specs.Buffer.{triangle_at, count_in, triangles_in, parts_in}
use Rattle.std.specs.Borrow.{Bor}
use Rattle.checker.specs.declared.chains.Chains.{Chains}
use Rattle.block.specs.declared.refusal.Refusal.{Refusal}
use Rattle.block.specs.declared.refusal.Refusal.TheVariants.{BadSide, BadRing}
use Rattle.checker.specs.Verdict.{Matched, RingedOnce, All, Rule}

-- the verdict of one pass: the first of n things of which something does not hold is named, or there is none
abbrev pub Checked : (ℕ → Type 0) → ℕ → (ℕ → Refusal) → Option Refusal → Type 0
Checked fine n named = Rule fine n named (λ r. r ≡ None)

-- the triangles' numbers and the heads of chains
abbrev pub numbers_of : Bor Chains → List ℕ
numbers_of k = k.now.numbers.now

abbrev pub heads_of : Bor Chains → List ℕ
heads_of k = k.now.heads.now

-- the sum of a weight over the triangles before place j
abbrev pub before : List ℕ → ℕ → (Tri ℕ → ℕ) → ℕ
before ns j h = sum_below j (λ i. h (triangle_at ns i))

-- no count is left
abbrev pub Clear : List ℕ → Type 0
Clear xs = (b : ℕ) → b < length xs → slice_index xs b ≡ 0

-- how many of the triangles before place j have the side from c to b, and how many the side from b to c, for each corner b
abbrev pub CountsOut : List ℕ → ℕ → ℕ → List ℕ → Type 0
CountsOut ns c j xs = (b : ℕ) → b < length xs → slice_index xs b ≡ before ns j (side nat_eq c b)

abbrev pub CountsIn : List ℕ → ℕ → ℕ → List ℕ → Type 0
CountsIn ns c j xs = (b : ℕ) → b < length xs → slice_index xs b ≡ before ns j (side nat_eq b c)

-- the counts at the corner c, over all triangles
pub record Counts (ns : List ℕ) (c : ℕ) (outs ins : List ℕ) : Type 0 where
  pub out : CountsOut ns c (count_in ns) outs
  pub into : CountsIn ns c (count_in ns) ins

-- each side of a triangle that runs from c is matched
abbrev pub MatchedFrom : List (Tri ℕ) → ℕ → Tri ℕ → Type 0
MatchedFrom ts c t = (d : ℕ) → 0 < side nat_eq c d t → (sides nat_eq c d ts ≡ 1) × (sides nat_eq d c ts ≡ 1)

-- r is the first triangle before `worst` that has a side from c in fault, or else `worst`
pub record Narrowed (ns : List ℕ) (c worst r : ℕ) : Type 0 where
  pub most : r ≤ worst
  pub fault : r < worst → Matched (triangles_in ns) (triangle_at ns r) → ⊥
  pub fine : All (λ i. MatchedFrom (triangles_in ns) c (triangle_at ns i)) r

-- of each triangle before place j that has c, read from c as (c, d, e), `follow` has e at d
abbrev pub Follows : List ℕ → ℕ → ℕ → List ℕ → Type 0
Follows ns c j follow = (i : ℕ) → i < j → AllByRecursion (λ p. slice_index follow p.0 ≡ p.1) (read_from nat_eq c (triangle_at ns i))

-- stands for what follows a corner where nothing does
abbrev pub nobody : ℕ
nobody = 4294967295

-- nobody is followed
abbrev pub Blank : List ℕ → Type 0
Blank follow = (d : ℕ) → d < length follow → slice_index follow d ≡ nobody

-- what follows a corner, if anything, is the place of one
abbrev pub Within : List ℕ → Type 0
Within follow = (d : ℕ) → d < length follow → slice_index follow d ≢ nobody → slice_index follow d < length follow

-- of the triangles before place j that have c, `follow` has the steps, and no two of them start at one corner
pub record Joined (ns : List ℕ) (c j : ℕ) (follow : List ℕ) : Type 0 where
  pub follows : Follows ns c j follow
  pub once : (d : ℕ) → d < length follow → before ns j (side nat_eq c d) ≡ one_if (not (slice_index follow d == nobody))
  pub within : Within follow

-- all triangles at c are joined, and there are n of them
pub record AllJoined (ns : List ℕ) (c : ℕ) (follow : List ℕ) (n : ℕ) : Type 0 where
  pub joined : Joined ns c (count_in ns) follow
  pub many : n ≡ with_corner nat_eq c (triangles_in ns)

-- where k steps lead from s
abbrev pub led : (ℕ → ℕ) → ℕ → ℕ → ℕ
led f s zero = s
led f s (suc k) = led f (f s) k

abbrev pub led_in : List ℕ → ℕ → ℕ → ℕ
led_in follow = led (λ d. slice_index follow d)

-- n steps can be taken from s, each from another corner
pub record Steps (follow : List ℕ) (s n : ℕ) : Type 0 where
  pub onward : (k : ℕ) → k < n → slice_index follow (led_in follow s k) ≢ nobody
  pub apart : (j k : ℕ) → j < k → k < n → led_in follow s j ≢ led_in follow s k

-- and they lead back
pub record Round (follow : List ℕ) (s n : ℕ) : Type 0 where
  pub steps : Steps follow s n
  pub there : led_in follow s n ≡ s

-- what is left of `follow` after n steps from s: nobody follows who was left, and the rest is as it was
pub record Cleared (follow : List ℕ) (s n : ℕ) (after : List ℕ) : Type 0 where
  pub gone : (k : ℕ) → k < n → slice_index after (led_in follow s k) ≡ nobody
  pub kept : (d : ℕ) → ((k : ℕ) → k < n → led_in follow s k ≢ d) → slice_index after d ≡ slice_index follow d

-- no two triangles run from c to one of the n corners, and whoever runs to c is run to from c
pub record Returned (ts : List (Tri ℕ)) (n c : ℕ) : Type 0 where
  pub once : (d : ℕ) → d < n → sides nat_eq c d ts ≤ 1
  pub reverse : (d : ℕ) → 0 < sides nat_eq d c ts → 0 < sides nat_eq c d ts

-- the rules on sides and on rings
abbrev pub ClosedVerdict : List ℕ → ℕ → Option Refusal → Type 0
ClosedVerdict ns corners =
    Rule (λ i. Matched (triangles_in ns) (triangle_at ns i)) (count_in ns) BadSide (Rule (RingedOnce (triangles_in ns)) corners BadRing (λ r. r ≡ None))

-- the numbers of parts and how many there are said to be, beside those of a numbering and how many it has
abbrev pub SameNumber : List ℕ → ℕ → List ℕ → ℕ → ℕ → Type 0
SameNumber ns parts qs m i = slice_index (parts_in ns ++ parts ∷ []) i ≡ slice_index (qs ++ m ∷ []) i

-- how long the parts are into which the work on a skin is cut
pub record Cut (corner_count triangle_count numbers nexts heads outs ins : ℕ) : Type 0 where
  pub numbers_are : numbers ≡ 4 * triangle_count
  pub nexts_are : nexts ≡ 3 * triangle_count
  pub heads_are : heads ≡ corner_count
  pub outs_are : outs ≡ corner_count
  pub ins_are : ins ≡ corner_count
