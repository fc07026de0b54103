-- A forest over the numbers below a length: a list that holds, for each number, its parent. A root is its own parent; two numbers are in
-- one tree exactly if links connect them. Assumes nothing.
use Rattle.std.specs.Prelude.{◌≡◌, ℕ, ◌<◌, ◌≤◌, ◌⊎◌, ◌↔◌, List, length, slice_index}
use Rattle.theory_parts.specs.Parts.{Connected}

abbrev pub parent : List ℕ → ℕ → ℕ
parent p a = slice_index p a

-- no parent is above its child, so every way up ends
abbrev pub Forest : List ℕ → Type 0
Forest p = (a : ℕ) → a < length p → parent p a ≤ a

-- every number is a root
abbrev pub Alone : List ℕ → Type 0
Alone p = (a : ℕ) → a < length p → parent p a ≡ a

-- b is the parent of a
pub record Link (p : List ℕ) (a b : ℕ) : Type 0 where
  pub below : a < length p
  pub is : parent p a ≡ b

-- R, and a step from a to b
abbrev pub Plus : (ℕ → ℕ → Type 0) → ℕ → ℕ → ℕ → ℕ → Type 0
Plus R a b c d = R c d ⊎ ((c ≡ a) × (d ≡ b))

-- two relations connect the same numbers: each step of the one is a way of the other
pub record Alike (R S : ℕ → ℕ → Type 0) : Type 0 where
  pub there : (a b : ℕ) → R a b → Connected S a b
  pub back : (a b : ℕ) → S a b → Connected R a b

-- numbers of a forest's trees: two places have one number exactly if links connect them
pub record Tells (p numbers : List ℕ) : Type 0 where
  pub below : (a : ℕ) → a < length p → slice_index numbers a < length p
  pub tells : (a b : ℕ) → a < length p → b < length p → (slice_index numbers a ≡ slice_index numbers b) ↔ Connected (Link p) a b

-- m is the least of three parents
pub record LeastParent (p : List ℕ) (a b c m : ℕ) : Type 0 where
  pub first : m ≤ parent p a
  pub second : m ≤ parent p b
  pub third : m ≤ parent p c
  pub one : (m ≡ parent p a) ⊎ ((m ≡ parent p b) ⊎ (m ≡ parent p c))
