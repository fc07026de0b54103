-- A short list that has room for so many items. Assumes nothing: these are definitions.
use Rattle.std.specs.Prelude.{ℕ, cond, List, [], ◌∷◌, ◌++◌, length, nat_lt}

-- one item more, if there is room
abbrev pub pushed : {A : Type 0} → ℕ → List A → A → List A
pushed n xs x = cond (nat_lt (length xs) n) (xs ++ x ∷ []) xs
