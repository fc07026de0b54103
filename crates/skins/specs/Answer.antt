-- What is answered to a block's bytes: its skin, or why there is none. Assumes nothing.
use Rattle.std.specs.Prelude.{◌≡◌, ℕ, List, Some, None}
use Rattle.block.specs.Scan.{refusal_of}
use Rattle.skins.specs.Whole.{Whole}
use Rattle.skins.specs.declared.Skin.{Skin}
use Rattle.skins.specs.declared.Trouble.{Trouble}
use Rattle.skins.specs.declared.Trouble.TheVariants.{Refused, NoMemory}

-- these vectors hold the skin of the block
abbrev pub SkinOf : List ℕ → Skin → Type 0
SkinOf bs k = Whole bs k.corners.items k.triangles.items k.parts.items k.made

-- the block is refused, for a fixed reason; or it is a block, and memory ran out
abbrev pub Why : List ℕ → Trouble → Type 0
Why bs (Refused e) = refusal_of bs ≡ Some e
Why bs NoMemory = refusal_of bs ≡ None
