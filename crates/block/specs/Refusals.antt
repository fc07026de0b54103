-- The number and the place of each refusal, and the text that is printed of one. Assumes nothing.
use Rattle.std.specs.Prelude.{ℕ, List, ◌++◌, codes, decimal}
use Rattle.block.specs.declared.refusal.Refusal.{Refusal}
use Rattle.block.specs.declared.refusal.Refusal.TheVariants.{WrongLength, WrongSize, OpenBorder, ShortBuffer, BadTriangle, BadSide, BadRing, BadPart}

abbrev pub number_of : Refusal → ℕ
number_of (WrongLength at) = 1
number_of (WrongSize at) = 2
number_of (OpenBorder at) = 3
number_of (ShortBuffer at) = 4
number_of (BadTriangle at) = 5
number_of (BadSide at) = 6
number_of (BadRing at) = 7
number_of (BadPart at) = 8

abbrev pub place_of : Refusal → ℕ
place_of (WrongLength at) = at
place_of (WrongSize at) = at
place_of (OpenBorder at) = at
place_of (ShortBuffer at) = at
place_of (BadTriangle at) = at
place_of (BadSide at) = at
place_of (BadRing at) = at
place_of (BadPart at) = at

-- refused N at P
abbrev pub text_of : Refusal → List ℕ
text_of r = codes "refused " ++ (decimal (number_of r) ++ (codes " at " ++ decimal (place_of r)))
