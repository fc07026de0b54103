-- The text that is printed of a part. Assumes nothing.
use Rattle.std.specs.Prelude.{ℕ, List, ◌++◌, codes, decimal}
use Rattle.std.specs.Fmt.{signed_decimal}
use Rattle.volume.specs.declared.Part.{Part}
use Rattle.volume.specs.declared.Part.TheVariants.{Outer, Inner}
use Rattle.volume.specs.Measure.{count_of, volume_of}

-- from where the part is seen
abbrev pub side_of : Part → List ℕ
side_of (Outer n v) = codes "outer"
side_of (Inner n v) = codes "inner"

-- outer triangles N six volumes V
abbrev pub text_of : Part → List ℕ
text_of p = side_of p ++ (codes " triangles " ++ (decimal (count_of p) ++ (codes " six volumes " ++ signed_decimal (volume_of p))))
