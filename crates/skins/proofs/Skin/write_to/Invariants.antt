use Rattle.std.proofs.Common.{◌++◌, take}
use Rattle.std.specs.List.{flat_map}
use Rattle.std.specs.Io.KnownBytes.{Appends}
use Rattle.mesh.specs.Written.{header_bytes, two_bytes}
use Rattle.skins.proofs.Chunks.{corner_of, triangle_of}
use Rattle.skins.proofs.Skin.write_to.Given as goal

-- the header is written, and so many corners
abbrev pub invariant-loop-x : goal.invariant-loop-x
invariant-loop-x g l =
    let made = l.self.made in
    Appends (g.W.Write.contents l.fn.to) (g.W.Write.contents l.to)
    (header_bytes made.corners made.triangles made.parts ++ flat_map corner_of (take l.x-index l.x-items))

-- the header is written, all corners, and so many triangles
abbrev pub invariant-loop-a : goal.invariant-loop-a
invariant-loop-a g l =
    let made = l.self.made in
    Appends (g.W.Write.contents l.fn.to) (g.W.Write.contents l.to)
    ((header_bytes made.corners made.triangles made.parts ++ flat_map two_bytes l.self.corners.items)
    ++ flat_map triangle_of (take l.a-index l.a-items))
