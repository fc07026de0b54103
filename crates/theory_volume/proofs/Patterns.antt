-- Every piece is settled, whoever of its points is inside: the points are named so that those inside come first. Assumes nothing.
use Rattle.std.proofs.Common.{ℕ, Bool, true, false, arith}
use Rattle.std.specs.List.{AllByRecursion}
use Rattle.theory.specs.Grid.{Point}
use Rattle.theory.specs.Triangle.{sum_of, corners}
use Rattle.theory.specs.Skin.{Corner, cut}
use Rattle.theory.specs.Places.{place}
use Rattle.theory_volume.specs.Inside.{inside_part}
use Rattle.theory_volume.proofs.Corners.{Fits}
use Rattle.theory_volume.proofs.Signs.{falling, rising}
use Rattle.theory_volume.proofs.Balance.{mark, Settled, turned, swapped, mirrored}
use Rattle.theory_volume.proofs.Shapes.{settled_one, settled_two, settled_three}

pub settled :
    (k : Corner → ℕ) (i j l m : Bool) (p0 p1 p2 p3 : Point) → AllByRecursion (λ t. AllByRecursion (Fits k) (corners t)) (cut i j l m p0 p1 p2 p3) →
    Settled k (inside_part k i j l m p0 p1 p2 p3)
    (sum_of (falling (place k)) (cut i j l m p0 p1 p2 p3)) (sum_of (rising (place k)) (cut i j l m p0 p1 p2 p3))
    (mark i p0) (mark j p1) (mark l p2) (mark m p3)
settled k false false false false p0 p1 p2 p3 f = record { sums = omega arith }
settled k true false false false p0 p1 p2 p3 f = settled_one k p0 p1 p2 p3 f.0.0 f.0.1.0 f.0.1.1.0
settled k false true false false p0 p1 p2 p3 f = swapped (settled_one k p1 p0 p3 p2 f.0.0 f.0.1.0 f.0.1.1.0)
settled k false false true false p0 p1 p2 p3 f = turned (turned (swapped (settled_one k p2 p0 p1 p3 f.0.0 f.0.1.0 f.0.1.1.0)))
settled k false false false true p0 p1 p2 p3 f = turned (swapped (settled_one k p3 p0 p2 p1 f.0.0 f.0.1.0 f.0.1.1.0))
settled k true true false false p0 p1 p2 p3 f = settled_two k p0 p1 p2 p3 f.0.0 f.0.1.0 f.1.0.1.1.0 f.0.1.1.0
settled k true false true false p0 p1 p2 p3 f =
    turned (turned (mirrored (settled_two k p0 p2 p1 p3 f.0.0 f.0.1.1.0 f.1.0.1.0 f.0.1.0)))
settled k false true true false p0 p1 p2 p3 f =
    swapped (turned (settled_two k p1 p2 p0 p3 f.0.0 f.0.1.0 f.1.0.1.1.0 f.0.1.1.0))
settled k true false false true p0 p1 p2 p3 f = turned (settled_two k p0 p3 p1 p2 f.0.0 f.0.1.0 f.1.0.1.1.0 f.0.1.1.0)
settled k false true false true p0 p1 p2 p3 f =
    swapped (turned (turned (mirrored (settled_two k p1 p3 p0 p2 f.0.0 f.0.1.1.0 f.1.0.1.0 f.0.1.0))))
settled k false false true true p0 p1 p2 p3 f =
    turned (turned (swapped (turned (settled_two k p2 p3 p0 p1 f.0.0 f.0.1.0 f.1.0.1.1.0 f.0.1.1.0))))
settled k true true true false p0 p1 p2 p3 f = settled_three k p0 p1 p2 p3 f.0.0 f.0.1.0 f.0.1.1.0
settled k true true false true p0 p1 p2 p3 f = turned (settled_three k p0 p3 p1 p2 f.0.0 f.0.1.0 f.0.1.1.0)
settled k true false true true p0 p1 p2 p3 f = turned (turned (settled_three k p0 p2 p3 p1 f.0.0 f.0.1.0 f.0.1.1.0))
settled k false true true true p0 p1 p2 p3 f =
    swapped (turned (turned (settled_three k p1 p3 p2 p0 f.0.0 f.0.1.0 f.0.1.1.0)))
settled k true true true true p0 p1 p2 p3 f = record { sums = omega arith }
