-- Numbers by linked corners are given in one way, and are those of the parts by common sides where there are rings. Assumes nothing.
use Rattle.std.proofs.Common.{◌≡◌, ℕ, ◌<◌, eqb, ◌↔◌, List, length, get_or, sym, refl, ◌∙◌, inl, arith}
use mathlib.Core.Logic.Iff
use Rattle.std.proofs.lemmas.Bool.{eqb-true, eq-eqb}
use Rattle.theory.specs.Triangle.{Tri, tri, has}
use Rattle.theory_numbers.specs.Numbers.{numbered}
use Rattle.theory_numbers.proofs.Numbered.{numbers_closed}
use Rattle.theory_parts.specs.Parts.{Joined, Linked}
use Rattle.theory_parts.proofs.Joining.{joined_as_linked}
use Rattle.theory_parts.proofs.Numbering.{in_turn_once}
use Rattle.part.specs.Links.{first_corner, ByLinks, OnlyByLinks, LinksNumberParts, SkinsNumbered}
use Rattle.part.proofs.Places.{stands_some, has_one}

-- what ByLinks says of two triangles, by their places alone
module _ (ts : List (Tri ℕ)) (ps : List ℕ) (n : ℕ) (L : ByLinks ts ps n) where
  at_places :
      (i j : ℕ) (h : i < length ts) (k : j < length ts) →
      (get_or ps i 0 ≡ get_or ps j 0) ↔ Linked eqb ts (first_corner (stands_some ts i h).0) (first_corner (stands_some ts j k).0)
  at_places i j h k = L.alike i j _ _ (stands_some ts i h).1 (stands_some ts j k).1

pub only_by_links : OnlyByLinks
only_by_links ts ps qs m n P Q = in_turn_once ps qs m n (P.long ∙ sym Q.long) alike P.in_turn Q.in_turn
  where
    alike : (i j : ℕ) → i < length ps → j < length ps → (get_or ps i 0 ≡ get_or ps j 0) ↔ (get_or qs i 0 ≡ get_or qs j 0)
    alike i j h k =
        let a : i < length ts = omega (arith, P.long) in
        let b : j < length ts = omega (arith, P.long) in
        Iff.trans (at_places ts ps m P i j a b) (Iff.symm (at_places ts qs n Q i j a b))

has_first : (t : Tri ℕ) → 0 < has eqb (first_corner t) t
has_first (tri a b e) = has_one a a b e (inl refl)

pub links_number_parts : LinksNumberParts
links_number_parts ts ps n ringed L = record { long = L.long; alike = alike; in_turn = L.in_turn }
  where
    alike : (i j : ℕ) → i < length ts → j < length ts → (get_or ps i 0 ≡ get_or ps j 0) ↔ Joined eqb ts i j
    alike i j h k =
        let s = stands_some ts i h in
        let r = stands_some ts j k in
        Iff.trans (at_places ts ps n L i j h k)
        (Iff.symm (joined_as_linked eqb eqb-true (λ m. eq-eqb m m refl) ts ringed i j s.0 r.0 s.1 r.1 _ _ (has_first s.0) (has_first r.0)))

pub skins_numbered : SkinsNumbered
skins_numbered f x y z border ps n L =
    let closed = numbers_closed f x y z border in
    links_number_parts (numbered f x y z) ps n (λ c on. closed.ring c ((closed.occurs c).0 on)) L
