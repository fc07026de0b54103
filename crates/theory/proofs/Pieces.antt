-- A piece as its four points by name: the table over four points, and tests of all bits and all names. Assumes nothing.
use Rattle.std.proofs.Common.{◌≡◌, Bool, true, false, List, [], ◌∷◌, map, refl}
use Rattle.std.proofs.lemmas.Bool.{and_parts}
use Rattle.std.specs.List.{AllByRecursion}
use Rattle.theory.specs.Grid.{Point, Offset, ◌⊕◌, Piece, way}
use Rattle.theory.specs.Triangle.{Edge, edge, Tri}
use Rattle.theory.specs.Skin.{cut, in_piece}
use Rattle.theory.specs.Faces.{Name, n0, n1, n2, n3, renamed}
use Rattle.theory.proofs.Same.{cut_renamed, all, all_every, both, both_at}

pub data Four (A : Type 0) : Type 0 where
  four : A → A → A → A → Four A

abbrev pub at : {A : Type 0} → Four A → Name → A
at (four a b c d) n0 = a
at (four a b c d) n1 = b
at (four a b c d) n2 = c
at (four a b c d) n3 = d

abbrev pub each : {A B : Type 0} → (A → B) → Four A → Four B
each g (four a b c d) = four (g a) (g b) (g c) (g d)

pub at_each : {A B : Type 0} (g : A → B) (q : Four A) (i : Name) → at (each g q) i ≡ g (at q i)
at_each g (four a b c d) n0 = refl
at_each g (four a b c d) n1 = refl
at_each g (four a b c d) n2 = refl
at_each g (four a b c d) n3 = refl

pub each_each : {A B C : Type 0} (g : B → C) (k : A → B) (q : Four A) → each g (each k q) ≡ each (λ x. g (k x)) q
each_each g k (four a b c d) = refl

-- a test that passes for any four bits, or at any name
abbrev pub any_bits : (Four Bool → Bool) → Bool
any_bits t = both (λ a. both (λ b. both (λ c. both (λ d. t (four a b c d)))))

pub any_bits_at : (t : Four Bool → Bool) → any_bits t ≡ true → (b : Four Bool) → t b ≡ true
any_bits_at t e (four a b c d) =
    both_at (λ d. t (four a b c d))
    (both_at (λ c. both (λ d. t (four a b c d)))
    (both_at (λ b. both (λ c. both (λ d. t (four a b c d))))
    (both_at (λ a. both (λ b. both (λ c. both (λ d. t (four a b c d))))) e a) b) c) d

abbrev pub any_name : (Name → Bool) → Bool
any_name t = all t (n0 ∷ n1 ∷ n2 ∷ n3 ∷ [])

pub any_name_at : (t : Name → Bool) → any_name t ≡ true → (i : Name) → t i ≡ true
any_name_at t e n0 = (all_every t (n0 ∷ n1 ∷ n2 ∷ n3 ∷ []) e).0
any_name_at t e n1 = (all_every t (n0 ∷ n1 ∷ n2 ∷ n3 ∷ []) e).1.0
any_name_at t e n2 = (all_every t (n0 ∷ n1 ∷ n2 ∷ n3 ∷ []) e).1.1.0
any_name_at t e n3 = (all_every t (n0 ∷ n1 ∷ n2 ∷ n3 ∷ []) e).1.1.1.0

-- the points of a piece, named as the table has them
abbrev pub named : Piece → Four Offset
named (way false a b c d) = four a b c d
named (way true a b c d) = four a b d c

abbrev pub cut_four : {P : Type 0} → Four Bool → Four P → List (Tri (Edge P))
cut_four (four a b c d) (four p q r s) = cut a b c d p q r s

pub in_piece_four :
    (f : Point → Bool) (l : Point) (w : Piece) →
    in_piece f l w ≡ cut_four (each f (each (λ o. l ⊕ o) (named w))) (each (λ o. l ⊕ o) (named w))
unfolding in_piece
in_piece_four f l (way false a b c d) = refl
in_piece_four f l (way true a b c d) = refl

abbrev pub names : Four Name
names = four n0 n1 n2 n3

pub cut_named : {P : Type 0} (b : Four Bool) (q : Four P) → cut_four b q ≡ map (renamed (at q)) (cut_four b names)
cut_named (four a b c d) (four p q r s) = cut_renamed (at (four p q r s)) a b c d n0 n1 n2 n3

pub cut_each :
    {P Q : Type 0} (g : P → Q) (f : Q → Bool) (q : Four P) →
    cut_four (each f (each g q)) (each g q) ≡ map (renamed g) (cut_four (each (λ p. f (g p)) q) q)
cut_each g f (four p q r s) = cut_renamed g (f (g p)) (f (g q)) (f (g r)) (f (g s)) p q r s

abbrev pub moved : {P Q : Type 0} → (P → Q) → Edge P → Edge Q
moved g (edge a b) = edge (g a) (g b)

-- what follows from a test that passes at each element holds of their images
pub every_image :
    {A B : Type 0} (Q : B → Type 0) (g : A → B) (t : A → Bool) → ((x : A) → t x ≡ true → Q (g x)) →
    (xs : List A) → all t xs ≡ true → AllByRecursion Q (map g xs)
every_image Q g t k [] e = tt
every_image Q g t k (x ∷ xs) e = let p = and_parts (t x) (all t xs) e in (k x p.0, every_image Q g t k xs p.1)
