-- A test of corners that agrees on each triangle has one value at all the corners in a piece, so around a face it is met an even number of
-- times. Assumes nothing.
use Rattle.std.proofs.Common.{◌≡◌, Bool, true, false, not, ◌&&◌, ◌||◌, List, [], ◌∷◌, map, sym, refl, ap, ◌∙◌, subst, ap₂, inl, inr}
use mathlib.Core.Bool.{xor, beq}
use Rattle.std.proofs.ByRecursion.{All-weaker}
use Rattle.std.proofs.lemmas.Bool.{and_parts, or_cases, both_ways, not-true, false≢true}
use Rattle.std.specs.List.{flat_map, AllByRecursion}
use Rattle.theory.specs.Grid.{Point}
use Rattle.theory.specs.Triangle.{Edge, edge, Tri, tri, corners}
use Rattle.theory.specs.Skin.{Corner}
use Rattle.theory.specs.Faces.{Name, n0, n1, n2, n3, same_name, renamed}
use Rattle.theory.proofs.Same.{all, both}
use Rattle.theory.proofs.Patterns.{both_four}
use Rattle.theory.proofs.Pieces.{Four, at, each, at_each, any_bits, any_bits_at, any_name, any_name_at, cut_four, names, cut_named, moved}
use Rattle.theory_parts.specs.Regions.{Agree}

same_name_true : (i j : Name) → same_name i j ≡ true → i ≡ j
same_name_true n0 n0 e = refl
same_name_true n0 n1 e = absurd (false≢true e)
same_name_true n0 n2 e = absurd (false≢true e)
same_name_true n0 n3 e = absurd (false≢true e)
same_name_true n1 n0 e = absurd (false≢true e)
same_name_true n1 n1 e = refl
same_name_true n1 n2 e = absurd (false≢true e)
same_name_true n1 n3 e = absurd (false≢true e)
same_name_true n2 n0 e = absurd (false≢true e)
same_name_true n2 n1 e = absurd (false≢true e)
same_name_true n2 n2 e = refl
same_name_true n2 n3 e = absurd (false≢true e)
same_name_true n3 n0 e = absurd (false≢true e)
same_name_true n3 n1 e = absurd (false≢true e)
same_name_true n3 n2 e = absurd (false≢true e)
same_name_true n3 n3 e = refl

abbrev same_edge : Edge Name → Edge Name → Bool
same_edge (edge i j) (edge k l) = same_name i k && same_name j l

same_edge_true : (c d : Edge Name) → same_edge c d ≡ true → c ≡ d
same_edge_true (edge i j) (edge k l) e =
    let p = and_parts (same_name i k) (same_name j l) e in
    λ t. edge (same_name_true i k p.0 t) (same_name_true j l p.1 t)

abbrev some : {A : Type 0} → (A → Bool) → List A → Bool
some t [] = false
some t (x ∷ xs) = t x || some t xs

every_some : (P : Edge Name → Type 0) (c : Edge Name) (ds : List (Edge Name)) → AllByRecursion P ds → some (same_edge c) ds ≡ true → P c
every_some P c [] a e = absurd (false≢true e)
every_some P c (d ∷ ds) a e =
    elim (or_cases (same_edge c d) (some (same_edge c) ds) e)
    [ inl h ↦ subst P (sym (same_edge_true c d h)) a.0 | inr h ↦ every_some P c ds a.1 h ]

-- the first corner of a piece's triangles; where there is none it does not matter which
abbrev first_corner : List (Tri (Edge Name)) → Edge Name
first_corner [] = edge n0 n0
first_corner (tri a b e ∷ ts) = a

abbrev starts : Edge Name → Tri (Edge Name) → Bool
starts c (tri a b e) = same_edge c a

-- both triangles of a piece begin with the same corner, and each edge from inside to outside is a corner
abbrev is_corner : Four Bool → Name → Name → Bool
is_corner b i j = not (at b i) || (at b j || some (same_edge (edge i j)) (flat_map corners (cut_four b names)))

abbrev linked : Four Bool → Bool
linked b = all (starts (first_corner (cut_four b names))) (cut_four b names) && any_name (λ i. any_name (is_corner b i))

all_linked : any_bits linked ≡ true
all_linked = refl

module _ (T : Edge Name → Bool) where
  agree_all :
      (c : Edge Name) (ts : List (Tri (Edge Name))) → all (starts c) ts ≡ true → AllByRecursion (Agree T) ts →
      AllByRecursion (λ d. T d ≡ T c) (flat_map corners ts)
  agree_all c [] e a = tt
  agree_all c (tri p q r ∷ ts) e a =
      let h = and_parts (same_edge c p) (all (starts c) ts) e in
      let k : T p ≡ T c = ap T (sym (same_edge_true c p h.0)) in
      (k, (sym a.0.0 ∙ k, (sym (a.0.0 ∙ a.0.1) ∙ k, agree_all c ts h.1 a.1)))

  one_level :
      (b : Four Bool) → AllByRecursion (Agree T) (cut_four b names) → (i j : Name) → at b i ≡ true → at b j ≡ false →
      T (edge i j) ≡ T (first_corner (cut_four b names))
  one_level b a i j h k =
      let ts = cut_four b names in
      let e = and_parts (all (starts (first_corner ts)) ts) (any_name (λ i. any_name (is_corner b i))) (any_bits_at linked all_linked b) in
      let s = any_name_at (is_corner b i) (any_name_at (λ i. any_name (is_corner b i)) e.1 i) j in
      every_some (λ d. T d ≡ T (first_corner ts)) (edge i j) (flat_map corners ts) (agree_all (first_corner ts) ts e.0 a)
      (elim (or_cases (not (at b i)) _ s) [
        | inl n ↦ absurd (both_ways _ (not-true _ n) h)
        | inr s ↦ elim (or_cases (at b j) _ s) [ inl n ↦ absurd (both_ways _ k n) | inr s ↦ s ]
      ])

every_unmap : {A B : Type 0} (P : B → Type 0) (g : A → B) (xs : List A) → AllByRecursion P (map g xs) → AllByRecursion (λ x. P (g x)) xs
every_unmap P g [] a = tt
every_unmap P g (x ∷ xs) a = (a.0, every_unmap P g xs a.1)

-- the steps of the skin at which the test passes, run either way
abbrev crossed : Bool → Bool → Bool → Bool → Bool
crossed true true s t = false
crossed true false s t = s
crossed false true s t = t
crossed false false s t = false

crossed_none : (a s t : Bool) → crossed a a s t ≡ false
crossed_none true s t = refl
crossed_none false s t = refl

crossed_level :
    (a b s t v : Bool) → (a ≡ true → b ≡ false → s ≡ v) → (b ≡ true → a ≡ false → t ≡ v) → crossed a b s t ≡ (xor a b && v)
unfolding xor
crossed_level true true s t v p q = refl
crossed_level true false s t v p q = p refl refl
crossed_level false true s t v p q = q refl refl
crossed_level false false s t v p q = refl

beq_true : (a b : Bool) → beq a b ≡ true → a ≡ b
beq_true true true e = refl
beq_true true false e = absurd (false≢true e)
beq_true false true e = absurd (false≢true e)
beq_true false false e = refl

-- an equation between tests of four bits is itself a test
pub bits_equal :
    (l r : Bool → Bool → Bool → Bool → Bool) →
    both (λ a. both (λ b. both (λ c. both (λ d. beq (l a b c d) (r a b c d))))) ≡ true →
    (a b c d : Bool) → l a b c d ≡ r a b c d
bits_equal l r e a b c d = beq_true _ _ (both_four (λ a b c d. beq (l a b c d) (r a b c d)) e a b c d)

module _ (f : Point → Bool) (S : Corner → Bool) where
  abbrev pub crossing : Point → Point → Bool
  crossing p q = crossed (f p) (f q) (S (edge p q)) (S (edge q p))

  pub crossing_none : (p q : Point) → f p ≡ f q → crossing p q ≡ false
  crossing_none p q e = ap (λ b. crossed (f p) b (S (edge p q)) (S (edge q p))) (sym e) ∙ crossed_none (f p) (S (edge p q)) (S (edge q p))

  -- the test has one value, the level, at the corners in a piece
  abbrev pub Level : Four Point → Type 0
  Level q = (v : Bool) × ((i j : Name) → f (at q i) ≡ true → f (at q j) ≡ false → S (edge (at q i) (at q j)) ≡ v)

  pub level : (q : Four Point) → AllByRecursion (Agree S) (cut_four (each f q) q) → Level q
  level q a = (
    T (first_corner (cut_four (each f q) names)),
    λ i j h k.
        one_level T (each f q)
        (All-weaker _ _ agree_named _ (every_unmap (Agree S) (renamed (at q)) _ (subst (AllByRecursion (Agree S)) (cut_named (each f q) q) a)))
        i j (at_each f q i ∙ h) (at_each f q j ∙ k),
  )
    where
      T : Edge Name → Bool
      T e = S (moved (at q) e)

      agree_named : (t : Tri (Edge Name)) → Agree S (renamed (at q) t) → Agree T t
      agree_named (tri (edge a b) (edge c d) (edge e g)) h = h

  module _ (q : Four Point) (v : Level q) where
    pub crossing_level : (i j : Name) → crossing (at q i) (at q j) ≡ (xor (f (at q i)) (f (at q j)) && v.0)
    crossing_level i j = crossed_level (f (at q i)) (f (at q j)) _ _ v.0 (v.1 i j) (v.1 j i)

    -- around a face
    pub face_even :
        (i j k : Name) → xor (crossing (at q i) (at q j)) (crossing (at q j) (at q k)) ≡ crossing (at q i) (at q k)
    unfolding xor
    face_even i j k =
        ap₂ xor (crossing_level i j) (crossing_level j k)
        ∙ bits_equal (λ v a b c. xor (xor a b && v) (xor b c && v)) (λ v a b c. xor a c && v) refl v.0 (f (at q i)) (f (at q j)) (f (at q k))
        ∙ sym (crossing_level i k)
