-- The lower end of an edge is where its step starts; and there are seven steps, each with one number. Assumes nothing.
use Rattle.std.proofs.Common.{◌≡◌, ℕ, zero, suc, ◌-◌, ◌<◌, Bool, true, false, cond, leb, ◌≢◌, ◌↔◌, Some, None, Option, sym, refl, ap, ◌∙◌, arith}
use Rattle.std.proofs.lemmas.Bool.{and_parts, and_from, leb-true, le-leb}
use Rattle.theory.specs.Grid.{Point, pt, Offset, off, lowest, raised, ◌⊕◌}
use Rattle.theory.specs.Triangle.{one_if}
use Rattle.grid.specs.declared.edge.Step.{Step}
use Rattle.grid.specs.declared.edge.Step.TheVariants.{X, Y, Z, Xy, Xz, Yz, Xyz}
use Rattle.grid.specs.Places.{offset_of, step_in, step_number, lower_of, EndsJoined}

pub some_injective : {T : Type 0} (x y : T) → Some x ≡ Some y → x ≡ y
some_injective x y e = cc

-- a value that stands under a test
pub some_if : {T : Type 0} (t : Bool) (x y : T) → (cond t (Some x) None ≡ Some y) ↔ ((t ≡ true) × (x ≡ y))
some_if true x y = (λ e. (refl, cc), λ h. ap Some h.1)
some_if false x y = (λ e. (cc, cc), λ h. cc)

pub step_number_below : (s : Step) → step_number s < 7
step_number_below X = omega arith
step_number_below Y = omega arith
step_number_below Z = omega arith
step_number_below Xy = omega arith
step_number_below Xz = omega arith
step_number_below Yz = omega arith
step_number_below Xyz = omega arith

pub step_found : (s : Step) → step_in (step_number s) ≡ Some s
step_found X = refl
step_found Y = refl
step_found Z = refl
step_found Xy = refl
step_found Xz = refl
step_found Yz = refl
step_found Xyz = refl

pub step_undone : (n : ℕ) (s : Step) → step_in n ≡ Some s → step_number s ≡ n
step_undone zero s e = sym (ap step_number (some_injective X s e))
step_undone (suc zero) s e = sym (ap step_number (some_injective Y s e))
step_undone (suc (suc zero)) s e = sym (ap step_number (some_injective Z s e))
step_undone (suc (suc (suc zero))) s e = sym (ap step_number (some_injective Xy s e))
step_undone (suc (suc (suc (suc zero)))) s e = sym (ap step_number (some_injective Xz s e))
step_undone (suc (suc (suc (suc (suc zero))))) s e = sym (ap step_number (some_injective Yz s e))
step_undone (suc (suc (suc (suc (suc (suc zero)))))) s e = sym (ap step_number (some_injective Xyz s e))
step_undone (suc (suc (suc (suc (suc (suc (suc n))))))) s e = cc

-- the step that leads to a point of a cube from its lowest
step_to : Offset → Option Step
step_to (off false false false) = None
step_to (off true false false) = Some X
step_to (off false true false) = Some Y
step_to (off false false true) = Some Z
step_to (off true true false) = Some Xy
step_to (off true false true) = Some Xz
step_to (off false true true) = Some Yz
step_to (off true true true) = Some Xyz

step_to_offset : (s : Step) → step_to (offset_of s) ≡ Some s
unfolding step_to
step_to_offset X = refl
step_to_offset Y = refl
step_to_offset Z = refl
step_to_offset Xy = refl
step_to_offset Xz = refl
step_to_offset Yz = refl
step_to_offset Xyz = refl

stepped : (o : Offset) → o ≢ lowest → (s : Step) × (offset_of s ≡ o)
stepped (off false false false) ne = absurd (ne refl)
stepped (off true false false) ne = (X, refl)
stepped (off false true false) ne = (Y, refl)
stepped (off false false true) ne = (Z, refl)
stepped (off true true false) ne = (Xy, refl)
stepped (off true false true) ne = (Xz, refl)
stepped (off false true true) ne = (Yz, refl)
stepped (off true true true) ne = (Xyz, refl)

apart : (s t : Step) → offset_of s ≡ offset_of t → s ≡ t
apart s t e = some_injective s t (sym (step_to_offset s) ∙ ap step_to e ∙ step_to_offset t)

-- one step back along one axis, if the step goes along it
back : (a : Bool) (u x : ℕ) → ((leb (one_if a) x ≡ true) × (x - one_if a ≡ u)) ↔ (x ≡ raised a u)
back false u x = (λ h. omega arith, λ h. (le-leb 0 x (omega arith), omega arith))
back true u x = (λ h. omega (arith, leb-true 1 x h.0), λ h. (le-leb 1 x (omega arith), omega arith))

lower : (p q : Point) (o : Offset) → (lower_of q o ≡ Some p) ↔ (q ≡ p ⊕ o)
lower (pt u v w) (pt x y z) (off a b c) = (
  λ e.
      let h = (some_if _ _ _).0 e in
      let in-x = and_parts (leb (one_if a) x) _ h.0 in
      let in-y = and_parts (leb (one_if b) y) _ in-x.1 in
      λ i. pt ((back a u x).0 (in-x.0, cc h.1) i) ((back b v y).0 (in-y.0, cc h.1) i) ((back c w z).0 (in-y.1, cc h.1) i),
  λ e.
      let in-x = (back a u x).1 (cc) in
      let in-y = (back b v y).1 (cc) in
      let in-z = (back c w z).1 (cc) in
      (some_if _ _ _).1 (and_from _ _ in-x.0 (and_from _ _ in-y.0 in-z.0), λ i. pt (in-x.1 i) (in-y.1 i) (in-z.1 i)),
)

pub ends_joined : EndsJoined
ends_joined = record { lower = lower; stepped = stepped; apart = apart }
