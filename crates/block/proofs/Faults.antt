-- The first fault along points that come one after the other: of a list put together, and of equally long lists in a row. Assumes nothing.
use Rattle.std.proofs.Common.{◌≡◌, ℕ, zero, suc, ◌+◌, ◌*◌, ◌<◌, ◌≤◌, ◌↔◌, List, [], ◌∷◌, ◌++◌, length, Some, None, Option, sym, refl, ap, ◌∙◌, ap₂, ⊎_elim, add-zero, one-mul, mul-zero, mul-suc, add-one, arith, length-append}
use Rattle.std.proofs.lemmas.Bool.{cases_lt}
use Rattle.theory.specs.Grid.{Point}
use Rattle.theory.specs.Skin.{below}
use Rattle.block.specs.declared.refusal.Refusal.{Refusal}
use Rattle.block.specs.Scan.{first_of, faults, fault_at, row, layer}

pub first_of_assoc : (q r s : Option Refusal) → first_of q (first_of r s) ≡ first_of (first_of q r) s
first_of_assoc None r s = refl
first_of_assoc (Some e) r s = refl

pub first_of_none : (r : Option Refusal) → first_of r None ≡ r
first_of_none None = refl
first_of_none (Some e) = refl

-- no fault is the first of two exactly if there is neither
pub neither : (q r : Option Refusal) → (first_of q r ≡ None) ↔ ((q ≡ None) × (r ≡ None))
neither None r = (λ e. (refl, e), λ e. e.1)
neither (Some e) r = (λ h. (h, cc), λ h. h.0)

pub faults_append : (bs : List ℕ) (ps qs : List Point) (i : ℕ) → faults bs (ps ++ qs) i ≡ first_of (faults bs ps i) (faults bs qs (i + length ps))
faults_append bs [] qs i = ap (faults bs qs) (sym (add-zero i))
faults_append bs (p ∷ ps) qs i =
    ap (first_of (fault_at bs p i)) (faults_append bs ps qs (suc i) ∙ ap (λ n. first_of (faults bs ps (suc i)) (faults bs qs n)) (omega arith))
    ∙ first_of_assoc (fault_at bs p i) (faults bs ps (suc i)) (faults bs qs (i + suc (length ps)))

pub length_below : {A : Type 0} (m n : ℕ) (h : ℕ → List A) → ((j : ℕ) → length (h j) ≡ m) → length (below n h) ≡ m * n
length_below m zero h e = sym (mul-zero m)
length_below m (suc n) h e =
    length-append (below n h) (h n) ∙ ap₂ (λ a b. a + b) (length_below m n h e) (e n) ∙ sym (mul-suc m n)

pub faults_alone : (bs : List ℕ) (p : Point) (i : ℕ) → faults bs (p ∷ []) i ≡ fault_at bs p i
faults_alone bs p i = first_of_none (fault_at bs p i)

faults_some_stay : (bs : List ℕ) (n k : ℕ) (h : ℕ → List Point) (i : ℕ) (r : Refusal) → faults bs (below n h) i ≡ Some r → n ≤ k → faults bs (below k h) i ≡ Some r
faults_some_stay bs n zero h i r e l = let none : 0 ≡ n = omega arith in ap (λ j. faults bs (below j h) i) none ∙ e
faults_some_stay bs n (suc k) h i r e l =
    ⊎_elim
    (λ less. faults_append bs (below k h) (h k) i ∙ ap (λ o. first_of o (faults bs (h k) (i + length (below k h)))) (faults_some_stay bs n k h i r e (omega arith)))
    (λ more. let same : suc k ≡ n = omega arith in ap (λ j. faults bs (below j h) i) same ∙ e)
    (cases_lt n (suc k))

-- Lists of m points each, one after the other from place i on; the list behind the first n begins at place j. This is the step of a loop
-- over points, over rows and over layers.
module _ (bs : List ℕ) (m n : ℕ) (h : ℕ → List Point) (i j : ℕ) (long : (k : ℕ) → length (h k) ≡ m) (begins : j ≡ i + m * n) where
  pub faults_more : faults bs (below (suc n) h) i ≡ first_of (faults bs (below n h) i) (faults bs (h n) j)
  faults_more =
      faults_append bs (below n h) (h n) i
      ∙ ap (λ k. first_of (faults bs (below n h) i) (faults bs (h n) k)) (ap (λ k. i + k) (length_below m n h long) ∙ sym begins)

  pub faults_none_more : faults bs (below n h) i ≡ None → faults bs (h n) j ≡ None → faults bs (below (n + 1) h) i ≡ None
  faults_none_more none next = ap (λ k. faults bs (below k h) i) (add-one n) ∙ faults_more ∙ (neither _ _).1 (none, next)

  -- a fault behind the first n lists, which have none, is the first of all
  pub faults_some : (r : Refusal) (k : ℕ) → faults bs (below n h) i ≡ None → faults bs (h n) j ≡ Some r → n < k → faults bs (below k h) i ≡ Some r
  faults_some r k none next l =
      faults_some_stay bs (suc n) k h i r (faults_more ∙ ap (λ o. first_of o (faults bs (h n) j)) none ∙ next) l

pub row_length : (a y z : ℕ) → length (row a y z) ≡ a
row_length a y z = length_below 1 a _ (λ j. refl) ∙ one-mul a

pub layer_length : (a b z : ℕ) → length (layer a b z) ≡ a * b
layer_length a b z = length_below a b _ (λ y. row_length a y z)
