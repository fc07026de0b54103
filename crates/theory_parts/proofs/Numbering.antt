-- Numbers given in turn are told by which of them are equal, so parts are numbered in one way. Assumes nothing.
use Rattle.std.proofs.Common.{◌≡◌, ℕ, suc, ◌<◌, Bool, ◌⊎◌, ◌↔◌, List, [], ◌∷◌, length, get_or, sym, refl, ◌∙◌, inl, inr, arith}
use mathlib.Core.Logic.Iff
use Rattle.std.proofs.lemmas.Bool.{cases_lt}
use Rattle.theory_parts.specs.Parts.{InTurn, OnlyNumbering}

-- one more triangle has the numbers p and q
abbrev With : (ℕ → ℕ → Type 0) → ℕ → ℕ → ℕ → ℕ → Type 0
With P p q a b = P a b ⊎ ((a ≡ p) × (b ≡ q))

-- where one number stands in the one list, one number stands in the other
abbrev Alike : List ℕ → List ℕ → Type 0
Alike ps qs = (i j : ℕ) → i < length ps → j < length ps → (get_or ps i 0 ≡ get_or ps j 0) ↔ (get_or qs i 0 ≡ get_or qs j 0)

-- so also for the numbers of the triangles before these, of which P says some pairs
abbrev AlikeBefore : (ℕ → ℕ → Type 0) → List ℕ → List ℕ → Type 0
AlikeBefore P ps qs = (a b : ℕ) → P a b → (j : ℕ) → j < length ps → (a ≡ get_or ps j 0) ↔ (b ≡ get_or qs j 0)

before_more :
    (P : ℕ → ℕ → Type 0) (p q : ℕ) (ps qs : List ℕ) → AlikeBefore P (p ∷ ps) (q ∷ qs) → Alike (p ∷ ps) (q ∷ qs) →
    AlikeBefore (With P p q) ps qs
before_more P p q ps qs before alike a b (inl h) j l = before a b h (suc j) (omega arith)
before_more P p q ps qs before alike a b (inr h) j l =
    let s = alike 0 (suc j) (omega arith) (omega arith) in
    ((λ e. h.1 ∙ s.0 (sym h.0 ∙ e)), λ e. h.0 ∙ s.1 (sym h.1 ∙ e))

-- each of the n parts that have begun has its number in both lists
in_turn_only :
    (P : ℕ → ℕ → Type 0) (n : ℕ) (ps qs : List ℕ) (m k : ℕ) → length ps ≡ length qs → ((a : ℕ) → a < n → P a a) →
    AlikeBefore P ps qs → Alike ps qs → InTurn n ps m → InTurn n qs k → (ps ≡ qs) × (m ≡ k)
in_turn_only P n [] [] m k l known before alike s t = (refl, sym s ∙ t)
in_turn_only P n [] (q ∷ qs) m k l known before alike s t = absurd (omega arith)
in_turn_only P n (p ∷ ps) [] m k l known before alike s t = absurd (omega arith)
in_turn_only P n (p ∷ ps) (q ∷ qs) m k l known before alike (inl a) (inl b) =
    let e : p ≡ q = (before p p (known p a.0) 0 (omega arith)).0 refl in
    let r = in_turn_only (With P p q) n ps qs m k (omega arith) (λ a h. inl (known a h))
    (before_more P p q ps qs before alike) (λ i j h k. alike (suc i) (suc j) (omega arith) (omega arith)) a.1 b.1 in
    ((λ i. e i ∷ r.0 i), r.1)
in_turn_only P n (p ∷ ps) (q ∷ qs) m k l known before alike (inl a) (inr b) =
    let e : p ≡ q = (before p p (known p a.0) 0 (omega arith)).0 refl in absurd (omega arith)
in_turn_only P n (p ∷ ps) (q ∷ qs) m k l known before alike (inr a) (inl b) =
    let e : q ≡ p = (before q q (known q b.0) 0 (omega arith)).1 refl in absurd (omega arith)
in_turn_only P n (p ∷ ps) (q ∷ qs) m k l known before alike (inr a) (inr b) =
    let r = in_turn_only (With P p q) (suc n) ps qs m k (omega arith) (more a.0 b.0)
    (before_more P p q ps qs before alike) (λ i j h k. alike (suc i) (suc j) (omega arith) (omega arith)) a.1 b.1 in
    ((λ i. (a.0 ∙ sym b.0) i ∷ r.0 i), r.1)
  where
    more : p ≡ n → q ≡ n → (c : ℕ) → c < suc n → With P p q c c
    more e g c h = elim (cases_lt c n) [ inl b ↦ inl (known c b) | inr b ↦ inr (omega arith) ]

-- lists of numbers given in turn are one list, if the same places have equal numbers in both
pub in_turn_once : (ps qs : List ℕ) (m n : ℕ) → length ps ≡ length qs → Alike ps qs → InTurn 0 ps m → InTurn 0 qs n → (ps ≡ qs) × (m ≡ n)
in_turn_once ps qs m n l alike = in_turn_only (λ a b. ⊥) 0 ps qs m n l (λ a h. absurd (omega arith)) (λ a b h. absurd h) alike

pub only_numbering : {C : Type 0} (same : C → C → Bool) → OnlyNumbering same
only_numbering same ts ps qs m n P Q =
    in_turn_once ps qs m n (P.long ∙ sym Q.long)
    (λ i j h k. Iff.trans (P.alike i j (omega arith) (omega arith)) (Iff.symm (Q.alike i j (omega arith) (omega arith))))
    P.in_turn Q.in_turn
