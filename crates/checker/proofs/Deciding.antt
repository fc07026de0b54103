-- From what the passes find to the verdict. Assumes nothing.
use Rattle.std.proofs.Common.{◌≡◌, ℕ, List, Some, None, Option, arith}
use Rattle.block.specs.declared.refusal.Refusal.{Refusal}
use Rattle.theory_parts.specs.Buffer.{triangle_at, count_in, triangles_in}
use Rattle.checker.specs.Verdict.{Matched, RingedOnce, All, Rule, SideVerdict}
use Rattle.checker.specs.Verdict.Rule.{fault, passed}
use Rattle.checker.specs.Passes.{Checked, ClosedVerdict}

pub some_none : {e : Refusal} → Some e ≡ None → ⊥
some_none z = let q : ◌≡◌ {A = ℕ} 0 1 = cc in omega arith

module _ (fine : ℕ → Type 0) (n : ℕ) (named : ℕ → Refusal) where
  -- a pass that names nothing finds all fine, and what it names is the verdict, whatever rule is next
  pub all_fine : Checked fine n named None → All fine n
  all_fine (passed a none) = a

  refused : (next : Option Refusal → Type 0) (r : Option Refusal) → Checked fine n named r → (r ≡ None → ⊥) → Rule fine n named next r
  refused next r (fault f) some = fault f
  refused next r (passed a none) some = absurd (some none)

  pub named_first : (next : Option Refusal → Type 0) (e : Refusal) → Checked fine n named (Some e) → Rule fine n named next (Some e)
  named_first next e v = refused next (Some e) v some_none

closed_refused : (ns : List ℕ) (n parts : ℕ) (r : Option Refusal) → ClosedVerdict ns n r → (r ≡ None → ⊥) → SideVerdict ns n parts r
closed_refused ns n parts r (fault f) some = fault f
closed_refused ns n parts r (passed a (fault f)) some = passed a (fault f)
closed_refused ns n parts r (passed a (passed b none)) some = absurd (some none)

pub closed_none :
    (ns : List ℕ) (n : ℕ) → ClosedVerdict ns n None →
    All (λ i. Matched (triangles_in ns) (triangle_at ns i)) (count_in ns) × All (RingedOnce (triangles_in ns)) n
closed_none ns n (passed a (passed b none)) = (a, b)

pub closed_some : (ns : List ℕ) (n parts : ℕ) (e : Refusal) → ClosedVerdict ns n (Some e) → SideVerdict ns n parts (Some e)
closed_some ns n parts e v = closed_refused ns n parts (Some e) v some_none
