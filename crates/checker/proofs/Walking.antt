-- A walk along the chain of a corner: what a step of it learns, and where it ends. Assumes nothing.
use Rattle.std.proofs.Common.{◌≡◌, ℕ, ◌<◌, ◌≤◌, length, ◌∙◌, subst, subst₂, arith}
use Rattle.theory_parts.specs.Buffer.{count_in}
use Rattle.checker.specs.declared.chains.Chains.{Chains}
use Rattle.checker.specs.declared.chains.Around.{Around}
use Rattle.checker.specs.declared.chains.Step.{Step}
use Rattle.checker.specs.Chained.{Next, Stepped}

module _ (k : Chains) (c : ℕ) where
  -- the walk goes along the chain of c
  pub record Along (w : Around) : Type 0 where
    pub chains_are : w.chains ≡ k
    pub corner_is : w.corner ≡ c

  -- it went on from a triangle that has c
  pub record Went (w : Around) (s : Step) (v : Around) : Type 0 where
    pub there : w.at < count_in k.numbers.now
    pub here : Next k.numbers.now c w.at w.at
    pub stepped : Stepped k.numbers.now (length k.heads.now) c w.at s
    pub along : Along v
    pub on : v.at ≡ s.next

  pub went :
      (w v : Around) (s : Step) → Along w →
      (w.at < count_in w.chains.numbers.now) × Stepped w.chains.numbers.now (length w.chains.heads.now) w.corner w.at s × (v.chains ≡ w.chains) × (v.corner ≡ w.corner) × (v.at ≡ s.next) →
      Went w s v
  went w v s a h =
      record {
        there = subst (λ (x : Chains). w.at < count_in x.numbers.now) a.chains_are h.0;
        here = subst₂ (λ (x : Chains) (d : ℕ). Next x.numbers.now d w.at w.at) a.chains_are a.corner_is w.here;
        stepped = subst₂ (λ (x : Chains) (d : ℕ). Stepped x.numbers.now (length x.heads.now) d w.at s) a.chains_are a.corner_is h.1;
        along = record { chains_are = h.2 ∙ a.chains_are; corner_is = h.3 ∙ a.corner_is };
        on = h.4;
      }

  -- it ends behind all triangles
  pub ended : (w : Around) → Along w → count_in w.chains.numbers.now ≤ w.at → w.at ≡ count_in k.numbers.now
  ended w a over =
      let to = w.here.to in
      subst (λ (x : Chains). w.at ≡ count_in x.numbers.now) a.chains_are (omega arith)
