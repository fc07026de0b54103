-- Steps from neighbour to neighbour, of which each clears what it leaves: what one more step shows. Assumes nothing.
use Rattle.std.proofs.Common.{◌≡◌, ℕ, ◌+◌, ◌<◌, ◌≢◌, List, length, get_or, set, sym, ap, ◌∙◌, ⊎_elim, add-one, arith}
use Rattle.std.proofs.lemmas.List.{get_or-set_same, get_or-set_other}
use Rattle.std.proofs.lemmas.Bool.{cases_lt}
use Rattle.checker.specs.Passes.{nobody, led, led_in, Steps, Cleared}
use Rattle.checker.proofs.Cycles.{led_next}

-- after k steps from s, at `here`
module _ (follow now : List ℕ) (s k here : ℕ) (is : here ≡ led_in follow s k) (cleared : Cleared follow s k now) where
  module _ (some : get_or now here 0 ≢ nobody) where
    fresh : (j : ℕ) → j < k → led_in follow s j ≡ here → ⊥
    fresh j m e = some (ap (λ x. get_or now x 0) (sym e) ∙ cleared.gone j m)

    pub next_is : get_or now here 0 ≡ get_or follow here 0
    next_is = cleared.kept here fresh

    pub led_more : get_or now here 0 ≡ led_in follow s (k + 1)
    led_more =
        next_is ∙ ap (λ x. get_or follow x 0) is ∙ sym (led_next (λ d. get_or follow d 0) s k)
        ∙ ap (led (λ d. get_or follow d 0) s) (sym (add-one k))

    pub steps_more : Steps follow s k → Steps follow s (k + 1)
    steps_more old = record {
      onward = λ j m. ⊎_elim (old.onward j)
          (λ more z. let e : k ≡ j = omega arith in some (next_is ∙ ap (λ x. get_or follow x 0) (is ∙ ap (led_in follow s) e) ∙ z))
          (cases_lt j k);
      apart = λ i j l m. ⊎_elim (old.apart i j l)
          (λ more z. let e : j ≡ k = omega arith in fresh i (omega arith) (z ∙ ap (led_in follow s) e ∙ sym is))
          (cases_lt j k);
    }

    pub cleared_more : here < length now → Cleared follow s (k + 1) (set now here nobody)
    cleared_more l = record {
      gone = λ j m. ⊎_elim (λ less. get_or-set_other now here (led_in follow s j) nobody 0 (fresh j less) ∙ cleared.gone j less)
          (λ more. let e : j ≡ k = omega arith in
          ap (λ x. get_or (set now here nobody) x 0) (ap (led_in follow s) e ∙ sym is) ∙ get_or-set_same now here nobody 0 l)
          (cases_lt j k);
      kept = λ d none.
          get_or-set_other now here d nobody 0 (λ e. none k (omega arith) (sym is ∙ sym e)) ∙ cleared.kept d (λ j m. none j (omega arith));
    }
