-- A buffer of chunks of one length, written one after the other, and the rest as it was. Assumes nothing.
use Rattle.std.proofs.Common.{◌≡◌, ℕ, suc, ◌+◌, ◌*◌, ◌≤◌, List, [], ◌∷◌, ◌++◌, length, take, drop, set, sym, ap, ◌∙◌, ap₂, append_assoc, mul-zero, mul-suc, arith, length-append, length-drop, drop-drop, take_at}
use lib.Seq.{sets-eq, drop-append-add}
use Rattle.std.proofs.lemmas.List.{flat_map_more}
use Rattle.std.specs.List.{flat_map}

pub set_four :
    (xs : List ℕ) (m a b c d : ℕ) → m + 4 ≤ length xs →
    set (set (set (set xs m a) (m + 1) b) (m + 2) c) (m + 3) d ≡ take m xs ++ ((a ∷ b ∷ c ∷ d ∷ []) ++ drop (m + 4) xs)
set_four xs m a b c d h =
    let e1 : m + 1 ≡ suc m = omega arith in
    let e2 : m + 2 ≡ suc (suc m) = omega arith in
    let e3 : m + 3 ≡ suc (suc (suc m)) = omega arith in
    (λ i. set (set (set (set xs m a) (e1 i) b) (e2 i) c) (e3 i) d)
    ∙ sets-eq (a ∷ b ∷ c ∷ d ∷ []) xs m h
    ∙ append_assoc (take m xs) (a ∷ b ∷ c ∷ d ∷ []) (drop (m + 4) xs)

module _ {X : Type 0} (g : X → List ℕ) (w : ℕ) (long : (x : X) → length (g x) ≡ w) where
  -- a buffer whose first chunks are these
  abbrev pub begun : List X → List ℕ → List ℕ
  begun xs old = flat_map g xs ++ drop (w * length xs) old

  pub length_chunks : (xs : List X) → length (flat_map g xs) ≡ w * length xs
  length_chunks [] = sym (mul-zero w)
  length_chunks (x ∷ xs) = omega (arith, length-append (g x) (flat_map g xs), long x, length_chunks xs, mul-suc w (length xs))

  pub length_begun : (xs : List X) (old : List ℕ) → w * length xs ≤ length old → length (begun xs old) ≡ length old
  length_begun xs old h =
      omega (arith, length-append (flat_map g xs) (drop (w * length xs) old), length_chunks xs, length-drop (w * length xs) old)

  -- one chunk more, written at the next place
  pub begun_more :
      (xs : List X) (x : X) (old : List ℕ) →
      take (w * length xs) (begun xs old) ++ (g x ++ drop (w * length xs + w) (begun xs old)) ≡ begun (xs ++ x ∷ []) old
  begun_more xs x old =
      let front = flat_map g xs in
      let n = w * length xs in
      let e : length front ≡ n = length_chunks xs in
      let more : n + w ≡ w * length (xs ++ x ∷ []) = sym (ap (λ k. w * k) (length-append xs (x ∷ [])) ∙ ap (λ k. w * k) (omega arith) ∙ mul-suc w (length xs)) in
      ap₂ (λ l r. l ++ (g x ++ r)) (take_at front (drop n old) n e)
      (ap (λ m. drop (m + w) (front ++ drop n old)) (sym e) ∙ drop-append-add front (drop n old) w ∙ drop-drop w n old ∙ ap (λ m. drop m old) more)
      ∙ sym (append_assoc front (g x) _)
      ∙ ap (λ l. l ++ drop (w * length (xs ++ x ∷ [])) old) (flat_map_more g [] xs x)
