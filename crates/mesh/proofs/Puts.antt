-- A buffer that is filled from the front, by numbers of which each takes a few bytes: what it holds after one more part. Assumes nothing.
use Rattle.std.proofs.Common.{◌≡◌, ℕ, ◌+◌, ◌*◌, ◌≤◌, List, [], ◌∷◌, ◌++◌, length, take, drop, sym, refl, ap, ◌∙◌, ap₂, mul-zero, mul-suc, arith, length-append}
use borrow.Rule.Slice.PartMut.{put_mid}
use Rattle.std.specs.List.{flat_map}
use Rattle.std.proofs.lemmas.List.{append_assoc, take-append-drop, take_at, drop_at, drop-drop}
use Rattle.std.proofs.lemmas.Slice.{take-put_mid, drop-put_mid}

-- a part is written behind a front that is done, and the rest is as it was
pub put_behind : (out part done new old : List ℕ) (a k b : ℕ) → out ≡ done ++ drop a old → part ≡ new → length done ≡ a → length new ≡ k → a + k ≡ b → put_mid a k out part ≡ (done ++ new) ++ drop b old
put_behind out part done new old a k b e p front long behind =
    let le : a ≤ length out = omega (arith, ap length e, length-append done (drop a old)) in
    let k' : length part ≡ k = ap length p ∙ long in
    sym (take-append-drop b (put_mid a k out part))
    ∙ ap₂ (λ s t. s ++ t)
    (take-put_mid a k out part b (omega arith) le ∙ ap₂ (λ s t. take a s ++ t) e p ∙ ap (λ s. s ++ new) (take_at done (drop a old) a front))
    (drop-put_mid a k out part b (omega arith) le k'
    ∙ ap₂ drop (sym behind) e
    ∙ sym (drop-drop k a (done ++ drop a old))
    ∙ ap (drop k) (drop_at done (drop a old) a front)
    ∙ drop-drop k a old
    ∙ ap (λ n. drop n old) behind)

module _ (f : ℕ → List ℕ) where
  pub joined_append : (xs ys : List ℕ) → flat_map f (xs ++ ys) ≡ flat_map f xs ++ flat_map f ys
  joined_append [] ys = refl
  joined_append (x ∷ xs) ys = ap (λ zs. f x ++ zs) (joined_append xs ys) ∙ sym (append_assoc (f x) (flat_map f xs) (flat_map f ys))

  pub length_joined : (w : ℕ) → ((x : ℕ) → length (f x) ≡ w) → (xs : List ℕ) → length (flat_map f xs) ≡ w * length xs
  length_joined w e [] = sym (mul-zero w)
  length_joined w e (x ∷ xs) = omega (arith, length-append (f x) (flat_map f xs), e x, length_joined w e xs, mul-suc w (length xs))
