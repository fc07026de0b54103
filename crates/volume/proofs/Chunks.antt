-- A buffer of triangles read in chunks of four, one to a triangle; a test of each element of a list is one at each place. Assumes nothing.
use Rattle.std.proofs.Common.{◌≡◌, ℕ, zero, suc, ◌+◌, ◌*◌, ◌<◌, ◌≤◌, Bool, ◌&&◌, List, [], ◌∷◌, length, take, get_or, sym, refl, ap, ◌∙◌, ap₂, nat_le, arith, add-one}
use Rattle.std.specs.List.{list_all}
use Rattle.std.specs.Simd.{first_chunks}
use Rattle.std.proofs.lemmas.List.{take_all}
use Rattle.std.proofs.lemmas.List.Folds.{list_all_more}
use Rattle.theory_parts.proofs.Chunks.{chunk_at, length-first_chunks}
use Rattle.theory_volume.specs.Sizes.{most_coordinate}
use Rattle.volume.specs.Measure.{each_below, low, fine, Low}

-- what is said of a chunk's numbers is said of those at its place
pub in_chunk :
    {X : Type 0} (f : ℕ → ℕ → ℕ → ℕ → X) (ts : List ℕ) (n : ℕ) (chunks : List (List ℕ)) (i : ℕ) → chunks ≡ first_chunks 4 n ts → i < n →
    f (get_or (get_or chunks i []) 0 0) (get_or (get_or chunks i []) 1 0) (get_or (get_or chunks i []) 2 0) (get_or (get_or chunks i []) 3 0)
    ≡ f (get_or ts (4 * i) 0) (get_or ts (4 * i + 1) 0) (get_or ts (4 * i + 2) 0) (get_or ts (4 * i + 3) 0)
in_chunk f ts n chunks i e l =
    λ j. f (at 0 (4 * i) (omega arith) (omega arith) j) (at 1 (4 * i + 1) refl (omega arith) j) (at 2 (4 * i + 2) refl (omega arith) j)
    (at 3 (4 * i + 3) refl (omega arith) j)
  where
    at : (k m : ℕ) → 4 * i + k ≡ m → k < 4 → get_or (get_or chunks i []) k 0 ≡ get_or ts m 0
    at k m is s = ap (λ us. get_or (get_or us i []) k 0) e ∙ chunk_at 4 n ts i k [] l s ∙ ap (λ j. get_or ts j 0) is

-- and of a corner's chunk of three
pub in_corner :
    (cs : List ℕ) (chunks : List (List ℕ)) (n i k : ℕ) → chunks ≡ first_chunks 3 n cs → i < n → k < 3 →
    get_or (get_or chunks i []) k 0 ≡ get_or cs (3 * i + k) 0
in_corner cs chunks n i k e l s = ap (λ us. get_or (get_or us i []) k 0) e ∙ chunk_at 3 n cs i k [] l s

pub each_low :
    (cs : List ℕ) (chunks : List (List ℕ)) (n i : ℕ) → chunks ≡ first_chunks 3 n cs → i < n → Low cs →
    (get_or (get_or chunks i []) 0 0 ≤ most_coordinate) × (get_or (get_or chunks i []) 1 0 ≤ most_coordinate) × (get_or (get_or chunks i []) 2 0 ≤ most_coordinate)
each_low cs chunks n i e l below = (at 0 (omega arith), at 1 (omega arith), at 2 (omega arith))
  where
    at : (k : ℕ) → k < 3 → get_or (get_or chunks i []) k 0 ≤ most_coordinate
    at k s = omega (arith, in_corner cs chunks n i k e l s, below (3 * i + k))

-- a test of each element is one at each place
module _ {X : Type 0} (p : X → Bool) (t : ℕ → Bool) (xs : List X) (d : X) (e : (i : ℕ) → i < length xs → p (get_or xs i d) ≡ t i) where
  all_before : (n : ℕ) → n ≤ length xs → list_all p (take n xs) ≡ each_below n t
  all_before zero l = refl
  all_before (suc n) l =
      ap (λ m. list_all p (take m xs)) (sym (add-one n)) ∙ list_all_more p xs n d (omega arith) ∙ ap₂ ◌&&◌ (all_before n (omega arith)) (e n (omega arith))

  pub all_is_each_below : list_all p xs ≡ each_below (length xs) t
  all_is_each_below = ap (list_all p) (sym (take_all (length xs) xs (omega arith))) ∙ all_before (length xs) (omega arith)

pub all_fine :
    (cs ts : List ℕ) (m n : ℕ) (chunks : List (List ℕ)) → chunks ≡ first_chunks 4 n ts →
    list_all (λ t. fine cs t m 0) chunks ≡ each_below n (fine cs ts m)
all_fine cs ts m n chunks e =
    let long : length chunks ≡ n = ap length e ∙ length-first_chunks 4 n ts in
    all_is_each_below (λ t. fine cs t m 0) (fine cs ts m) chunks []
    (λ i l. in_chunk (λ a b c p. fine cs (a ∷ b ∷ c ∷ p ∷ []) m 0) ts n chunks i e (omega arith))
    ∙ ap (λ k. each_below k (fine cs ts m)) long

pub all_low : (cs : List ℕ) → list_all (λ x. nat_le x most_coordinate) cs ≡ each_below (length cs) (low cs)
all_low cs = all_is_each_below (λ x. nat_le x most_coordinate) (low cs) cs 0 (λ i l. refl)
