-- A buffer read in chunks: what stands in each, and how many there are. Assumes nothing.
use Rattle.std.proofs.Common.{◌≡◌, ℕ, zero, suc, ◌+◌, ◌*◌, ◌<◌, List, length, drop, get_or, refl, ap, ◌∙◌, arith, mul-suc}
use Rattle.std.specs.Simd.{first_chunks}
use Rattle.std.proofs.lemmas.List.{get_or-take, get_or-drop}

-- the element at a place of a chunk
pub chunk_at :
    (w n : ℕ) (xs : List ℕ) (i j : ℕ) (d : List ℕ) → i < n → j < w → get_or (get_or (first_chunks w n xs) i d) j 0 ≡ get_or xs (w * i + j) 0
chunk_at w zero xs i j d l m = absurd (omega arith)
chunk_at w (suc n) xs zero j d l m = get_or-take w xs j 0 m ∙ ap (λ k. get_or xs k 0) (omega arith)
chunk_at w (suc n) xs (suc i) j d l m =
    chunk_at w n (drop w xs) i j d (omega arith) m
    ∙ get_or-drop w xs (w * i + j) 0
    ∙ ap (λ k. get_or xs k 0) (omega (arith, mul-suc w i))

pub length-first_chunks : (w n : ℕ) (xs : List ℕ) → length (first_chunks w n xs) ≡ n
length-first_chunks w zero xs = refl
length-first_chunks w (suc n) xs = ap suc (length-first_chunks w n (drop w xs))
