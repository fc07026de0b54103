-- A list cut into chunks: the bytes of all chunks are those of all numbers, and what no number exceeds, none in a chunk does. Assumes nothing.
use Rattle.std.proofs.Common.{◌≡◌, ℕ, zero, suc, ◌+◌, ◌*◌, ◌<◌, List, [], ◌∷◌, ◌++◌, length, get_or, take, drop, Option, sym, refl, ap, ◌∙◌, subst, arith, get_or-drop}
use Rattle.std.specs.List.{flat_map}
use Rattle.std.specs.Simd.{first_chunks}
use Rattle.std.specs.Io.KnownBytes.{Appends}
use Rattle.std.proofs.KnownBytes.{Appends-trans}
use Rattle.std.proofs.lemmas.List.{append_assoc, append-nil, take_more}
use Rattle.mesh.specs.Written.{two_bytes, four_bytes, corner_bytes, triangle_bytes}

-- the bytes of the corner, and of the triangle, that a chunk holds
abbrev pub corner_of : List ℕ → List ℕ
corner_of c = corner_bytes (get_or c 0 0) (get_or c 1 0) (get_or c 2 0)

abbrev pub triangle_of : List ℕ → List ℕ
triangle_of t = triangle_bytes (get_or t 0 0) (get_or t 1 0) (get_or t 2 0) (get_or t 3 0)

pub corners_joined : (k : ℕ) (xs : List ℕ) → length xs ≡ 3 * k → flat_map corner_of (first_chunks 3 k xs) ≡ flat_map two_bytes xs
corners_joined zero [] e = refl
corners_joined zero (x ∷ xs) e = absurd (omega arith)
corners_joined (suc k) [] e = absurd (omega arith)
corners_joined (suc k) (x ∷ []) e = absurd (omega arith)
corners_joined (suc k) (x ∷ y ∷ []) e = absurd (omega arith)
corners_joined (suc k) (x ∷ y ∷ z ∷ xs) e = ap (λ bs. corner_bytes x y z ++ bs) (corners_joined k xs (omega arith))

pub triangles_joined : (k : ℕ) (xs : List ℕ) → length xs ≡ 4 * k → flat_map triangle_of (first_chunks 4 k xs) ≡ flat_map four_bytes xs
triangles_joined zero [] e = refl
triangles_joined zero (x ∷ xs) e = absurd (omega arith)
triangles_joined (suc k) [] e = absurd (omega arith)
triangles_joined (suc k) (x ∷ []) e = absurd (omega arith)
triangles_joined (suc k) (x ∷ y ∷ []) e = absurd (omega arith)
triangles_joined (suc k) (x ∷ y ∷ z ∷ []) e = absurd (omega arith)
triangles_joined (suc k) (x ∷ y ∷ z ∷ p ∷ xs) e = ap (λ bs. triangle_bytes x y z p ++ bs) (triangles_joined k xs (omega arith))

-- one chunk more
module _ (f : List ℕ → List ℕ) where
  joined_append : (cs ds : List (List ℕ)) → flat_map f (cs ++ ds) ≡ flat_map f cs ++ flat_map f ds
  joined_append [] ds = refl
  joined_append (c ∷ cs) ds = ap (λ bs. f c ++ bs) (joined_append cs ds) ∙ sym (append_assoc (f c) (flat_map f cs) (flat_map f ds))

  joined_next :
      (cs : List (List ℕ)) (i : ℕ) → i < length cs → flat_map f (take (i + 1) cs) ≡ flat_map f (take i cs) ++ f (get_or cs i [])
  joined_next cs i l =
      ap (flat_map f) (take_more cs i [] l)
      ∙ joined_append (take i cs) (get_or cs i [] ∷ [])
      ∙ ap (λ bs. flat_map f (take i cs) ++ bs) (append-nil (f (get_or cs i [])))

  -- what a writer holds once one chunk more is written
  pub chunk_written :
      (a b c : Option (List ℕ)) (front bytes : List ℕ) (cs : List (List ℕ)) (i : ℕ) → i < length cs →
      Appends a b (front ++ flat_map f (take i cs)) → Appends b c bytes → bytes ≡ f (get_or cs i []) →
      Appends a c (front ++ flat_map f (take (i + 1) cs))
  chunk_written a b c front bytes cs i l done more e =
      subst (Appends a c)
      (append_assoc front (flat_map f (take i cs)) bytes
      ∙ ap (λ bs. front ++ bs) (ap (λ bs. flat_map f (take i cs) ++ bs) e ∙ sym (joined_next cs i l)))
      (Appends-trans a b c _ _ done more)

taken_below : (m n : ℕ) (xs : List ℕ) (j : ℕ) → 0 < m → ((i : ℕ) → get_or xs i 0 < m) → get_or (take n xs) j 0 < m
taken_below m zero xs j p h = p
taken_below m (suc n) [] j p h = p
taken_below m (suc n) (x ∷ xs) zero p h = h 0
taken_below m (suc n) (x ∷ xs) (suc j) p h = taken_below m n xs j p (λ i. h (suc i))

pub chunk_below :
    (m n k : ℕ) (xs : List ℕ) (i j : ℕ) → 0 < m → ((i : ℕ) → get_or xs i 0 < m) → get_or (get_or (first_chunks n k xs) i []) j 0 < m
chunk_below m n zero xs i j p h = p
chunk_below m n (suc k) xs zero j p h = taken_below m n xs j p h
chunk_below m n (suc k) xs (suc i) j p h =
    chunk_below m n k (drop n xs) i j p (λ o. let e = get_or-drop n xs o 0 in rw e (h (n + o)))
