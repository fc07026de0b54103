-- Reading undoes writing, and writing undoes reading. Assumes nothing.
use Rattle.std.proofs.Common.{◌≡◌, ℕ, zero, suc, ◌+◌, ◌*◌, ◌/◌, ◌%◌, ◌^◌, ◌<◌, ◌≤◌, Bool, true, false, cond, ltb, List, [], ◌∷◌, ◌++◌, length, get_or, take, drop, Some, None, Option, sym, refl, ap, ◌∙◌, ap₂, add-zero, mod-eq_of_lt, mul-zero, mul-suc, arith, length-append, length-drop, take-add}
use native.Mathlib.Nat.{div-div-eq-div-mul}
use Rattle.std.specs.List.{flat_map, AllByRecursion}
use Rattle.std.proofs.lemmas.List.{append_assoc, append-nil, take-append-drop, take_all, drop_at, drop-drop, drop_more, get_or-drop, ext_get_or}
use Rattle.std.proofs.lemmas.Bool.{le-ltb, ltb-false, cond-false}
use Rattle.block.specs.declared.refusal.Refusal.{Refusal}
use Rattle.theory.specs.Skin.{below}
use Rattle.mesh.specs.Bytes.{short_at, number_at, corner_count, triangle_count, part_count, triangles_from, coordinates_in, triangles_in, skin_end, length_fault}
use Rattle.mesh.specs.Written.{two_bytes, four_bytes, skin_bytes, skin_size, ReadBack, WrittenBack}
use Rattle.mesh.proofs.Ranges.{every_get_or}
use Rattle.mesh.proofs.Numbers.{length_listed, get_or_listed}
use Rattle.mesh.proofs.Puts.{joined_append, length_joined}

-- the verdict on the length says that the bytes end where they should
no_fault : (b : Bool) (e : Refusal) (r : Option Refusal) → cond b (Some e) r ≡ None → (b ≡ false) × (r ≡ None)
no_fault true e r h = absurd (let z : ◌≡◌ {A = ℕ} 0 1 = cc in omega arith)
no_fault false e r h = (refl, h)

long_enough : (bs : List ℕ) → length_fault bs ≡ None → (12 ≤ length bs) × (length bs ≡ skin_end bs)
long_enough bs h =
    let a = no_fault (ltb (length bs) 12) _ _ h in
    let b = no_fault (ltb (length bs) (skin_end bs)) _ _ a.1 in
    let c = no_fault (ltb (skin_end bs) (length bs)) _ _ b.1 in
    let low = ltb-false (length bs) (skin_end bs) b.0 in
    let high = ltb-false (skin_end bs) (length bs) c.0 in
    (ltb-false (length bs) 12 a.0, omega arith)

right_length : (bs : List ℕ) → 12 ≤ length bs → length bs ≡ skin_end bs → length_fault bs ≡ None
right_length bs l e =
    cond-false (ltb (length bs) 12) _ _ (le-ltb (length bs) 12 l)
    ∙ cond-false (ltb (length bs) (skin_end bs)) _ _ (le-ltb (length bs) (skin_end bs) (omega arith))
    ∙ cond-false (ltb (skin_end bs) (length bs)) _ _ (le-ltb (skin_end bs) (length bs) (omega arith))

-- bytes are the digits to the base 256 of the number that they hold
low : (a q : ℕ) → a < 256 → (a + 256 * q) % 256 ≡ a
low a q l = omega arith

high : (a q : ℕ) → a < 256 → (a + 256 * q) / 256 ≡ q
high a q l = omega arith

two_digits : (a b : ℕ) → a < 256 → b < 256 → two_bytes (a + 256 * b) ≡ a ∷ b ∷ []
two_digits a b la lb =
    let e = ap (λ m. m % 256) (high a b la) ∙ mod-eq_of_lt lb in
    λ j. low a b la j ∷ e j ∷ []

four_digits : (a b c d : ℕ) → a < 256 → b < 256 → c < 256 → d < 256 → four_bytes (a + 256 * (b + 256 * (c + 256 * d))) ≡ a ∷ b ∷ c ∷ d ∷ []
four_digits a b c d la lb lc ld =
    let n = a + 256 * (b + 256 * (c + 256 * d)) in
    let first : n / 256 ≡ b + 256 * (c + 256 * d) = high a (b + 256 * (c + 256 * d)) la in
    let second : n / 65536 ≡ c + 256 * d = sym (div-div-eq-div-mul n 256 256) ∙ ap (λ m. m / 256) first ∙ high b (c + 256 * d) lb in
    let third : n / 16777216 ≡ d = sym (div-div-eq-div-mul n 65536 256) ∙ ap (λ m. m / 256) second ∙ high c d lc in
    let e0 = low a (b + 256 * (c + 256 * d)) la in
    let e1 = ap (λ m. m % 256) first ∙ low b (c + 256 * d) lb in
    let e2 = ap (λ m. m % 256) second ∙ low c d lc in
    let e3 = ap (λ m. m % 256) third ∙ mod-eq_of_lt ld in
    λ j. e0 j ∷ e1 j ∷ e2 j ∷ e3 j ∷ []

-- reading at a place where a number was written
read_two : (n : ℕ) → n < 65536 → (bs rest : List ℕ) (i : ℕ) → drop i bs ≡ two_bytes n ++ rest → short_at bs i ≡ n
read_two n l bs rest i e =
    let a : get_or bs i 0 ≡ n % 256 = ap (λ k. get_or bs k 0) (sym (add-zero i)) ∙ sym (get_or-drop i bs 0 0) ∙ ap (λ xs. get_or xs 0 0) e in
    let b : get_or bs (i + 1) 0 ≡ n / 256 % 256 = sym (get_or-drop i bs 1 0) ∙ ap (λ xs. get_or xs 1 0) e in
    omega arith

read_four : (n : ℕ) → n < 2 ^ 32 → (bs rest : List ℕ) (i : ℕ) → drop i bs ≡ four_bytes n ++ rest → number_at bs i ≡ n
read_four n l bs rest i e =
    let a : get_or bs i 0 ≡ n % 256 = ap (λ k. get_or bs k 0) (sym (add-zero i)) ∙ sym (get_or-drop i bs 0 0) ∙ ap (λ xs. get_or xs 0 0) e in
    let b : get_or bs (i + 1) 0 ≡ n / 256 % 256 = sym (get_or-drop i bs 1 0) ∙ ap (λ xs. get_or xs 1 0) e in
    let c : get_or bs (i + 2) 0 ≡ n / 65536 % 256 = sym (get_or-drop i bs 2 0) ∙ ap (λ xs. get_or xs 2 0) e in
    let d : get_or bs (i + 3) 0 ≡ n / 16777216 % 256 = sym (get_or-drop i bs 3 0) ∙ ap (λ xs. get_or xs 3 0) e in
    let last : n / 16777216 % 256 ≡ n / 16777216 = mod-eq_of_lt (omega arith) in
    omega (arith, div-div-eq-div-mul n 256 256, div-div-eq-div-mul n 65536 256)

-- a list is read back from its numbers in a row
drop_joined : (f : ℕ → List ℕ) (w : ℕ) → ((x : ℕ) → length (f x) ≡ w) → (xs rest : List ℕ) (i : ℕ) → i < length xs → (more : List ℕ) × (drop (w * i) (flat_map f xs ++ rest) ≡ f (get_or xs i 0) ++ more)
drop_joined f w e [] rest i l = absurd (omega arith)
drop_joined f w e (x ∷ xs) rest zero l =
    (flat_map f xs ++ rest, ap (λ n. drop n ((f x ++ flat_map f xs) ++ rest)) (mul-zero w) ∙ append_assoc (f x) (flat_map f xs) rest)
drop_joined f w e (x ∷ xs) rest (suc i) l =
    let h = drop_joined f w e xs rest i (omega arith) in
    let n : w * suc i ≡ w + w * i = omega (arith, mul-suc w i) in (
      h.0,
      ap₂ drop n (append_assoc (f x) (flat_map f xs) rest)
          ∙ sym (drop-drop (w * i) w (f x ++ (flat_map f xs ++ rest)))
          ∙ ap (drop (w * i)) (drop_at (f x) (flat_map f xs ++ rest) w (e x))
          ∙ h.1,
    )

read_list : (f : ℕ → List ℕ) (w : ℕ) → ((x : ℕ) → length (f x) ≡ w) → (P : ℕ → Type 0) (bs : List ℕ) (read : ℕ → ℕ) → ((n : ℕ) → P n → (rest : List ℕ) (i : ℕ) → drop i bs ≡ f n ++ rest → read i ≡ n) → (xs rest : List ℕ) (at n : ℕ) → drop at bs ≡ flat_map f xs ++ rest → AllByRecursion P xs → n ≡ length xs → below n (λ i. read (at + w * i) ∷ []) ≡ xs
read_list f w long P bs read reads xs rest at n e ok count =
    let there : ℕ → ℕ = λ i. read (at + w * i) in
    ext_get_or 0 (below n (λ i. there i ∷ [])) xs (length_listed there n ∙ count)
    (λ i l.
    let l' : i < n = omega (arith, length_listed there n) in
    let h = drop_joined f w long xs rest i (omega arith) in
    get_or_listed there n i l'
    ∙ reads (get_or xs i 0) (every_get_or P xs i (omega arith) ok) h.0 (at + w * i) (sym (drop-drop (w * i) at bs) ∙ ap (drop (w * i)) e ∙ h.1))

pub length_skin : (corners triangles : List ℕ) (parts : ℕ) → length (skin_bytes corners triangles parts) ≡ skin_size corners triangles
length_skin xs ts parts =
    omega (arith, length-append (flat_map two_bytes xs) (flat_map four_bytes ts), length_joined two_bytes 2 (λ x. refl) xs, length_joined four_bytes 4 (λ x. refl) ts)

pub read_back : ReadBack
read_back xs ts parts h =
    let body = flat_map two_bytes xs ++ flat_map four_bytes ts in
    let bs = skin_bytes xs ts parts in
    let c : corner_count bs ≡ length xs / 3 = read_four (length xs / 3) h.corners_few bs (four_bytes (length ts / 4) ++ (four_bytes parts ++ body)) 0 refl in
    let t : triangle_count bs ≡ length ts / 4 = read_four (length ts / 4) h.triangles_few bs (four_bytes parts ++ body) 4 refl in
    let p : part_count bs ≡ parts = read_four parts h.parts_few bs body 8 refl in
    let long = length_skin xs ts parts in
    let w3 = h.corners_whole in
    let w4 = h.triangles_whole in
    let behind : drop (triangles_from bs) bs ≡ flat_map four_bytes ts ++ [] =
    sym (drop-drop (6 * corner_count bs) 12 bs) ∙ drop_at (flat_map two_bytes xs) (flat_map four_bytes ts) (6 * corner_count bs) (omega (arith, length_joined two_bytes 2 (λ x. refl) xs)) ∙ sym (append-nil (flat_map four_bytes ts)) in
    record {
      verdict = right_length bs (omega arith) (omega arith);
      corners_counted = c;
      triangles_counted = t;
      parts_counted = p;
      coordinates_are = read_list two_bytes 2 (λ x. refl) (λ n. n < 65536) bs (short_at bs) (λ n l. read_two n l bs) xs (flat_map four_bytes ts) 12 (3 * corner_count bs) refl h.coordinates_short (omega arith);
      numbers_are = read_list four_bytes 4 (λ x. refl) (λ n. n < 2 ^ 32) bs (number_at bs) (λ n l. read_four n l bs) ts [] (triangles_from bs) (4 * triangle_count bs) behind h.numbers_short (omega arith);
    }

module _ (bs : List ℕ) where
  -- a part of the bytes, and what lies behind it
  part_then : (part rest : List ℕ) (a k b : ℕ) → part ≡ take k (drop a bs) → rest ≡ drop b bs → a + k ≡ b → part ++ rest ≡ drop a bs
  part_then part rest a k b p r e =
      ap₂ (λ s t. s ++ t) p (r ∙ ap (λ n. drop n bs) (sym e) ∙ sym (drop-drop k a bs)) ∙ take-append-drop k (drop a bs)

  -- numbers that were read are written as the bytes that they were read from
  write_list : (f : ℕ → List ℕ) (read : ℕ → ℕ) (w at n : ℕ) → ((i : ℕ) → i < n → f (read (at + w * i)) ≡ take w (drop (at + w * i) bs)) → flat_map f (below n (λ i. read (at + w * i) ∷ [])) ≡ take (w * n) (drop at bs)
  write_list f read w at zero e = ap (λ k. take k (drop at bs)) (sym (mul-zero w))
  write_list f read w at (suc n) e =
      joined_append f (below n (λ i. read (at + w * i) ∷ [])) (read (at + w * n) ∷ [])
      ∙ ap₂ (λ s t. s ++ t)
      (write_list f read w at n (λ i l. e i (omega arith)))
      (append-nil (f (read (at + w * n))) ∙ e n (omega arith) ∙ ap (take w) (sym (drop-drop (w * n) at bs)))
      ∙ sym (take-add (w * n) w (drop at bs))
      ∙ ap (λ k. take k (drop at bs)) (sym (mul-suc w n))

  take_next : (k i j : ℕ) → j ≡ i + 1 → i < length bs → take (suc k) (drop i bs) ≡ get_or bs i 0 ∷ take k (drop j bs)
  take_next k i j e l = ap (take (suc k)) (drop_more bs i 0 l ∙ ap (λ n. get_or bs i 0 ∷ drop n bs) (sym e))

  module _ (byte : (i : ℕ) → i < length bs → get_or bs i 0 < 256) where
    write_two : (i : ℕ) → i + 2 ≤ length bs → two_bytes (short_at bs i) ≡ take 2 (drop i bs)
    write_two i l =
        two_digits (get_or bs i 0) (get_or bs (i + 1) 0) (byte i (omega arith)) (byte (i + 1) (omega arith))
        ∙ sym (take_next 1 i (i + 1) refl (omega arith) ∙ ap (λ s. get_or bs i 0 ∷ s) (take_next 0 (i + 1) (i + 2) (omega arith) (omega arith)))

    write_four : (i : ℕ) → i + 4 ≤ length bs → four_bytes (number_at bs i) ≡ take 4 (drop i bs)
    write_four i l =
        four_digits (get_or bs i 0) (get_or bs (i + 1) 0) (get_or bs (i + 2) 0) (get_or bs (i + 3) 0) (byte i (omega arith)) (byte (i + 1) (omega arith)) (byte (i + 2) (omega arith)) (byte (i + 3) (omega arith))
        ∙ sym
        (take_next 3 i (i + 1) refl (omega arith)
        ∙ ap (λ s. get_or bs i 0 ∷ s) (take_next 2 (i + 1) (i + 2) (omega arith) (omega arith))
        ∙ ap (λ s. get_or bs i 0 ∷ get_or bs (i + 1) 0 ∷ s) (take_next 1 (i + 2) (i + 3) (omega arith) (omega arith))
        ∙ ap (λ s. get_or bs i 0 ∷ get_or bs (i + 1) 0 ∷ get_or bs (i + 2) 0 ∷ s) (take_next 0 (i + 3) (i + 4) (omega arith) (omega arith)))

pub written_back : WrittenBack
written_back bs bytes h =
    let long = long_enough bs h in
    let from = triangles_from bs in
    let byte : (i : ℕ) → i < length bs → get_or bs i 0 < 256 = λ i l. every_get_or (λ b. b < 256) bs i l bytes in
    let corners : length (coordinates_in bs) / 3 ≡ corner_count bs = omega (arith, length_listed (λ i. short_at bs (12 + 2 * i)) (3 * corner_count bs)) in
    let triangles : length (triangles_in bs) / 4 ≡ triangle_count bs = omega (arith, length_listed (λ i. number_at bs (from + 4 * i)) (4 * triangle_count bs)) in
    record {
      verdict = h;
      again =
          part_then bs _ _ 0 4 4 (ap four_bytes corners ∙ write_four bs byte 0 (omega arith))
          (part_then bs _ _ 4 4 8 (ap four_bytes triangles ∙ write_four bs byte 4 (omega arith))
          (part_then bs _ _ 8 4 12 (write_four bs byte 8 (omega arith))
          (part_then bs _ _ 12 (2 * (3 * corner_count bs)) from (write_list bs two_bytes (short_at bs) 2 12 (3 * corner_count bs) (λ i l. write_two bs byte (12 + 2 * i) (omega arith)))
          (write_list bs four_bytes (number_at bs) 4 from (4 * triangle_count bs) (λ i l. write_four bs byte (from + 4 * i) (omega arith))
          ∙ take_all (4 * (4 * triangle_count bs)) (drop from bs) (omega (arith, length-drop from bs)))
          (omega arith))
          refl)
          refl)
          refl;
    }
