-- Sums of any weight: over lists put together, over the pieces of a cube, over the cubes of a skin. Assumes nothing.
use Rattle.std.proofs.Common.{◌≡◌, ℕ, zero, suc, ◌+◌, ◌<◌, Bool, List, [], ◌∷◌, ◌++◌, map, length, sym, refl, ap, ◌∙◌, ap₂, add_assoc, zero-add, one-add, arith}
use mathlib.Core.Path.{fun_ext}
use Rattle.std.specs.List.{flat_map, AllByRecursion}
use Rattle.theory.specs.Grid.{Point, pt, pieces}
use Rattle.theory.specs.Triangle.{sum_of}
use Rattle.theory.specs.Skin.{Triangle, in_piece, cube, below, skin}
use Rattle.theory.specs.Faces.{sum_below, over_cubes}

pub sum_append : {A : Type 0} (h : A → ℕ) (xs ys : List A) → sum_of h (xs ++ ys) ≡ sum_of h xs + sum_of h ys
sum_append h [] ys = sym (zero-add _)
sum_append h (x ∷ xs) ys = ap (λ n. h x + n) (sum_append h xs ys) ∙ sym (add_assoc (h x) (sum_of h xs) (sum_of h ys))

pub sum_joined : {A B : Type 0} (h : B → ℕ) (g : A → List B) (xs : List A) → sum_of h (flat_map g xs) ≡ sum_of (λ x. sum_of h (g x)) xs
sum_joined h g [] = refl
sum_joined h g (x ∷ xs) = sum_append h (g x) (flat_map g xs) ∙ ap (λ n. sum_of h (g x) + n) (sum_joined h g xs)

pub sum_map : {A B : Type 0} (h : B → ℕ) (g : A → B) (xs : List A) → sum_of h (map g xs) ≡ sum_of (λ x. h (g x)) xs
sum_map h g [] = refl
sum_map h g (x ∷ xs) = ap (λ n. h (g x) + n) (sum_map h g xs)

pub sum_ones : {A : Type 0} (xs : List A) → sum_of (λ x. 1) xs ≡ length xs
sum_ones [] = refl
sum_ones (x ∷ xs) = ap (λ n. 1 + n) (sum_ones xs) ∙ one-add (length xs)

pub sum_same : {A : Type 0} (h g : A → ℕ) → ((x : A) → h x ≡ g x) → (xs : List A) → sum_of h xs ≡ sum_of g xs
sum_same h g e xs = ap (λ k. sum_of k xs) (fun_ext e)

pub sum_below_list : {A : Type 0} (h : A → ℕ) (n : ℕ) (g : ℕ → List A) → sum_of h (below n g) ≡ sum_below n (λ i. sum_of h (g i))
sum_below_list h zero g = refl
sum_below_list h (suc n) g = sum_append h (below n g) (g n) ∙ ap (λ m. m + sum_of h (g n)) (sum_below_list h n g)

pub sum_below_same : (n : ℕ) (h g : ℕ → ℕ) → ((i : ℕ) → i < n → h i ≡ g i) → sum_below n h ≡ sum_below n g
sum_below_same zero h g e = refl
sum_below_same (suc n) h g e = ap₂ (λ a b. a + b) (sum_below_same n h g (λ i l. e i (omega arith))) (e n (omega arith))

pub sum_below_zero : (n : ℕ) (h : ℕ → ℕ) → ((i : ℕ) → i < n → h i ≡ 0) → sum_below n h ≡ 0
sum_below_zero zero h e = refl
sum_below_zero (suc n) h e =
    let a : sum_below n h ≡ 0 = sum_below_zero n h (λ i l. e i (omega arith)) in
    let b : h n ≡ 0 = e n (omega arith) in
    omega arith

pub sum_below_add : (n : ℕ) (h g : ℕ → ℕ) → sum_below n (λ i. h i + g i) ≡ sum_below n h + sum_below n g
sum_below_add zero h g = refl
sum_below_add (suc n) h g = let a = sum_below_add n h g in omega arith

-- a weight of triangles over the whole skin is its sum over the cubes, and over a cube its sum over the pieces
pub sum_skin : (h : Triangle → ℕ) (f : Point → Bool) (x y z : ℕ) → sum_of h (skin f x y z) ≡ over_cubes x y z (λ p. sum_of h (cube f p))
unfolding skin
sum_skin h f x y z =
    sum_below_list h z _
    ∙ sum_below_same z _ _ (λ k _. sum_below_list h y _ ∙ sum_below_same y _ _ (λ j _. sum_below_list h x _))

pub sum_cube : (h : Triangle → ℕ) (f : Point → Bool) (p : Point) → sum_of h (cube f p) ≡ sum_of (λ w. sum_of h (in_piece f p w)) pieces
unfolding cube
sum_cube h f p = sum_joined h (in_piece f p) pieces

pub every_append : {A : Type 0} (P : A → Type 0) (xs ys : List A) → AllByRecursion P xs → AllByRecursion P ys → AllByRecursion P (xs ++ ys)
every_append P [] ys a b = b
every_append P (x ∷ xs) ys a b = (a.0, every_append P xs ys a.1 b)

pub every_joined : {A B : Type 0} (P : B → Type 0) (g : A → List B) (xs : List A) → AllByRecursion (λ x. AllByRecursion P (g x)) xs → AllByRecursion P (flat_map g xs)
every_joined P g [] a = tt
every_joined P g (x ∷ xs) a = every_append P (g x) (flat_map g xs) a.0 (every_joined P g xs a.1)

-- and the other way round
pub every_split : {A : Type 0} (P : A → Type 0) (xs ys : List A) → AllByRecursion P (xs ++ ys) → AllByRecursion P xs × AllByRecursion P ys
every_split P [] ys a = (tt, a)
every_split P (x ∷ xs) ys a = let r = every_split P xs ys a.1 in ((a.0, r.0), r.1)

pub every_parts : {A B : Type 0} (P : B → Type 0) (g : A → List B) (xs : List A) → AllByRecursion P (flat_map g xs) → AllByRecursion (λ x. AllByRecursion P (g x)) xs
every_parts P g [] a = tt
every_parts P g (x ∷ xs) a = let r = every_split P (g x) (flat_map g xs) a in (r.0, every_parts P g xs r.1)

pub every_below : {A : Type 0} (P : A → Type 0) (n : ℕ) (g : ℕ → List A) → ((i : ℕ) → AllByRecursion P (g i)) → AllByRecursion P (below n g)
every_below P zero g a = tt
every_below P (suc n) g a = every_append P (below n g) (g n) (every_below P n g a) (a n)

-- what holds of the triangles of each piece of each cube holds of the skin's
pub every_skin : (P : Triangle → Type 0) (f : Point → Bool) (x y z : ℕ) → ((p : Point) → AllByRecursion (λ w. AllByRecursion P (in_piece f p w)) pieces) → AllByRecursion P (skin f x y z)
unfolding skin cube
every_skin P f x y z a =
    every_below P z _ (λ k. every_below P y _ (λ j. every_below P x _ (λ i. every_joined P (in_piece f (pt i j k)) pieces (a (pt i j k)))))
