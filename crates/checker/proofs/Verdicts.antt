-- There is at most one verdict on any bytes, and a skin is accepted exactly if it is good. Assumes nothing.
use Rattle.std.proofs.Common.{◌≡◌, ℕ, zero, suc, ◌+◌, ◌<◌, eqb, List, [], ◌∷◌, ◌++◌, map, length, get_or, Some, None, Option, sym, refl, ap, ◌∙◌, subst, subst₂, ⊎_elim, zero-add, arith}
use Rattle.std.specs.List.{range_with_len, AllByRecursion}
use Rattle.std.proofs.lemmas.List.{ext_get_or, get_or_append_left, get_or_push}
use Rattle.std.proofs.lemmas.Bool.{cases_order, cases_lt}
use Rattle.block.specs.declared.refusal.Refusal.{Refusal}
use Rattle.block.specs.declared.refusal.Refusal.TheVariants.{BadPart}
use Rattle.theory.specs.Triangle.{sum_of, side, sides}
use Rattle.theory.specs.Closed.{EachSideOnce}
use Rattle.theory_parts.specs.Parts.{Numbered}
use Rattle.theory_parts.proofs.Numbering.{only_numbering}
use Rattle.theory_parts.proofs.Joining.{stands_sum}
use Rattle.theory_parts.specs.Buffer.{triangle_at, part_at, count_in, triangles_in, parts_in}
use Rattle.part.proofs.Places.{stands_in}
use Rattle.mesh.specs.Bytes.{corner_count, part_count, triangles_in as numbers_in}
use Rattle.checker.specs.Verdict.{Sound, Matched, Good, All, First, Rule, PartsVerdict, Verdict, Enough, Answer, OneVerdict, OneAnswer, AcceptedIfGood}
use Rattle.checker.specs.Verdict.Rule.{fault, passed}
use Rattle.checker.specs.Verdict.PartsVerdict.{by_first_triangle}
use Rattle.checker.specs.Verdict.Verdict.{wrong_length, right_length}
use Rattle.checker.specs.Verdict.Answer.{too_little, told}

first_one : (fine : ℕ → Type 0) (n i j : ℕ) → First fine n i → First fine n j → i ≡ j
first_one fine n i j f g =
    ⊎_elim (λ e. e) (⊎_elim (λ l. absurd (f.fails (g.before i l))) (λ l. absurd (g.fails (f.before j l)))) (cases_order i j)

rule_one :
    (fine : ℕ → Type 0) (n : ℕ) (named : ℕ → Refusal) (next : Option Refusal → Type 0) →
    ((r s : Option Refusal) → next r → next s → r ≡ s) →
    (r s : Option Refusal) → Rule fine n named next r → Rule fine n named next s → r ≡ s
rule_one fine n named next one r s (fault {i = i} f) (fault {i = j} g) = ap (λ k. Some (named k)) (first_one fine n i j f g)
rule_one fine n named next one r s (fault f) (passed a v) = absurd (f.fails (a _ f.below))
rule_one fine n named next one r s (passed a u) (fault g) = absurd (g.fails (a _ g.below))
rule_one fine n named next one r s (passed a u) (passed b v) = one r s u v

parts_one : (ns : List ℕ) (parts : ℕ) (r s : Option Refusal) → PartsVerdict ns parts r → PartsVerdict ns parts s → r ≡ s
parts_one ns parts r s (by_first_triangle {qs = ps} {m = m} N u) (by_first_triangle {qs = qs} {m = n} M v) =
    let e = only_numbering eqb (triangles_in ns) qs ps n m M N in
    rule_one _ (suc (count_in ns)) BadPart (λ t. t ≡ None) (λ a b p q. p ∙ sym q) r s u
    (subst₂ (λ qs n. Rule (λ i. get_or (parts_in ns ++ parts ∷ []) i 0 ≡ get_or (qs ++ n ∷ []) i 0) (suc (count_in ns)) BadPart (λ t. t ≡ None) s) e.0 e.1 v)

pub one_verdict : OneVerdict
one_verdict bs r s (wrong_length p) (wrong_length q) = sym p ∙ q
one_verdict bs r s (wrong_length p) (right_length q v) = cc
one_verdict bs r s (right_length p u) (wrong_length q) = cc
one_verdict bs r s (right_length p u) (right_length q v) =
    rule_one _ _ _ _ (rule_one _ _ _ _ (rule_one _ _ _ _ (parts_one (numbers_in bs) (part_count bs)))) r s u v

pub counting_length : {A : Type 0} (f : ℕ → A) (a n : ℕ) → length (map f (range_with_len a n)) ≡ n
counting_length f a zero = refl
counting_length f a (suc n) = ap suc (counting_length f (a + 1) n)

-- what holds at each place of a list made from a function of the place
pub every_counting : {A : Type 0} (P : A → Type 0) (f : ℕ → A) (a n : ℕ) → ((i : ℕ) → i < n → P (f (a + i))) → AllByRecursion P (map f (range_with_len a n))
every_counting P f a zero h = tt
every_counting P f a (suc n) h = (
  subst (λ k. P (f k)) (omega arith) (h 0 (omega arith)),
  every_counting P f (a + 1) n (λ i l. subst (λ k. P (f k)) (omega arith) (h (suc i) (omega arith))),
)

every_at : {A : Type 0} (P : A → Type 0) (f : ℕ → A) (a n i : ℕ) → AllByRecursion P (map f (range_with_len a n)) → i < n → P (f (a + i))
every_at P f a zero i e l = absurd (omega arith)
every_at P f a (suc n) zero e l = subst (λ k. P (f k)) (omega arith) e.0
every_at P f a (suc n) (suc i) e l = subst (λ k. P (f k)) (omega arith) (every_at P f (a + 1) n i e.1 (omega arith))

-- a sum above 0 has a place above 0
pub above_zero : {A : Type 0} (h : A → ℕ) (f : ℕ → A) (a n : ℕ) → 0 < sum_of h (map f (range_with_len a n)) → (i : ℕ) × (i < n) × (0 < h (f (a + i)))
above_zero h f a zero l = absurd (omega arith)
above_zero h f a (suc n) l =
    ⊎_elim
    (λ here. (0, omega arith, subst (λ k. 0 < h (f k)) (omega arith) here))
    (λ none. let r = above_zero h f (a + 1) n (omega arith) in (suc r.0, omega (arith, r.1), subst (λ k. 0 < h (f k)) (omega arith) r.2))
    (cases_lt 0 (h (f a)))

module _ (ns : List ℕ) where
  pub closed_matched : EachSideOnce eqb (triangles_in ns) → All (λ i. Matched (triangles_in ns) (triangle_at ns i)) (count_in ns)
  closed_matched once i l c d h =
      let s = stands_sum (side eqb c d) (triangles_in ns) i (triangle_at ns i) (stands_in (triangle_at ns) (count_in ns) i l) in
      let o = once c d in
      (omega arith, omega arith)

  pub matched_closed : All (λ i. Matched (triangles_in ns) (triangle_at ns i)) (count_in ns) → EachSideOnce eqb (triangles_in ns)
  matched_closed matched c d =
      ⊎_elim (λ there. let m = both c d there in (omega arith, omega arith))
      (λ none. ⊎_elim (λ back. let m = both d c back in (omega arith, omega arith)) (λ no-back. (omega arith, omega arith)) (cases_lt 0 (sides eqb d c (triangles_in ns))))
      (cases_lt 0 (sides eqb c d (triangles_in ns)))
    where
      both : (c d : ℕ) → 0 < sides eqb c d (triangles_in ns) → (sides eqb c d (triangles_in ns) ≡ 1) × (sides eqb d c (triangles_in ns) ≡ 1)
      both c d h =
          let r = above_zero (side eqb c d) (triangle_at ns) 0 (count_in ns) h in
          matched r.0 r.1 c d (subst (λ k. 0 < side eqb c d (triangle_at ns k)) (zero-add r.0) r.2)

accepted_good : (bs : List ℕ) → Verdict bs None → Good bs
accepted_good bs (right_length e (passed sound (passed matched (passed ringed (by_first_triangle {qs = qs} {m = m} N (passed agree last)))))) =
    record {
      whole = e;
      sound = every_counting (Sound (corner_count bs)) (triangle_at ns) 0 (count_in ns) (λ i l. subst (λ k. Sound (corner_count bs) (triangle_at ns k)) (sym (zero-add i)) (sound i l));
      closed = matched_closed ns matched;
      ringed = ringed;
      numbered = subst₂ (Numbered eqb (triangles_in ns)) (sym same_parts) (sym same_count) N;
    }
  where
    ns : List ℕ
    ns = numbers_in bs

    long : length qs ≡ count_in ns
    long = N.long ∙ counting_length (triangle_at ns) 0 (count_in ns)

    counted : length (parts_in ns) ≡ count_in ns
    counted = counting_length (part_at ns) 0 (count_in ns)

    same_parts : parts_in ns ≡ qs
    same_parts =
        ext_get_or 0 (parts_in ns) qs (counted ∙ sym long)
        (λ i l. sym (get_or_append_left (parts_in ns) (part_count bs ∷ []) 0 i l) ∙ agree i (omega (arith, counted)) ∙ get_or_append_left qs (m ∷ []) 0 i (omega (arith, counted, long)))

    same_count : part_count bs ≡ m
    same_count =
        sym (get_or_push (parts_in ns) (part_count bs) 0 (count_in ns) counted) ∙ agree (count_in ns) (omega arith) ∙ get_or_push qs m 0 (count_in ns) long

pub accepted_if_good : AcceptedIfGood
accepted_if_good bs = (
  accepted_good bs,
  λ g.
      right_length g.whole
      (passed (λ i l. subst (λ k. Sound (corner_count bs) (triangle_at (numbers_in bs) k)) (zero-add i) (every_at (Sound (corner_count bs)) (triangle_at (numbers_in bs)) 0 (count_in (numbers_in bs)) i g.sound l))
      (passed (closed_matched (numbers_in bs) g.closed)
      (passed g.ringed
      (by_first_triangle g.numbered (passed (λ i l. refl) refl))))),
)

-- an answer is the verdict, unless the work does not suffice
pub one_answer : OneAnswer
one_answer bs room r s (Answer.wrong_length p) (Answer.wrong_length q) = sym p ∙ q
one_answer bs room r s (Answer.wrong_length p) (too_little q n) = cc
one_answer bs room r s (Answer.wrong_length p) (told q n v) = cc
one_answer bs room r s (too_little p m) (Answer.wrong_length q) = cc
one_answer bs room r s (too_little p m) (too_little q n) = refl
one_answer bs room r s (too_little p m) (told q n v) = absurd (m n)
one_answer bs room r s (told p m u) (Answer.wrong_length q) = cc
one_answer bs room r s (told p m u) (too_little q n) = absurd (n m)
one_answer bs room r s (told p m u) (told q n v) = one_verdict bs r s u v

pub good_if_accepted : (bs : List ℕ) (room : ℕ) → Answer bs room None → Good bs
good_if_accepted bs room (told p m v) = accepted_good bs v

-- a good skin is refused only for want of work
pub good_if_enough : (bs : List ℕ) (room : ℕ) (e : Refusal) → Answer bs room (Some e) → Good bs → Enough bs room → ⊥
good_if_enough bs room e a g m =
    let one : Some e ≡ None = one_answer bs room (Some e) None a (told g.whole m ((accepted_if_good bs).1 g)) in
    let z : ◌≡◌ {A = ℕ} 0 1 = cc in
    omega arith
