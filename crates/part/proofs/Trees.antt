-- What becomes of a forest where one parent is changed, and of its trees where they are numbered. Assumes nothing.
use Rattle.std.proofs.Common.{◌≡◌, ℕ, ◌+◌, ◌<◌, ◌≤◌, ◌≢◌, ◌⊎◌, List, length, get_or, set, sym, refl, ap, ◌∙◌, subst, subst₂, inl, inr, arith, length-set, below_more}
use Rattle.std.proofs.lemmas.List.{get_or-set_same, get_or-set_other}
use Rattle.std.proofs.lemmas.Bool.{cases_eq}
use Rattle.theory_parts.specs.Parts.{Connected, itself, step, back, onward}
use Rattle.part.specs.Forest.{parent, Forest, Link, Plus, Alike, Tells, LeastParent}
use Rattle.part.proofs.Connection.{connected_same, alike_trans, with_more, plus_step, plus_turned}

pub link_to_parent : (p : List ℕ) (a : ℕ) → a < length p → Connected (Link p) a (parent p a)
link_to_parent p a l = step (record { below = l; is = refl })

-- the parent of h is v from now on
module _ (p : List ℕ) (h v : ℕ) where
  link_cases : (a b : ℕ) → Link (set p h v) a b → ((a ≡ h) × (b ≡ v)) ⊎ Link p a b
  link_cases a b l =
      elim (cases_eq a h) [
        | inl e ↦ inl (e, sym l.is ∙ ap (parent (set p h v)) e ∙ get_or-set_same p h v 0 (omega (arith, l.below, length-set p h v)))
        | inr n ↦ inr (record { below = omega (arith, l.below, length-set p h v); is = sym (get_or-set_other p h a v 0 n) ∙ l.is })
      ]

  link_kept : (a b : ℕ) → a ≢ h → Link p a b → Link (set p h v) a b
  link_kept a b n l = record { below = omega (arith, l.below, length-set p h v); is = get_or-set_other p h a v 0 n ∙ l.is }

  link_new : h < length p → Link (set p h v) h v
  link_new l = record { below = omega (arith, length-set p h v); is = get_or-set_same p h v 0 l }

  pub forest_set : Forest p → h < length p → v ≤ h → Forest (set p h v)
  forest_set f l d a m =
      elim (cases_eq a h) [
        | inl e ↦ omega (arith, ap (parent (set p h v)) e, get_or-set_same p h v 0 l)
        | inr n ↦ omega (arith, get_or-set_other p h a v 0 n, f a (omega (arith, length-set p h v)))
      ]

-- numbers with one parent are connected already
siblings_connected : (p : List ℕ) (a b : ℕ) → a < length p → b < length p → parent p a ≡ parent p b → Connected (Link p) a b
siblings_connected p a b l m e = onward (step (record { below = l; is = e })) (back (link_to_parent p b m))

pub siblings_alike : (p : List ℕ) (a b : ℕ) → a < length p → b < length p → parent p a ≡ parent p b → Alike (Link p) (Plus (Link p) a b)
siblings_alike p a b l m e =
    record {
      there = λ c d k. step (inl k);
      back = λ c d. elim [
        | inl k ↦ step k
        | inr k ↦ subst₂ (Connected (Link p)) (sym k.0) (sym k.1) (siblings_connected p a b l m e)
      ];
    }

-- x is hung to the parent of y, and its former parent is still to be put into one tree with y
module _ (p : List ℕ) (x y : ℕ) (lx : x < length p) (ly : y < length p) (apart : parent p x ≢ parent p y) where
  abbrev pub hung : List ℕ
  hung = set p x (parent p y)

  joined : Connected (Link hung) x y
  joined =
      onward (step (link_new p x (parent p y) lx))
      (back (step (link_kept p x (parent p y) y (parent p y) (λ e. apart (ap (parent p) (sym e))) (record { below = ly; is = refl }))))

  pub hung_alike : Alike (Plus (Link hung) (parent p x) y) (Plus (Link p) x y)
  hung_alike =
      record {
        there = λ a b. elim [
          | inl k ↦ elim (link_cases p x (parent p y) a b k) [
            | inl e ↦ subst₂ (Connected (Plus (Link p) x y)) (sym e.0) (sym e.1)
                (onward (plus_step (Link p) x y refl refl) (with_more (Link p) x y (link_to_parent p y ly)))
            | inr k ↦ step (inl k)
          ]
          | inr e ↦ subst₂ (Connected (Plus (Link p) x y)) (sym e.0) (sym e.1)
              (onward (back (with_more (Link p) x y (link_to_parent p x lx))) (plus_step (Link p) x y refl refl))
        ];
        back = λ a b. elim [
          | inl k ↦ elim (cases_eq a x) [
            | inl e ↦ subst₂ (Connected (Plus (Link hung) (parent p x) y)) (sym e) (sym (ap (parent p) e) ∙ k.is)
                (onward (with_more (Link hung) (parent p x) y joined) (back (plus_step (Link hung) (parent p x) y refl refl)))
            | inr n ↦ step (inl (link_kept p x (parent p y) a b n k))
          ]
          | inr e ↦ subst₂ (Connected (Plus (Link hung) (parent p x) y)) (sym e.0) (sym e.1) (with_more (Link hung) (parent p x) y joined)
        ];
      }

-- k is hung to m, and its former parent is still to be put into one tree with m
module _ (p : List ℕ) (m k : ℕ) (l : k < length p) where
  moved_to : Connected (Link (set p k m)) k m
  moved_to = step (link_new p k m l)

  moved_there : (u : ℕ) → Connected (Plus (Link p) k m) u m → (a b : ℕ) → Plus (Link (set p k m)) u m a b → Connected (Plus (Link p) k m) a b
  moved_there u w a b (inl h) = elim (link_cases p k m a b h) [ inl e ↦ step (inr e) | inr h ↦ step (inl h) ]
  moved_there u w a b (inr e) = subst₂ (Connected (Plus (Link p) k m)) (sym e.0) (sym e.1) w

  moved_back :
      (u : ℕ) → Connected (Plus (Link (set p k m)) u m) k (parent p k) → (a b : ℕ) → Plus (Link p) k m a b →
      Connected (Plus (Link (set p k m)) u m) a b
  moved_back u w a b (inl h) =
      elim (cases_eq a k) [
        | inl e ↦ subst₂ (Connected (Plus (Link (set p k m)) u m)) (sym e) (sym (ap (parent p) e) ∙ h.is) w
        | inr n ↦ step (inl (link_kept p k m a b n h))
      ]
  moved_back u w a b (inr e) =
      subst₂ (Connected (Plus (Link (set p k m)) u m)) (sym e.0) (sym e.1) (with_more (Link (set p k m)) u m moved_to)

  pub moved_alike : Alike (Plus (Link (set p k m)) (parent p k) m) (Plus (Link p) k m)
  moved_alike =
      record {
        there = moved_there (parent p k) (onward (back (with_more (Link p) k m (link_to_parent p k l))) (plus_step (Link p) k m refl refl));
        back = moved_back (parent p k)
            (onward (with_more (Link (set p k m)) (parent p k) m moved_to) (back (plus_step (Link (set p k m)) (parent p k) m refl refl)));
      }

  -- a root has no other parent
  pub moved_root : parent p k ≡ k → Alike (Plus (Link (set p k m)) m m) (Plus (Link p) k m)
  moved_root e = record { there = moved_there m (itself m); back = moved_back m (connected_same (Plus (Link (set p k m)) m m) (sym e)) }

-- one of three numbers is connected to the least of their parents
pub least_near :
    (p : List ℕ) (a b c m : ℕ) → LeastParent p a b c m → a < length p → b < length p → c < length p →
    Connected (Link p) a m ⊎ (Connected (Link p) b m ⊎ Connected (Link p) c m)
least_near p a b c m least la lb lc =
    elim least.one [
      | inl e ↦ inl (subst (Connected (Link p) a) (sym e) (link_to_parent p a la))
      | inr o ↦ elim o [
        | inl e ↦ inr (inl (subst (Connected (Link p) b) (sym e) (link_to_parent p b lb)))
        | inr e ↦ inr (inr (subst (Connected (Link p) c) (sym e) (link_to_parent p c lc)))
      ]
    ]

-- The forest p has become q, and a and b are in one tree once x and y are.
pub record Joining (p q : List ℕ) (a b x y : ℕ) : Type 0 where
  pub forest : Forest q
  pub first : x < length q
  pub second : y < length q
  pub alike : Alike (Plus (Link q) x y) (Plus (Link p) a b)

pub joining_turned : {p q : List ℕ} {a b x y : ℕ} → Joining p q a b x y → Joining p q a b y x
joining_turned {p} {q} {a} {b} {x} {y} j =
    record { forest = j.forest; first = j.second; second = j.first; alike = alike_trans (plus_turned (Link q) y x) j.alike }

pub joining_more :
    {p q : List ℕ} {a b x y : ℕ} → Joining p q a b x y → parent q y < parent q x →
    Joining p (set q x (parent q y)) a b (parent q x) y
joining_more {p} {q} {a} {b} {x} {y} j l =
    let keeps = length-set q x (parent q y) in
    record {
      forest = forest_set q x (parent q y) j.forest j.first (omega (arith, j.forest x j.first));
      first = omega (arith, keeps, j.forest x j.first, j.first);
      second = omega (arith, keeps, j.second);
      alike = alike_trans (hung_alike q x y j.first j.second (omega arith)) j.alike;
    }

-- The numbers q of the places before c, of which there are n: a place has the number of its parent, and only connected places have one
-- number. The other places still have their parents p.
pub record Numbering (p q : List ℕ) (c n : ℕ) : Type 0 where
  pub few : n ≤ c
  pub ahead : (a : ℕ) → c ≤ a → get_or q a 0 ≡ parent p a
  pub below : (a : ℕ) → a < c → get_or q a 0 < n
  pub low : (a : ℕ) → a < c → get_or q a 0 ≤ a
  pub along : (a : ℕ) → a < c → get_or q a 0 ≡ get_or q (parent p a) 0
  pub apart : (a b : ℕ) → a < c → b < c → get_or q a 0 ≡ get_or q b 0 → Connected (Link p) a b

pub numbering_none : (p : List ℕ) → Numbering p p 0 0
numbering_none p =
    record {
      few = omega arith;
      ahead = λ a h. refl;
      below = λ a h. absurd (omega arith);
      low = λ a h. absurd (omega arith);
      along = λ a h. absurd (omega arith);
      apart = λ a b h. absurd (omega arith);
    }

-- the place c is given the number v
module _ (p q : List ℕ) (c n : ℕ) (t : Numbering p q c n) (f : Forest p) (long : length q ≡ length p) (l : c < length p) where
  other : (v a : ℕ) → a ≢ c → get_or (set q c v) a 0 ≡ get_or q a 0
  other v a e = get_or-set_other q c a v 0 e

  same : (v : ℕ) → get_or (set q c v) c 0 ≡ v
  same v = get_or-set_same q c v 0 (omega arith)

  numbering_more :
      (v m : ℕ) → n ≤ m → m ≤ c + 1 → v < m → v ≡ get_or (set q c v) (parent p c) 0 →
      ((a : ℕ) → a < c → get_or q a 0 ≡ v → Connected (Link p) a c) → Numbering p (set q c v) (c + 1) m
  numbering_more v m more few lt here linked =
      record {
        few = few;
        ahead = λ a h. other v a (omega arith) ∙ t.ahead a (omega arith);
        below = below_more (λ a. get_or (set q c v) a 0 < m) c (λ a h. omega (arith, other v a (omega arith), t.below a h)) (omega (arith, same v));
        low = below_more (λ a. get_or (set q c v) a 0 ≤ a) c (λ a h. omega (arith, other v a (omega arith), t.low a h)) (omega (arith, same v));
        along = below_more (λ a. get_or (set q c v) a 0 ≡ get_or (set q c v) (parent p a) 0) c
            (λ a h. other v a (omega arith) ∙ t.along a h ∙ sym (other v (parent p a) (omega (arith, f a (omega arith)))))
            (same v ∙ here);
        apart = λ a b h k. below_more (λ a. (b : ℕ) → b < c + 1 → get_or (set q c v) a 0 ≡ get_or (set q c v) b 0 → Connected (Link p) a b) c
            (λ a h. below_more (λ b. get_or (set q c v) a 0 ≡ get_or (set q c v) b 0 → Connected (Link p) a b) c
            (λ b k e. t.apart a b h k (sym (other v a (omega arith)) ∙ e ∙ other v b (omega arith)))
            (λ e. linked a h (sym (other v a (omega arith)) ∙ e ∙ same v)))
            (below_more (λ b. get_or (set q c v) c 0 ≡ get_or (set q c v) b 0 → Connected (Link p) c b) c
            (λ b k e. back (linked b k (sym (other v b (omega arith)) ∙ sym e ∙ same v)))
            (λ e. itself c))
            a h b k;
      }

  pub numbering_root : get_or q c 0 ≡ c → Numbering p (set q c n) (c + 1) (n + 1)
  numbering_root e =
      numbering_more n (n + 1) (omega arith) (omega (arith, t.few)) (omega arith)
      (sym (same n) ∙ ap (λ a. get_or (set q c n) a 0) (sym (sym (t.ahead c (omega arith)) ∙ e)))
      (λ a h s. absurd (omega (arith, t.below a h)))

  pub numbering_child : get_or q c 0 ≢ c → Numbering p (set q c (get_or q (get_or q c 0) 0)) (c + 1) n
  numbering_child d =
      let up : get_or q c 0 ≡ parent p c = t.ahead c (omega arith) in
      let before : parent p c < c = omega (arith, f c l) in
      let read : get_or q (get_or q c 0) 0 ≡ get_or q (parent p c) 0 = ap (λ a. get_or q a 0) up in
      numbering_more (get_or q (get_or q c 0) 0) n (omega arith) (omega (arith, t.few)) (omega (arith, t.below (parent p c) before))
      (read ∙ sym (other _ (parent p c) (omega arith)))
      (λ a h s. onward (t.apart a (parent p c) h before (s ∙ read)) (back (link_to_parent p c l)))

-- at the end, numbers tell trees apart, and none is above its corner
module _ (p q : List ℕ) (n : ℕ) (t : Numbering p q (length p) n) where
  connected_same_number : {a b : ℕ} → Connected (Link p) a b → get_or q a 0 ≡ get_or q b 0
  connected_same_number (itself a) = refl
  connected_same_number (step {a} {b} k) = t.along a k.below ∙ ap (λ a. get_or q a 0) k.is
  connected_same_number (back w) = sym (connected_same_number w)
  connected_same_number (onward v w) = connected_same_number v ∙ connected_same_number w

  pub numbering_tells : Tells p q
  numbering_tells =
      record { below = λ a l. omega (arith, t.below a l, t.few); tells = λ a b l m. (t.apart a b l m, connected_same_number) }

  pub numbering_forest : length q ≡ length p → Forest q
  numbering_forest long a l = t.low a (omega arith)
