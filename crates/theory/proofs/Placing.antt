-- The corners of the skin by their places: they are the edges from inside to outside, and a place gives back its edge. Assumes nothing.
use Rattle.std.proofs.Common.{◌≡◌, ℕ, Bool, true, false, ◌⊎◌, sym, refl, ap, ◌∙◌, subst, inl, inr, true≢false, arith}
use Rattle.theory.specs.Grid.{Point, Border}
use Rattle.theory.specs.Triangle.{edge}
use Rattle.theory.specs.Skin.{Corner}
use Rattle.theory.specs.Closed.{Neighbours, Parted}
use Rattle.theory.specs.Places.{place, On, AmidStep, InRange, OfSkin, Only, Crossed, NoTwoAtOnePlace, CrossedOnce}
use Rattle.theory.proofs.Coordinates.{either_end, step_known, edge_known}

neighbours_turned : (p q : Point) → Neighbours p q → Neighbours q p
neighbours_turned p q n = (n.0, n.1, elim n.2 [ inl e ↦ inr e | inr e ↦ inl e ])

module _ (parted : Parted) (f : Point → Bool) (x y z : ℕ) (border : Border f x y z) (k : Corner → ℕ) (range : InRange f k) where
  crossing : (p q : Point) → OfSkin f x y z (edge p q) → Neighbours p q × (f p ≡ true) × (f q ≡ false)
  crossing p q = (parted f x y z border p q).0

  amid : (p q : Point) → OfSkin f x y z (edge p q) → AmidStep (k (edge p q))
  amid p q h = let a = crossing p q h in let r = range p q a.0 a.1 a.2 in omega arith

  one_at_place : (c d : Corner) → OfSkin f x y z c → OfSkin f x y z d → place k c ≡ place k d → c ≡ d
  one_at_place (edge p q) (edge r s) hc hd e =
      let a = crossing p q hc in
      let b = crossing r s hd in
      elim (step_known p q r s _ _ a.0 b.0 (amid p q hc) (amid r s hd) e) [
        | inl same ↦ λ t. edge (same.0 t) (same.1 t)
        | inr turned ↦ absurd (true≢false (sym a.1 ∙ ap f turned.0 ∙ b.2))
      ]

  on_step : (p q : Point) → Neighbours p q → (c : Corner) → OfSkin f x y z c → On p q (place k c) → (c ≡ edge p q) ⊎ (c ≡ edge q p)
  on_step p q n (edge r s) h = edge_known p q r s _ n (crossing r s h).0 (amid r s h)

  only_leaving : (p q : Point) → Neighbours p q → f p ≡ true → f q ≡ false → Only f x y z k p q (edge p q)
  only_leaving p q n fp fq =
      let h = (parted f x y z border p q).1 (n, fp, fq) in
      record {
        of_skin = h;
        lies = (k (edge p q), (let r = amid p q h in omega arith), refl);
        only = λ d hd on.
            elim (on_step p q n d hd on) [
              | inl e ↦ e
              | inr e ↦ absurd (true≢false (sym (crossing q p (subst (OfSkin f x y z) e hd)).1 ∙ fq))
            ];
      }

  crossed : (p q : Point) → Neighbours p q → Crossed f x y z k p q
  crossed p q n =
      record {
        leaving = only_leaving p q n;
        entering = λ fp fq.
            let back = only_leaving q p (neighbours_turned p q n) fq fp in
            record { of_skin = back.of_skin; lies = either_end q p _ back.lies; only = λ d hd on. back.only d hd (either_end p q _ on) };
        alike = λ same c h on.
            elim (on_step p q n c h on) [
              | inl e ↦ let a = crossing p q (subst (OfSkin f x y z) e h) in true≢false (sym a.1 ∙ same ∙ a.2)
              | inr e ↦ let a = crossing q p (subst (OfSkin f x y z) e h) in true≢false (sym a.1 ∙ sym same ∙ a.2)
            ];
      }

pub no_two_at_one_place : Parted → NoTwoAtOnePlace
no_two_at_one_place parted f x y z border k range = one_at_place parted f x y z border k range

pub crossed_once : Parted → CrossedOnce
crossed_once parted f x y z border k range = crossed parted f x y z border k range
