-- `same a b` is true exactly if a and b are equal. Assumes nothing.
use mathlib.Core.Path.{◌≡◌, refl, sym, ap, ap₂, ◌∙◌}
use mathlib.Core.Bool.{Bool, true, false}
use mathlib.Core.List.{List, [], ◌∷◌}
use Prim.Native.Nat.{ℕ}
use borrow.Author.Tests.{eq-eqb, eqb-true}
use lib.Dec.{eqb}
use Rattle.answer.specs.Tests.{both, same}

pub both_true : (a b : Bool) → both a b ≡ true → (a ≡ true) × (b ≡ true)
unfolding both
both_true true b h = (refl, h)
both_true false b h = (h, cc)

pub both_of : (a b : Bool) → a ≡ true → b ≡ true → both a b ≡ true
unfolding both
both_of a b p q = rw (p, q) refl

pub same_refl : (a : List ℕ) → same a a ≡ true
unfolding same both
same_refl [] = refl
same_refl (x ∷ a) = rw (eq-eqb x x refl) (same_refl a)

pub same_equal : (a b : List ℕ) → same a b ≡ true → a ≡ b
unfolding same
same_equal [] [] h = refl
same_equal [] (y ∷ b) h = cc
same_equal (x ∷ a) [] h = cc
same_equal (x ∷ a) (y ∷ b) h =
    let t = both_true (eqb x y) (same a b) h in
    ap₂ (λ (z : ℕ) (l : List ℕ). z ∷ l) (eqb-true x y t.0) (same_equal a b t.1)

-- a test that is true exactly if a and b are equal
pub same_is : (a b : List ℕ) (r : Bool) → (r ≡ true → a ≡ b) × (a ≡ b → r ≡ true) → r ≡ same a b
same_is a b true h = sym (ap (same a) (sym (h.0 refl)) ∙ same_refl a)
same_is a b false h = by (same a b) refl where
  by : (t : Bool) → same a b ≡ t → false ≡ same a b
  by true e = h.1 (same_equal a b e) ∙ sym e
  by false e = sym e
