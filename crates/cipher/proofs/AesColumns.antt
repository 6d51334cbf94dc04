-- A column of the product with a circulant matrix: what each byte gives, turned to the byte's row, adds up to it. Assumes nothing.
use mathlib.Core.Path.{◌≡◌, refl, sym, ap, ◌∙◌}
use mathlib.Core.List.{List, [], ◌∷◌}
use Prim.Native.Nat.{ℕ}
use lib.Bits.{bit_xor, xor_comm}
use Rattle.cipher.specs.Bytes.{tab, ◌⊕◌}
use Rattle.cipher.specs.Fips197.{◌•◌, cell, mixed}
use Rattle.cipher.specs.inner.AesTables.{multiples, rot_right, mixed_column}
use Rattle.cipher.proofs.Xor.{xor_assoc}
use Rattle.cipher.proofs.Words.{◌◂◌}

-- four numbers, grouped from the right and from the left
flat : (p q r s : ℕ) → bit_xor p (bit_xor q (bit_xor r s)) ≡ bit_xor (bit_xor (bit_xor p q) r) s
flat p q r s = sym (xor_assoc p q (bit_xor r s)) ∙ sym (xor_assoc (bit_xor p q) r s)

-- the first of four numbers may come last
turn : (p q r s : ℕ) → bit_xor (bit_xor (bit_xor p q) r) s ≡ bit_xor (bit_xor (bit_xor q r) s) p
turn p q r s = sym (flat p q r s) ∙ xor_comm p (bit_xor q (bit_xor r s)) ∙ ap (λ (x : ℕ). bit_xor x p) (sym (xor_assoc q r s))

module _ (a0 a1 a2 a3 : ℕ) where
  horner : (x y z v : ℕ) → multiples a0 a1 a2 a3 x ⊕ rot_right (multiples a0 a1 a2 a3 y ⊕ rot_right (multiples a0 a1 a2 a3 z ⊕ rot_right (multiples a0 a1 a2 a3 v)))
      ≡ mixed_column a0 a1 a2 a3 (x ∷ y ∷ z ∷ v ∷ [])
  unfolding multiples ◌⊕◌ rot_right mixed_column tab mixed cell
  horner x y z v =
      flat (a0 • x) (a1 • y) (a2 • z) (a3 • v)
      ◂ (flat (a3 • x) (a0 • y) (a1 • z) (a2 • v) ∙ turn (a3 • x) (a0 • y) (a1 • z) (a2 • v))
      ◂ (flat (a2 • x) (a3 • y) (a0 • z) (a1 • v) ∙ turn (a2 • x) (a3 • y) (a0 • z) (a1 • v) ∙ turn (a3 • y) (a0 • z) (a1 • v) (a2 • x))
      ◂ (flat (a1 • x) (a2 • y) (a3 • z) (a0 • v) ∙ sym (turn (a0 • v) (a1 • x) (a2 • y) (a3 • z)))
      ◂ refl

  -- the same of words p q r s, by what the calls that make them ensure
  pub column_made : {t p q r s : List ℕ} (x y z v : ℕ) → t ≡ p ⊕ rot_right (q ⊕ rot_right (r ⊕ rot_right s)) → p ≡ multiples a0 a1 a2 a3 x → q ≡ multiples a0 a1 a2 a3 y
      → r ≡ multiples a0 a1 a2 a3 z → s ≡ multiples a0 a1 a2 a3 v → t ≡ mixed_column a0 a1 a2 a3 (x ∷ y ∷ z ∷ v ∷ [])
  column_made x y z v e hp hq hr hs = e ∙ rw (hp, hq, hr, hs) (horner x y z v)
