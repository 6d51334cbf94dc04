-- DES never sees the lowest bit of a key's byte: keys whose bytes have the same halves encrypt and decrypt alike. Assumes nothing.
use mathlib.Core.Path.{◌≡◌, refl, sym, ap, ◌∙◌}
use mathlib.Core.Bool.{Bool, false}
use mathlib.Core.List.{List, [], ◌∷◌, ◌++◌, map, reverse}
use Prim.Native.Nat.{ℕ, ◌/◌}
use lib.ListN.{take, drop}
use Rattle.cipher.specs.Bits.{bits, to_bits, to_bytes}
use Rattle.cipher.specs.Fips46.{select, shifts, keys_from, KS, PC1, crypt, encipher, decipher, des_encrypt, des_decrypt}

-- the bits of bytes with these halves, each lowest bit false
cleared : List ℕ → List Bool
cleared [] = []
cleared (y ∷ ys) = bits 7 y ++ (false ∷ cleared ys)

-- PC-1 names none of the bits 8, 16, .., 64
pc1_cleared : (k : List ℕ) → select PC1 (to_bits k) ≡ select PC1 (cleared (map (λ x. x / 2) k))
unfolding select PC1 to_bits bits cleared
pc1_cleared [] = refl
pc1_cleared (a ∷ []) = refl
pc1_cleared (a ∷ b ∷ []) = refl
pc1_cleared (a ∷ b ∷ c ∷ []) = refl
pc1_cleared (a ∷ b ∷ c ∷ d ∷ []) = refl
pc1_cleared (a ∷ b ∷ c ∷ d ∷ e ∷ []) = refl
pc1_cleared (a ∷ b ∷ c ∷ d ∷ e ∷ f ∷ []) = refl
pc1_cleared (a ∷ b ∷ c ∷ d ∷ e ∷ f ∷ g ∷ []) = refl
pc1_cleared (a ∷ b ∷ c ∷ d ∷ e ∷ f ∷ g ∷ h ∷ k) = refl

module _ (k k' : List ℕ) (e : map (λ x. x / 2) k ≡ map (λ x. x / 2) k') where
  schedule_halves : KS (to_bits k) ≡ KS (to_bits k')
  unfolding KS
  schedule_halves =
      ap (λ (b : List Bool). keys_from shifts (take 28 b) (drop 28 b))
      (pc1_cleared k ∙ ap (λ (l : List ℕ). select PC1 (cleared l)) e ∙ sym (pc1_cleared k'))

  pub des_encrypt_halves : (block : List ℕ) → des_encrypt k block ≡ des_encrypt k' block
  unfolding des_encrypt encipher
  des_encrypt_halves block = ap (λ (ks : List (List Bool)). to_bytes 8 (crypt ks (to_bits block))) schedule_halves

  pub des_decrypt_halves : (block : List ℕ) → des_decrypt k block ≡ des_decrypt k' block
  unfolding des_decrypt decipher
  des_decrypt_halves block = ap (λ (ks : List (List Bool)). to_bytes 8 (crypt (reverse ks) (to_bits block))) schedule_halves
