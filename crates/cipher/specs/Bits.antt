-- FIPS 46-3: the strings of bits that it works on, highest first, and their numbers and bytes. Assumes nothing.
use Rattle.std.specs.Prelude.{ℕ, zero, suc, ◌+◌, ◌*◌, ◌/◌, ◌%◌, Bool, true, false, List, [], ◌∷◌, ◌++◌, take, drop}

infixl 65 ◌⊞◌
unfoldable pub bool : ℕ → Bool
bool zero = false
bool (suc x) = true

unfoldable pub digit : Bool → ℕ
digit false = 0
digit true = 1

-- the n low bits of x, highest first
unfoldable pub bits : ℕ → ℕ → List Bool
bits zero x = []
bits (suc n) x = bits n (x / 2) ++ (bool (x % 2) ∷ [])

-- the number that the bits write after those of x
unfoldable pub num_from : ℕ → List Bool → ℕ
num_from x [] = x
num_from x (b ∷ bs) = num_from (x * 2 + digit b) bs

unfoldable pub num : List Bool → ℕ
num bs = num_from 0 bs

unfoldable pub differs : Bool → Bool → Bool
differs false b = b
differs true false = true
differs true true = false

-- bit by bit addition modulo 2
unfoldable pub ◌⊞◌ : List Bool → List Bool → List Bool
◌⊞◌ [] t = []
◌⊞◌ (x ∷ s) [] = []
◌⊞◌ (x ∷ s) (y ∷ t) = differs x y ∷ (s ⊞ t)

-- the bits of a string of bytes
unfoldable pub to_bits : List ℕ → List Bool
to_bits [] = []
to_bits (x ∷ xs) = bits 8 x ++ to_bits xs

-- the n bytes of a string of bits
unfoldable pub to_bytes : ℕ → List Bool → List ℕ
to_bytes zero bs = []
to_bytes (suc n) bs = num (take 8 bs) ∷ to_bytes n (drop 8 bs)
