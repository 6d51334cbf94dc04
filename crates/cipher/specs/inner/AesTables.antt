-- From no document: how the AES code holds a state, a round key and a key schedule, and what it makes of a column. A word is a column of the
-- state or a word of the key schedule, its first byte highest. Assumes nothing.
use Rattle.std.specs.Prelude.{◌≡◌, List, [], ◌∷◌, ◌++◌, ℕ, length, take, drop}
use Rattle.cipher.specs.declared.aes.Columns.{Columns}
use Rattle.cipher.specs.declared.aes.RoundKey.{RoundKey}
use Rattle.cipher.specs.Bytes.{tab, words_bytes}
use Rattle.cipher.specs.Fips197.{◌•◌, cell, mixed, power, key_expansion, round_key}

-- the 16 bytes of a state or a round key
abbrev pub bytes_of : Columns → List ℕ
bytes_of s = words_bytes (s.a ∷ s.b ∷ s.c ∷ s.d ∷ [])

-- column c of a state, and all four
unfoldable pub column : List ℕ → ℕ → List ℕ
column s c = tab 4 (λ r. cell s r c)

unfoldable pub columns : List ℕ → List (List ℕ)
columns s = column s 0 ∷ column s 1 ∷ column s 2 ∷ column s 3 ∷ []

-- the last byte of a word comes first
unfoldable pub rot_right : List ℕ → List ℕ
rot_right t = drop 3 t ++ take 3 t

-- the product of the circulant matrix whose first row is a0 a1 a2 a3 with the column x, 0, 0, 0
unfoldable pub multiples : ℕ → ℕ → ℕ → ℕ → ℕ → List ℕ
multiples a0 a1 a2 a3 x = a0 • x ∷ a3 • x ∷ a2 • x ∷ a1 • x ∷ []

-- the product of that matrix with a whole column
unfoldable pub mixed_column : ℕ → ℕ → ℕ → ℕ → List ℕ → List ℕ
mixed_column a0 a1 a2 a3 s = tab 4 (λ r. mixed a0 a1 a2 a3 s r 0)

-- k is round key n of the key, with the power for the next
pub record RoundKeyOf (key : List ℕ) (n : ℕ) (k : RoundKey) : Type 0 where
  pub key_size : length key ≡ 16
  pub words : bytes_of k.words ≡ round_key (key_expansion key) n
  pub next_power : k.power ≡ power n
