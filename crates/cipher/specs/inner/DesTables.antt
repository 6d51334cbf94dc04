-- Of this crate alone: the words that the DES code works with, the bits that they stand for, and the rules of its two tables. Assumes nothing.
use Rattle.std.specs.Prelude.{ℕ, ◌+◌, ◌-◌, ◌*◌, ◌/◌, ◌%◌, ◌^◌, Bool, false, List, [], ◌∷◌, ◌++◌, take, drop, get_or, replicate}
use Rattle.std.specs.Int.Bits.{bit_and, bit_xor}
use Rattle.cipher.specs.Bits.{bits}
use Rattle.cipher.specs.Bytes.{tab}
use Rattle.cipher.specs.Fips46.{Halves, select, left_shift, substitute, P, PC2, S1, S2, S3, S4, S5, S6, S7, S8}

-- b after `before` clear bits and before `behind` more
unfoldable pub among : ℕ → ℕ → List Bool → List Bool
among before behind b = replicate before false ++ (b ++ replicate behind false)

-- ---- bits of words

-- the word x, with each bit that the mask m names and the one s places above it exchanged (the mask names no bit that is above another)
unfoldable pub delta_swap : ℕ → ℕ → ℕ → ℕ
delta_swap x m s =
    let t = bit_and (bit_xor x (x / 2 ^ s)) m in
    bit_xor (bit_xor x t) (t * 2 ^ s % 2 ^ 64)

-- the places of the transpose of eight rows of eight bits
unfoldable pub transposed : List ℕ
transposed = tab 64 (λ i. i % 8 * 8 + i / 8 + 1)

-- ---- halves and round keys

-- the 32 bits of a half that a word holds turned left by one place
unfoldable pub held : ℕ → List Bool
held x = left_shift 31 (bits 32 x)

-- the halves that two words hold
abbrev pub holds : ℕ → ℕ → Halves
holds l r = record { L = held l; R = held r }

-- the 48 bits of a packed round key: the six low bits of each byte, where the bytes are the groups 1, 3, 5, 7, 2, 4, 6, 8, highest first
unfoldable pub key_bits : ℕ → List Bool
key_bits k =
    bits 6 (k / 2 ^ 56) ++ (bits 6 (k / 2 ^ 24) ++ (bits 6 (k / 2 ^ 48) ++ (bits 6 (k / 2 ^ 16)
    ++ (bits 6 (k / 2 ^ 40) ++ (bits 6 (k / 2 ^ 8) ++ (bits 6 (k / 2 ^ 32) ++ bits 6 k))))))

-- ---- the table of S and P together: entry 64 j + x is P of what S(j + 1) makes of x, in its place among the eight, turned left by one

unfoldable pub box : ℕ → List ℕ
box j = get_or (S1 ∷ S2 ∷ S3 ∷ S4 ∷ S5 ∷ S6 ∷ S7 ∷ S8 ∷ []) j []

unfoldable pub sp_bits : ℕ → ℕ → List Bool
sp_bits j x = left_shift 1 (select P (among (4 * j) (28 - 4 * j) (substitute (box j) (bits 6 x))))

-- ---- the table of PC-2: entry 128 m + x is the part that the bits x, as the m-th seven bits of C and D, have in a half of a round key

-- the places of four groups of six bits in a word: 2, 4, 1, 3, each after two clear bits (57 is past the bits of C and D)
unfoldable pub packed_places : List ℕ → List ℕ
packed_places p =
    57 ∷ 57 ∷ take 6 (drop 6 p) ++ (57 ∷ 57 ∷ take 6 (drop 18 p) ++ (57 ∷ 57 ∷ take 6 p ++ (57 ∷ 57 ∷ take 6 (drop 12 p))))

-- the places of the half of PC-2 to which the m-th seven bits go
unfoldable pub places : ℕ → List ℕ
places m = packed_places (take 24 (drop (m / 4 * 24) PC2))

unfoldable pub pc2_bits : ℕ → ℕ → List Bool
pc2_bits m x = select (places m) (among (7 * m) (49 - 7 * m) (bits 7 x))
