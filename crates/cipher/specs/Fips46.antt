-- FIPS 46-3, Data Encryption Standard, and triple DES. The tables stand as the paper prints them, and bits have its numbers: bit 1 is the
-- first of a block, the highest of its first byte. Assumes nothing.
use Rattle.std.specs.Prelude.{ℕ, ◌+◌, ◌-◌, ◌*◌, Bool, false, List, [], ◌∷◌, ◌++◌, reverse, take, drop, get_or}
use Rattle.cipher.specs.Bits.{bits, num, ◌⊞◌, to_bits, to_bytes}

-- the bits that a table names, in its order
unfoldable pub select : List ℕ → List Bool → List Bool
select [] b = []
select (p ∷ ps) b = get_or b (p - 1) false ∷ select ps b

-- ---- Enciphering: the initial permutation and its inverse

unfoldable pub IP : List ℕ
IP =
    58 ∷ 50 ∷ 42 ∷ 34 ∷ 26 ∷ 18 ∷ 10 ∷ 2
    ∷ 60 ∷ 52 ∷ 44 ∷ 36 ∷ 28 ∷ 20 ∷ 12 ∷ 4
    ∷ 62 ∷ 54 ∷ 46 ∷ 38 ∷ 30 ∷ 22 ∷ 14 ∷ 6
    ∷ 64 ∷ 56 ∷ 48 ∷ 40 ∷ 32 ∷ 24 ∷ 16 ∷ 8
    ∷ 57 ∷ 49 ∷ 41 ∷ 33 ∷ 25 ∷ 17 ∷ 9 ∷ 1
    ∷ 59 ∷ 51 ∷ 43 ∷ 35 ∷ 27 ∷ 19 ∷ 11 ∷ 3
    ∷ 61 ∷ 53 ∷ 45 ∷ 37 ∷ 29 ∷ 21 ∷ 13 ∷ 5
    ∷ 63 ∷ 55 ∷ 47 ∷ 39 ∷ 31 ∷ 23 ∷ 15 ∷ 7 ∷ []

unfoldable pub IP⁻¹ : List ℕ
IP⁻¹ =
    40 ∷ 8 ∷ 48 ∷ 16 ∷ 56 ∷ 24 ∷ 64 ∷ 32
    ∷ 39 ∷ 7 ∷ 47 ∷ 15 ∷ 55 ∷ 23 ∷ 63 ∷ 31
    ∷ 38 ∷ 6 ∷ 46 ∷ 14 ∷ 54 ∷ 22 ∷ 62 ∷ 30
    ∷ 37 ∷ 5 ∷ 45 ∷ 13 ∷ 53 ∷ 21 ∷ 61 ∷ 29
    ∷ 36 ∷ 4 ∷ 44 ∷ 12 ∷ 52 ∷ 20 ∷ 60 ∷ 28
    ∷ 35 ∷ 3 ∷ 43 ∷ 11 ∷ 51 ∷ 19 ∷ 59 ∷ 27
    ∷ 34 ∷ 2 ∷ 42 ∷ 10 ∷ 50 ∷ 18 ∷ 58 ∷ 26
    ∷ 33 ∷ 1 ∷ 41 ∷ 9 ∷ 49 ∷ 17 ∷ 57 ∷ 25 ∷ []

-- ---- the cipher function f

-- the E bit-selection table
unfoldable pub E : List ℕ
E =
    32 ∷ 1 ∷ 2 ∷ 3 ∷ 4 ∷ 5
    ∷ 4 ∷ 5 ∷ 6 ∷ 7 ∷ 8 ∷ 9
    ∷ 8 ∷ 9 ∷ 10 ∷ 11 ∷ 12 ∷ 13
    ∷ 12 ∷ 13 ∷ 14 ∷ 15 ∷ 16 ∷ 17
    ∷ 16 ∷ 17 ∷ 18 ∷ 19 ∷ 20 ∷ 21
    ∷ 20 ∷ 21 ∷ 22 ∷ 23 ∷ 24 ∷ 25
    ∷ 24 ∷ 25 ∷ 26 ∷ 27 ∷ 28 ∷ 29
    ∷ 28 ∷ 29 ∷ 30 ∷ 31 ∷ 32 ∷ 1 ∷ []

-- the permutation P
unfoldable pub P : List ℕ
P =
    16 ∷ 7 ∷ 20 ∷ 21
    ∷ 29 ∷ 12 ∷ 28 ∷ 17
    ∷ 1 ∷ 15 ∷ 23 ∷ 26
    ∷ 5 ∷ 18 ∷ 31 ∷ 10
    ∷ 2 ∷ 8 ∷ 24 ∷ 14
    ∷ 32 ∷ 27 ∷ 3 ∷ 9
    ∷ 19 ∷ 13 ∷ 30 ∷ 6
    ∷ 22 ∷ 11 ∷ 4 ∷ 25 ∷ []

-- the selection functions S1 to S8 (appendix 1): four rows of sixteen columns each
unfoldable pub S1 : List ℕ
S1 =
    14 ∷ 4 ∷ 13 ∷ 1 ∷ 2 ∷ 15 ∷ 11 ∷ 8 ∷ 3 ∷ 10 ∷ 6 ∷ 12 ∷ 5 ∷ 9 ∷ 0 ∷ 7
    ∷ 0 ∷ 15 ∷ 7 ∷ 4 ∷ 14 ∷ 2 ∷ 13 ∷ 1 ∷ 10 ∷ 6 ∷ 12 ∷ 11 ∷ 9 ∷ 5 ∷ 3 ∷ 8
    ∷ 4 ∷ 1 ∷ 14 ∷ 8 ∷ 13 ∷ 6 ∷ 2 ∷ 11 ∷ 15 ∷ 12 ∷ 9 ∷ 7 ∷ 3 ∷ 10 ∷ 5 ∷ 0
    ∷ 15 ∷ 12 ∷ 8 ∷ 2 ∷ 4 ∷ 9 ∷ 1 ∷ 7 ∷ 5 ∷ 11 ∷ 3 ∷ 14 ∷ 10 ∷ 0 ∷ 6 ∷ 13 ∷ []

unfoldable pub S2 : List ℕ
S2 =
    15 ∷ 1 ∷ 8 ∷ 14 ∷ 6 ∷ 11 ∷ 3 ∷ 4 ∷ 9 ∷ 7 ∷ 2 ∷ 13 ∷ 12 ∷ 0 ∷ 5 ∷ 10
    ∷ 3 ∷ 13 ∷ 4 ∷ 7 ∷ 15 ∷ 2 ∷ 8 ∷ 14 ∷ 12 ∷ 0 ∷ 1 ∷ 10 ∷ 6 ∷ 9 ∷ 11 ∷ 5
    ∷ 0 ∷ 14 ∷ 7 ∷ 11 ∷ 10 ∷ 4 ∷ 13 ∷ 1 ∷ 5 ∷ 8 ∷ 12 ∷ 6 ∷ 9 ∷ 3 ∷ 2 ∷ 15
    ∷ 13 ∷ 8 ∷ 10 ∷ 1 ∷ 3 ∷ 15 ∷ 4 ∷ 2 ∷ 11 ∷ 6 ∷ 7 ∷ 12 ∷ 0 ∷ 5 ∷ 14 ∷ 9 ∷ []

unfoldable pub S3 : List ℕ
S3 =
    10 ∷ 0 ∷ 9 ∷ 14 ∷ 6 ∷ 3 ∷ 15 ∷ 5 ∷ 1 ∷ 13 ∷ 12 ∷ 7 ∷ 11 ∷ 4 ∷ 2 ∷ 8
    ∷ 13 ∷ 7 ∷ 0 ∷ 9 ∷ 3 ∷ 4 ∷ 6 ∷ 10 ∷ 2 ∷ 8 ∷ 5 ∷ 14 ∷ 12 ∷ 11 ∷ 15 ∷ 1
    ∷ 13 ∷ 6 ∷ 4 ∷ 9 ∷ 8 ∷ 15 ∷ 3 ∷ 0 ∷ 11 ∷ 1 ∷ 2 ∷ 12 ∷ 5 ∷ 10 ∷ 14 ∷ 7
    ∷ 1 ∷ 10 ∷ 13 ∷ 0 ∷ 6 ∷ 9 ∷ 8 ∷ 7 ∷ 4 ∷ 15 ∷ 14 ∷ 3 ∷ 11 ∷ 5 ∷ 2 ∷ 12 ∷ []

unfoldable pub S4 : List ℕ
S4 =
    7 ∷ 13 ∷ 14 ∷ 3 ∷ 0 ∷ 6 ∷ 9 ∷ 10 ∷ 1 ∷ 2 ∷ 8 ∷ 5 ∷ 11 ∷ 12 ∷ 4 ∷ 15
    ∷ 13 ∷ 8 ∷ 11 ∷ 5 ∷ 6 ∷ 15 ∷ 0 ∷ 3 ∷ 4 ∷ 7 ∷ 2 ∷ 12 ∷ 1 ∷ 10 ∷ 14 ∷ 9
    ∷ 10 ∷ 6 ∷ 9 ∷ 0 ∷ 12 ∷ 11 ∷ 7 ∷ 13 ∷ 15 ∷ 1 ∷ 3 ∷ 14 ∷ 5 ∷ 2 ∷ 8 ∷ 4
    ∷ 3 ∷ 15 ∷ 0 ∷ 6 ∷ 10 ∷ 1 ∷ 13 ∷ 8 ∷ 9 ∷ 4 ∷ 5 ∷ 11 ∷ 12 ∷ 7 ∷ 2 ∷ 14 ∷ []

unfoldable pub S5 : List ℕ
S5 =
    2 ∷ 12 ∷ 4 ∷ 1 ∷ 7 ∷ 10 ∷ 11 ∷ 6 ∷ 8 ∷ 5 ∷ 3 ∷ 15 ∷ 13 ∷ 0 ∷ 14 ∷ 9
    ∷ 14 ∷ 11 ∷ 2 ∷ 12 ∷ 4 ∷ 7 ∷ 13 ∷ 1 ∷ 5 ∷ 0 ∷ 15 ∷ 10 ∷ 3 ∷ 9 ∷ 8 ∷ 6
    ∷ 4 ∷ 2 ∷ 1 ∷ 11 ∷ 10 ∷ 13 ∷ 7 ∷ 8 ∷ 15 ∷ 9 ∷ 12 ∷ 5 ∷ 6 ∷ 3 ∷ 0 ∷ 14
    ∷ 11 ∷ 8 ∷ 12 ∷ 7 ∷ 1 ∷ 14 ∷ 2 ∷ 13 ∷ 6 ∷ 15 ∷ 0 ∷ 9 ∷ 10 ∷ 4 ∷ 5 ∷ 3 ∷ []

unfoldable pub S6 : List ℕ
S6 =
    12 ∷ 1 ∷ 10 ∷ 15 ∷ 9 ∷ 2 ∷ 6 ∷ 8 ∷ 0 ∷ 13 ∷ 3 ∷ 4 ∷ 14 ∷ 7 ∷ 5 ∷ 11
    ∷ 10 ∷ 15 ∷ 4 ∷ 2 ∷ 7 ∷ 12 ∷ 9 ∷ 5 ∷ 6 ∷ 1 ∷ 13 ∷ 14 ∷ 0 ∷ 11 ∷ 3 ∷ 8
    ∷ 9 ∷ 14 ∷ 15 ∷ 5 ∷ 2 ∷ 8 ∷ 12 ∷ 3 ∷ 7 ∷ 0 ∷ 4 ∷ 10 ∷ 1 ∷ 13 ∷ 11 ∷ 6
    ∷ 4 ∷ 3 ∷ 2 ∷ 12 ∷ 9 ∷ 5 ∷ 15 ∷ 10 ∷ 11 ∷ 14 ∷ 1 ∷ 7 ∷ 6 ∷ 0 ∷ 8 ∷ 13 ∷ []

unfoldable pub S7 : List ℕ
S7 =
    4 ∷ 11 ∷ 2 ∷ 14 ∷ 15 ∷ 0 ∷ 8 ∷ 13 ∷ 3 ∷ 12 ∷ 9 ∷ 7 ∷ 5 ∷ 10 ∷ 6 ∷ 1
    ∷ 13 ∷ 0 ∷ 11 ∷ 7 ∷ 4 ∷ 9 ∷ 1 ∷ 10 ∷ 14 ∷ 3 ∷ 5 ∷ 12 ∷ 2 ∷ 15 ∷ 8 ∷ 6
    ∷ 1 ∷ 4 ∷ 11 ∷ 13 ∷ 12 ∷ 3 ∷ 7 ∷ 14 ∷ 10 ∷ 15 ∷ 6 ∷ 8 ∷ 0 ∷ 5 ∷ 9 ∷ 2
    ∷ 6 ∷ 11 ∷ 13 ∷ 8 ∷ 1 ∷ 4 ∷ 10 ∷ 7 ∷ 9 ∷ 5 ∷ 0 ∷ 15 ∷ 14 ∷ 2 ∷ 3 ∷ 12 ∷ []

unfoldable pub S8 : List ℕ
S8 =
    13 ∷ 2 ∷ 8 ∷ 4 ∷ 6 ∷ 15 ∷ 11 ∷ 1 ∷ 10 ∷ 9 ∷ 3 ∷ 14 ∷ 5 ∷ 0 ∷ 12 ∷ 7
    ∷ 1 ∷ 15 ∷ 13 ∷ 8 ∷ 10 ∷ 3 ∷ 7 ∷ 4 ∷ 12 ∷ 5 ∷ 6 ∷ 11 ∷ 0 ∷ 14 ∷ 9 ∷ 2
    ∷ 7 ∷ 11 ∷ 4 ∷ 1 ∷ 9 ∷ 12 ∷ 14 ∷ 2 ∷ 0 ∷ 6 ∷ 10 ∷ 13 ∷ 15 ∷ 3 ∷ 5 ∷ 8
    ∷ 2 ∷ 1 ∷ 14 ∷ 7 ∷ 4 ∷ 10 ∷ 8 ∷ 13 ∷ 15 ∷ 12 ∷ 9 ∷ 0 ∷ 3 ∷ 5 ∷ 6 ∷ 11 ∷ []

-- the entry of a selection function for six bits: the row is written by the first and the last, the column by the four between
unfoldable pub substitute : List ℕ → List Bool → List Bool
substitute S b = bits 4 (get_or S (num (take 1 b ++ drop 5 b) * 16 + num (take 4 (drop 1 b))) 0)

-- S1(B1) S2(B2) .. for the blocks of six bits of b
unfoldable pub substitute_all : List (List ℕ) → List Bool → List Bool
substitute_all [] b = []
substitute_all (S ∷ Ss) b = substitute S (take 6 b) ++ substitute_all Ss (drop 6 b)

-- f(R, K) = P(S1(B1) S2(B2) .. S8(B8)), where B1 B2 .. B8 = K + E(R)
unfoldable pub f : List Bool → List Bool → List Bool
f r k = select P (substitute_all (S1 ∷ S2 ∷ S3 ∷ S4 ∷ S5 ∷ S6 ∷ S7 ∷ S8 ∷ []) (k ⊞ select E r))

-- ---- the key schedule KS

-- permuted choice 1: C0, then D0
unfoldable pub PC1 : List ℕ
PC1 =
    57 ∷ 49 ∷ 41 ∷ 33 ∷ 25 ∷ 17 ∷ 9
    ∷ 1 ∷ 58 ∷ 50 ∷ 42 ∷ 34 ∷ 26 ∷ 18
    ∷ 10 ∷ 2 ∷ 59 ∷ 51 ∷ 43 ∷ 35 ∷ 27
    ∷ 19 ∷ 11 ∷ 3 ∷ 60 ∷ 52 ∷ 44 ∷ 36
    ∷ 63 ∷ 55 ∷ 47 ∷ 39 ∷ 31 ∷ 23 ∷ 15
    ∷ 7 ∷ 62 ∷ 54 ∷ 46 ∷ 38 ∷ 30 ∷ 22
    ∷ 14 ∷ 6 ∷ 61 ∷ 53 ∷ 45 ∷ 37 ∷ 29
    ∷ 21 ∷ 13 ∷ 5 ∷ 28 ∷ 20 ∷ 12 ∷ 4 ∷ []

-- permuted choice 2
unfoldable pub PC2 : List ℕ
PC2 =
    14 ∷ 17 ∷ 11 ∷ 24 ∷ 1 ∷ 5
    ∷ 3 ∷ 28 ∷ 15 ∷ 6 ∷ 21 ∷ 10
    ∷ 23 ∷ 19 ∷ 12 ∷ 4 ∷ 26 ∷ 8
    ∷ 16 ∷ 7 ∷ 27 ∷ 20 ∷ 13 ∷ 2
    ∷ 41 ∷ 52 ∷ 31 ∷ 37 ∷ 47 ∷ 55
    ∷ 30 ∷ 40 ∷ 51 ∷ 45 ∷ 33 ∷ 48
    ∷ 44 ∷ 49 ∷ 39 ∷ 56 ∷ 34 ∷ 53
    ∷ 46 ∷ 42 ∷ 50 ∷ 36 ∷ 29 ∷ 32 ∷ []

-- the number of left shifts for each round
unfoldable pub shifts : List ℕ
shifts = 1 ∷ 1 ∷ 2 ∷ 2 ∷ 2 ∷ 2 ∷ 2 ∷ 2 ∷ 1 ∷ 2 ∷ 2 ∷ 2 ∷ 2 ∷ 2 ∷ 2 ∷ 1 ∷ []

unfoldable pub left_shift : ℕ → List Bool → List Bool
left_shift n c = drop n c ++ take n c

-- K1, K2, .. by the given shifts: Cn and Dn are the shifted Cn-1 and Dn-1, and Kn is PC-2 of Cn Dn
unfoldable pub keys_from : List ℕ → List Bool → List Bool → List (List Bool)
keys_from [] c d = []
keys_from (n ∷ ns) c d = select PC2 (left_shift n c ++ left_shift n d) ∷ keys_from ns (left_shift n c) (left_shift n d)

unfoldable pub KS : List Bool → List (List Bool)
KS key = keys_from shifts (take 28 (select PC1 key)) (drop 28 (select PC1 key))

-- ---- the sixteen iterations

pub record Halves : Type 0 where
  pub L : List Bool
  pub R : List Bool

-- (1), (2): Ln = Rn-1, Rn = Ln-1 + f(Rn-1, Kn)
unfoldable pub round : List Bool → Halves → Halves
round k h = record { L = h.R; R = h.L ⊞ f h.R k }

unfoldable pub iterations : List (List Bool) → Halves → Halves
iterations [] h = h
iterations (k ∷ ks) h = iterations ks (round k h)

-- the preoutput block is R16 L16
unfoldable pub crypt : List (List Bool) → List Bool → List Bool
crypt ks b =
    let h = iterations ks (record { L = take 32 (select IP b); R = drop 32 (select IP b) }) in
    select IP⁻¹ (h.R ++ h.L)

-- Deciphering: the same, with K16 first and K1 last
unfoldable pub encipher : List Bool → List Bool → List Bool
encipher key b = crypt (KS key) b

unfoldable pub decipher : List Bool → List Bool → List Bool
decipher key b = crypt (reverse (KS key)) b

-- ---- one block of bytes under a key of bytes

unfoldable pub des_encrypt : List ℕ → List ℕ → List ℕ
des_encrypt key block = to_bytes 8 (encipher (to_bits key) (to_bits block))

unfoldable pub des_decrypt : List ℕ → List ℕ → List ℕ
des_decrypt key block = to_bytes 8 (decipher (to_bits key) (to_bits block))

-- ---- triple DES (TDEA): O = E_K3(D_K2(E_K1(I))) and its way back, I = D_K1(E_K2(D_K3(O)))

unfoldable pub tdea_encrypt : List ℕ → List ℕ → List ℕ → List ℕ → List ℕ
tdea_encrypt key1 key2 key3 block = des_encrypt key3 (des_decrypt key2 (des_encrypt key1 block))

unfoldable pub tdea_decrypt : List ℕ → List ℕ → List ℕ → List ℕ → List ℕ
tdea_decrypt key1 key2 key3 block = des_decrypt key1 (des_encrypt key2 (des_decrypt key3 block))

-- keying option 2: K3 = K1
unfoldable pub tdea2_encrypt : List ℕ → List ℕ → List ℕ → List ℕ
tdea2_encrypt key1 key2 block = tdea_encrypt key1 key2 key1 block

unfoldable pub tdea2_decrypt : List ℕ → List ℕ → List ℕ → List ℕ
tdea2_decrypt key1 key2 block = tdea_decrypt key1 key2 key1 block
