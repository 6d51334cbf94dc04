-- FIPS 197, Advanced Encryption Standard, with a key of 128 bits (Nk = 4, Nb = 4, Nr = 10). Section numbers are the paper's.
-- The state is the list of its 16 bytes by columns, as the paper copies the input to it (3.4): s[r, c] stands at r + 4c. Assumes nothing.
use Rattle.std.specs.Prelude.{ℕ, zero, suc, ◌+◌, ◌-◌, ◌*◌, ◌/◌, ◌%◌, ◌^◌, List, [], ◌∷◌, ◌++◌, map, take, drop, get_or}
use Rattle.std.specs.Int.Bits.{bit_xor}
use Rattle.cipher.specs.Bytes.{tab, ◌⊕◌}

infixl 70 ◌•◌
-- ---- 4, arithmetic in GF(2^8)

-- 4.2.1: multiplication by x, that is by {02}
unfoldable pub xtime : ℕ → ℕ
xtime b = bit_xor (b * 2 % 256) (b / 128 % 2 * 0x1b)

-- one of two numbers, by a bit
unfoldable pub if_bit : ℕ → ℕ → ℕ → ℕ
if_bit zero set clear = clear
if_bit (suc b) set clear = set

-- sum plus the products of b with the n low bits of a
unfoldable pub add_times : ℕ → ℕ → ℕ → ℕ → ℕ
add_times zero a b sum = sum
add_times (suc n) a b sum = add_times n (a / 2) (xtime b) (if_bit (a % 2) (bit_xor sum b) sum)

-- 4.2: the product of two bytes
unfoldable pub ◌•◌ : ℕ → ℕ → ℕ
◌•◌ a b = add_times 8 a b 0

-- product times b^2 times b^4 and so on, n factors
unfoldable pub times_squares : ℕ → ℕ → ℕ → ℕ
times_squares zero b product = product
times_squares (suc n) b product = times_squares n (b • b) (product • (b • b))

-- 4.2: the multiplicative inverse, b^254, which is b^2 b^4 .. b^128; {00} is mapped to itself
unfoldable pub inverse : ℕ → ℕ
inverse b = times_squares 7 b 1

-- ---- 5.1.1 and 5.3.2, the S-box

unfoldable pub bit : ℕ → ℕ → ℕ
bit b i = b / 2 ^ i % 2

unfoldable pub from_bits : List ℕ → ℕ
from_bits [] = 0
from_bits (x ∷ xs) = x + 2 * from_bits xs

-- (5.1): the affine transformation, c = {63}
unfoldable pub affine : ℕ → ℕ
affine b =
    from_bits (tab 8 (λ i. (bit b i + bit b ((i + 4) % 8) + bit b ((i + 5) % 8) + bit b ((i + 6) % 8) + bit b ((i + 7) % 8) + bit 0x63 i) % 2))

unfoldable pub s_box : ℕ → ℕ
s_box b = affine (inverse b)

-- the inverse of (5.1)
unfoldable pub inv_affine : ℕ → ℕ
inv_affine b = from_bits (tab 8 (λ i. (bit b ((i + 2) % 8) + bit b ((i + 5) % 8) + bit b ((i + 7) % 8) + bit 0x05 i) % 2))

unfoldable pub inv_s_box : ℕ → ℕ
inv_s_box b = inverse (inv_affine b)

-- ---- 5.1, the four transformations of the cipher

-- 5.1.1
unfoldable pub sub_bytes : List ℕ → List ℕ
sub_bytes s = map s_box s

-- s[r, c], with both counted modulo 4
unfoldable pub cell : List ℕ → ℕ → ℕ → ℕ
cell s r c = get_or s (r % 4 + c % 4 * 4) 0

-- 5.1.2, (5.3): s'[r, c] = s[r, c + r]
unfoldable pub shift_rows : List ℕ → List ℕ
shift_rows s = tab 16 (λ i. cell s (i % 4) (i / 4 + i % 4))

-- row r of column c of the product with the circulant matrix whose first row is a0 a1 a2 a3
unfoldable pub mixed : ℕ → ℕ → ℕ → ℕ → List ℕ → ℕ → ℕ → ℕ
mixed a0 a1 a2 a3 s r c =
    bit_xor (bit_xor (bit_xor (a0 • cell s r c) (a1 • cell s (r + 1) c)) (a2 • cell s (r + 2) c)) (a3 • cell s (r + 3) c)

-- 5.1.3, (5.6)
unfoldable pub mix_columns : List ℕ → List ℕ
mix_columns s = tab 16 (λ i. mixed 0x02 0x03 0x01 0x01 s (i % 4) (i / 4))

-- 5.1.4
unfoldable pub add_round_key : List ℕ → List ℕ → List ℕ
add_round_key s k = s ⊕ k

-- ---- 5.2, key expansion; w is the list of the bytes of its words

-- w[i]
unfoldable pub word : List ℕ → ℕ → List ℕ
word w i = take 4 (drop (4 * i) w)

unfoldable pub rot_word : List ℕ → List ℕ
rot_word t = drop 1 t ++ take 1 t

-- x^i
unfoldable pub power : ℕ → ℕ
power zero = 1
power (suc i) = xtime (power i)

-- Rcon[i], the word of x^(i - 1)
unfoldable pub rcon : ℕ → List ℕ
rcon i = power (i - 1) ∷ 0 ∷ 0 ∷ 0 ∷ []

-- what w[i] adds to w[i - Nk]: by i mod Nk, from temp = w[i - 1]
unfoldable pub key_temp : ℕ → ℕ → List ℕ → List ℕ
key_temp zero i temp = map s_box (rot_word temp) ⊕ rcon (i / 4)
key_temp (suc r) i temp = temp

-- one word more: w[i] for i = n + Nk
unfoldable pub next_word : ℕ → List ℕ → List ℕ
next_word n w = w ++ (word w n ⊕ key_temp ((n + 4) % 4) (n + 4) (word w (n + 3)))

-- figure 11: the first Nk + n words
unfoldable pub key_words : List ℕ → ℕ → List ℕ
key_words key zero = key
key_words key (suc n) = next_word n (key_words key n)

unfoldable pub key_expansion : List ℕ → List ℕ
key_expansion key = key_words key 40

-- the four words w[4 round], .. w[4 round + 3]
unfoldable pub round_key : List ℕ → ℕ → List ℕ
round_key w round = take 16 (drop (16 * round) w)

-- ---- 5.1, figure 5: the cipher

-- the state after n of the rounds with MixColumns
unfoldable pub rounds : List ℕ → List ℕ → ℕ → List ℕ
rounds w s zero = add_round_key s (round_key w 0)
rounds w s (suc n) = add_round_key (mix_columns (shift_rows (sub_bytes (rounds w s n)))) (round_key w (suc n))

unfoldable pub cipher : List ℕ → List ℕ → List ℕ
cipher w s = add_round_key (shift_rows (sub_bytes (rounds w s 9))) (round_key w 10)

-- ---- 5.3, the inverse cipher

-- 5.3.1: s'[r, c] = s[r, c - r]
unfoldable pub inv_shift_rows : List ℕ → List ℕ
inv_shift_rows s = tab 16 (λ i. cell s (i % 4) (i / 4 + 4 - i % 4))

-- 5.3.2
unfoldable pub inv_sub_bytes : List ℕ → List ℕ
inv_sub_bytes s = map inv_s_box s

-- 5.3.3, (5.10)
unfoldable pub inv_mix_columns : List ℕ → List ℕ
inv_mix_columns s = tab 16 (λ i. mixed 0x0e 0x0b 0x0d 0x09 s (i % 4) (i / 4))

-- figure 12: the state after n of the rounds with InvMixColumns, which go from round 9 down to round 1
unfoldable pub inv_rounds : List ℕ → List ℕ → ℕ → List ℕ
inv_rounds w s zero = add_round_key s (round_key w 10)
inv_rounds w s (suc n) = inv_mix_columns (add_round_key (inv_sub_bytes (inv_shift_rows (inv_rounds w s n))) (round_key w (9 - n)))

unfoldable pub inv_cipher : List ℕ → List ℕ → List ℕ
inv_cipher w s = add_round_key (inv_sub_bytes (inv_shift_rows (inv_rounds w s 9))) (round_key w 0)

-- ---- one block under a key

unfoldable pub aes_encrypt : List ℕ → List ℕ → List ℕ
aes_encrypt key block = cipher (key_expansion key) block

unfoldable pub aes_decrypt : List ℕ → List ℕ → List ℕ
aes_decrypt key block = inv_cipher (key_expansion key) block
