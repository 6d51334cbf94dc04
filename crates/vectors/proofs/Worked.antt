-- Worked examples of the papers, as theorems about the definitions: antt computes each. The rest of the published vectors is run by a program
-- (src/main.rt). Assumes nothing.
use Rattle.std.proofs.Common.{◌≡◌, ℕ, List, [], ◌∷◌, refl}
use Rattle.cipher.specs.Bytes.{tab, ◌⊕◌}
use Rattle.cipher.specs.Fips197.{aes_encrypt, aes_decrypt, cipher, inv_cipher, rounds, inv_rounds, key_expansion, key_words, next_word, key_temp, word, rot_word, rcon, power, round_key, add_round_key, mix_columns, inv_mix_columns, mixed, shift_rows, inv_shift_rows, cell, sub_bytes, inv_sub_bytes, s_box, inv_s_box, affine, inv_affine, inverse, times_squares, bit, from_bits, ◌•◌, add_times, xtime, if_bit}
use Rattle.cipher.specs.Sp80038a.{chain, blocks, ofb, ofb_out, ofb_next}
use Rattle.cipher.specs.Sp80038b.{cmac, mac_from, last_block, K1, K2, double, shift_left, R128}

-- FIPS 197, 4.2 and 4.2.1
pub product_57_83 : 0x57 • 0x83 ≡ 0xc1
unfolding ◌•◌ add_times xtime if_bit
product_57_83 = refl

pub product_57_13 : 0x57 • 0x13 ≡ 0xfe
unfolding ◌•◌ add_times xtime if_bit
product_57_13 = refl

-- FIPS 197, 5.1.1
pub s_box_53 : s_box 0x53 ≡ 0xed
unfolding s_box affine inverse times_squares bit from_bits tab ◌•◌ add_times xtime if_bit
s_box_53 = refl

-- the key of FIPS 197, A.1, SP 800-38A, F.4, and SP 800-38B, D.1
abbrev key : List ℕ
key = 0x2b ∷ 0x7e ∷ 0x15 ∷ 0x16 ∷ 0x28 ∷ 0xae ∷ 0xd2 ∷ 0xa6 ∷ 0xab ∷ 0xf7 ∷ 0x15 ∷ 0x88 ∷ 0x09 ∷ 0xcf ∷ 0x4f ∷ 0x3c ∷ []

-- FIPS 197, A.1: the last round key, w40 to w43
pub key_expansion_lem : round_key (key_expansion key) 10 ≡ 0xd0 ∷ 0x14 ∷ 0xf9 ∷ 0xa8 ∷ 0xc9 ∷ 0xee ∷ 0x25 ∷ 0x89 ∷ 0xe1 ∷ 0x3f ∷ 0x0c ∷ 0xc8 ∷ 0xb6 ∷ 0x63 ∷ 0x0c ∷ 0xa6 ∷ []
unfolding key_expansion key_words next_word key_temp word rot_word rcon power round_key ◌⊕◌ s_box affine inverse times_squares bit from_bits tab ◌•◌ add_times xtime if_bit
key_expansion_lem = refl

-- FIPS 197, C.1, both ways
pub cipher_c1 : aes_encrypt (0x00 ∷ 0x01 ∷ 0x02 ∷ 0x03 ∷ 0x04 ∷ 0x05 ∷ 0x06 ∷ 0x07 ∷ 0x08 ∷ 0x09 ∷ 0x0a ∷ 0x0b ∷ 0x0c ∷ 0x0d ∷ 0x0e ∷ 0x0f ∷ []) (0x00 ∷ 0x11 ∷ 0x22 ∷ 0x33 ∷ 0x44 ∷ 0x55 ∷ 0x66 ∷ 0x77 ∷ 0x88 ∷ 0x99 ∷ 0xaa ∷ 0xbb ∷ 0xcc ∷ 0xdd ∷ 0xee ∷ 0xff ∷ []) ≡ 0x69 ∷ 0xc4 ∷ 0xe0 ∷ 0xd8 ∷ 0x6a ∷ 0x7b ∷ 0x04 ∷ 0x30 ∷ 0xd8 ∷ 0xcd ∷ 0xb7 ∷ 0x80 ∷ 0x70 ∷ 0xb4 ∷ 0xc5 ∷ 0x5a ∷ []
unfolding aes_encrypt cipher rounds key_expansion key_words next_word key_temp word rot_word rcon power round_key add_round_key mix_columns mixed shift_rows cell sub_bytes ◌⊕◌ s_box affine inverse times_squares bit from_bits tab ◌•◌ add_times xtime if_bit
cipher_c1 = refl

pub inverse_cipher_c1 : aes_decrypt (0x00 ∷ 0x01 ∷ 0x02 ∷ 0x03 ∷ 0x04 ∷ 0x05 ∷ 0x06 ∷ 0x07 ∷ 0x08 ∷ 0x09 ∷ 0x0a ∷ 0x0b ∷ 0x0c ∷ 0x0d ∷ 0x0e ∷ 0x0f ∷ []) (0x69 ∷ 0xc4 ∷ 0xe0 ∷ 0xd8 ∷ 0x6a ∷ 0x7b ∷ 0x04 ∷ 0x30 ∷ 0xd8 ∷ 0xcd ∷ 0xb7 ∷ 0x80 ∷ 0x70 ∷ 0xb4 ∷ 0xc5 ∷ 0x5a ∷ []) ≡ 0x00 ∷ 0x11 ∷ 0x22 ∷ 0x33 ∷ 0x44 ∷ 0x55 ∷ 0x66 ∷ 0x77 ∷ 0x88 ∷ 0x99 ∷ 0xaa ∷ 0xbb ∷ 0xcc ∷ 0xdd ∷ 0xee ∷ 0xff ∷ []
unfolding aes_decrypt inv_cipher inv_rounds inv_mix_columns inv_shift_rows inv_sub_bytes inv_s_box inv_affine key_expansion key_words next_word key_temp word rot_word rcon power round_key add_round_key mixed cell ◌⊕◌ s_box affine inverse times_squares bit from_bits tab ◌•◌ add_times xtime if_bit
inverse_cipher_c1 = refl

-- SP 800-38A, F.4.1: the first block
pub ofb_f41 : ofb (aes_encrypt key) 16 (0x00 ∷ 0x01 ∷ 0x02 ∷ 0x03 ∷ 0x04 ∷ 0x05 ∷ 0x06 ∷ 0x07 ∷ 0x08 ∷ 0x09 ∷ 0x0a ∷ 0x0b ∷ 0x0c ∷ 0x0d ∷ 0x0e ∷ 0x0f ∷ []) (0x6b ∷ 0xc1 ∷ 0xbe ∷ 0xe2 ∷ 0x2e ∷ 0x40 ∷ 0x9f ∷ 0x96 ∷ 0xe9 ∷ 0x3d ∷ 0x7e ∷ 0x11 ∷ 0x73 ∷ 0x93 ∷ 0x17 ∷ 0x2a ∷ []) ≡ 0x3b ∷ 0x3f ∷ 0xd9 ∷ 0x2e ∷ 0xb7 ∷ 0x2d ∷ 0xad ∷ 0x20 ∷ 0x33 ∷ 0x34 ∷ 0x49 ∷ 0xf8 ∷ 0xe8 ∷ 0x3c ∷ 0xfb ∷ 0x4a ∷ []
unfolding ofb ofb_out ofb_next chain blocks aes_encrypt cipher rounds key_expansion key_words next_word key_temp word rot_word rcon power round_key add_round_key mix_columns mixed shift_rows cell sub_bytes ◌⊕◌ s_box affine inverse times_squares bit from_bits tab ◌•◌ add_times xtime if_bit
ofb_f41 = refl

-- SP 800-38B, D.1: the second subkey, and the MACs of the empty string and of one block
pub subkey-K2 : K2 (aes_encrypt key) 16 R128 ≡ 0xf7 ∷ 0xdd ∷ 0xac ∷ 0x30 ∷ 0x6a ∷ 0xe2 ∷ 0x66 ∷ 0xcc ∷ 0xf9 ∷ 0x0b ∷ 0xc1 ∷ 0x1e ∷ 0xe4 ∷ 0x6d ∷ 0x51 ∷ 0x3b ∷ []
unfolding K2 K1 double shift_left aes_encrypt cipher rounds key_expansion key_words next_word key_temp word rot_word rcon power round_key add_round_key mix_columns mixed shift_rows cell sub_bytes ◌⊕◌ s_box affine inverse times_squares bit from_bits tab ◌•◌ add_times xtime if_bit
subkey-K2 = refl

pub cmac_0 : cmac (aes_encrypt key) 16 R128 [] ≡ 0xbb ∷ 0x1d ∷ 0x69 ∷ 0x29 ∷ 0xe9 ∷ 0x59 ∷ 0x37 ∷ 0x28 ∷ 0x7f ∷ 0xa3 ∷ 0x7d ∷ 0x12 ∷ 0x9b ∷ 0x75 ∷ 0x67 ∷ 0x46 ∷ []
unfolding cmac mac_from last_block K2 K1 double shift_left blocks aes_encrypt cipher rounds key_expansion key_words next_word key_temp word rot_word rcon power round_key add_round_key mix_columns mixed shift_rows cell sub_bytes ◌⊕◌ s_box affine inverse times_squares bit from_bits tab ◌•◌ add_times xtime if_bit
cmac_0 = refl

pub cmac_16 : cmac (aes_encrypt key) 16 R128 (0x6b ∷ 0xc1 ∷ 0xbe ∷ 0xe2 ∷ 0x2e ∷ 0x40 ∷ 0x9f ∷ 0x96 ∷ 0xe9 ∷ 0x3d ∷ 0x7e ∷ 0x11 ∷ 0x73 ∷ 0x93 ∷ 0x17 ∷ 0x2a ∷ []) ≡ 0x07 ∷ 0x0a ∷ 0x16 ∷ 0xb4 ∷ 0x6b ∷ 0x4d ∷ 0x41 ∷ 0x44 ∷ 0xf7 ∷ 0x9b ∷ 0xdd ∷ 0x9d ∷ 0xd0 ∷ 0x4a ∷ 0x28 ∷ 0x7c ∷ []
unfolding cmac mac_from last_block K1 double shift_left blocks aes_encrypt cipher rounds key_expansion key_words next_word key_temp word rot_word rcon power round_key add_round_key mix_columns mixed shift_rows cell sub_bytes ◌⊕◌ s_box affine inverse times_squares bit from_bits tab ◌•◌ add_times xtime if_bit
cmac_16 = refl
