-- Worked examples for DES, as theorems about the definitions: antt computes each. Assumes nothing.
use Rattle.std.proofs.Common.{◌≡◌, ℕ, List, [], ◌∷◌, refl}
use Rattle.cipher.specs.Bytes.{◌⊕◌}
use Rattle.cipher.specs.Bits.{bool, digit, bits, num, num_from, differs, ◌⊞◌, to_bits, to_bytes}
use Rattle.cipher.specs.Fips46.{des_encrypt, des_decrypt, tdea_encrypt, encipher, decipher, crypt, iterations, round, f, KS, keys_from, left_shift, shifts, PC1, PC2, P, E, IP, IP⁻¹, S1, S2, S3, S4, S5, S6, S7, S8, select, substitute, substitute_all}
use Rattle.cipher.specs.Sp80038a.{chain, blocks, cbc_encrypt, cbc_out}

-- the key of FIPS 81, appendices B and C
abbrev key : List ℕ
key = 0x01 ∷ 0x23 ∷ 0x45 ∷ 0x67 ∷ 0x89 ∷ 0xab ∷ 0xcd ∷ 0xef ∷ []

-- FIPS 81, B: "Now is t", both ways
pub ecb : des_encrypt key (0x4e ∷ 0x6f ∷ 0x77 ∷ 0x20 ∷ 0x69 ∷ 0x73 ∷ 0x20 ∷ 0x74 ∷ []) ≡ 0x3f ∷ 0xa4 ∷ 0x0e ∷ 0x8a ∷ 0x98 ∷ 0x4d ∷ 0x48 ∷ 0x15 ∷ []
unfolding des_encrypt encipher crypt iterations round f KS keys_from left_shift shifts PC1 PC2 P E IP IP⁻¹ S1 S2 S3 S4 S5 S6 S7 S8 select substitute substitute_all bool digit bits num num_from differs ◌⊞◌ to_bits to_bytes
ecb = refl

pub ecb_back : des_decrypt key (0x3f ∷ 0xa4 ∷ 0x0e ∷ 0x8a ∷ 0x98 ∷ 0x4d ∷ 0x48 ∷ 0x15 ∷ []) ≡ 0x4e ∷ 0x6f ∷ 0x77 ∷ 0x20 ∷ 0x69 ∷ 0x73 ∷ 0x20 ∷ 0x74 ∷ []
unfolding des_decrypt decipher crypt iterations round f KS keys_from left_shift shifts PC1 PC2 P E IP IP⁻¹ S1 S2 S3 S4 S5 S6 S7 S8 select substitute substitute_all bool digit bits num num_from differs ◌⊞◌ to_bits to_bytes
ecb_back = refl

-- FIPS 81, C: "Now is the time for all ", with its IV
pub cbc : cbc_encrypt (des_encrypt key) 8 (0x12 ∷ 0x34 ∷ 0x56 ∷ 0x78 ∷ 0x90 ∷ 0xab ∷ 0xcd ∷ 0xef ∷ []) (0x4e ∷ 0x6f ∷ 0x77 ∷ 0x20 ∷ 0x69 ∷ 0x73 ∷ 0x20 ∷ 0x74 ∷ 0x68 ∷ 0x65 ∷ 0x20 ∷ 0x74 ∷ 0x69 ∷ 0x6d ∷ 0x65 ∷ 0x20 ∷ 0x66 ∷ 0x6f ∷ 0x72 ∷ 0x20 ∷ 0x61 ∷ 0x6c ∷ 0x6c ∷ 0x20 ∷ []) ≡ 0xe5 ∷ 0xc7 ∷ 0xcd ∷ 0xde ∷ 0x87 ∷ 0x2b ∷ 0xf2 ∷ 0x7c ∷ 0x43 ∷ 0xe9 ∷ 0x34 ∷ 0x00 ∷ 0x8c ∷ 0x38 ∷ 0x9c ∷ 0x0f ∷ 0x68 ∷ 0x37 ∷ 0x88 ∷ 0x49 ∷ 0x9a ∷ 0x7c ∷ 0x05 ∷ 0xf6 ∷ []
unfolding cbc_encrypt cbc_out chain blocks ◌⊕◌ des_encrypt encipher crypt iterations round f KS keys_from left_shift shifts PC1 PC2 P E IP IP⁻¹ S1 S2 S3 S4 S5 S6 S7 S8 select substitute substitute_all bool digit bits num num_from differs ◌⊞◌ to_bits to_bytes
cbc = refl

-- SP 800-67, B.1: the first block of "The qufck brown fox jump" under three keys
pub tdea : tdea_encrypt key (0x23 ∷ 0x45 ∷ 0x67 ∷ 0x89 ∷ 0xab ∷ 0xcd ∷ 0xef ∷ 0x01 ∷ []) (0x45 ∷ 0x67 ∷ 0x89 ∷ 0xab ∷ 0xcd ∷ 0xef ∷ 0x01 ∷ 0x23 ∷ []) (0x54 ∷ 0x68 ∷ 0x65 ∷ 0x20 ∷ 0x71 ∷ 0x75 ∷ 0x66 ∷ 0x63 ∷ []) ≡ 0xa8 ∷ 0x26 ∷ 0xfd ∷ 0x8c ∷ 0xe5 ∷ 0x3b ∷ 0x85 ∷ 0x5f ∷ []
unfolding tdea_encrypt des_encrypt des_decrypt encipher decipher crypt iterations round f KS keys_from left_shift shifts PC1 PC2 P E IP IP⁻¹ S1 S2 S3 S4 S5 S6 S7 S8 select substitute substitute_all bool digit bits num num_from differs ◌⊞◌ to_bits to_bytes
tdea = refl
