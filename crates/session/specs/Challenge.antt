-- docs/RULES.md, Layouts: challenges. 1A and 1B carry random 1, 2A and 2B random 2. 1A, 2B go under one key, 1B, 2A under another; both keys come
-- from the derived keys and the card's IDm. Assumes nothing.
use Rattle.std.specs.Prelude.{ℕ, ◌≡◌, Bool, List, [], ◌∷◌, ◌++◌, eqb, ltb, length, take, drop, replicate, Result, MatchResult}
use Rattle.cipher.specs.Bytes.{◌⊕◌}
use Rattle.cipher.specs.Fips197.{aes_encrypt, aes_decrypt}
use Rattle.cipher.specs.Fips46.{des_encrypt, tdea2_encrypt, tdea2_decrypt}
use Rattle.answer.specs.declared.refusal.Refusal.{Refusal}
use Rattle.answer.specs.declared.refusal.Refusal.TheVariants.{BadMarkOrLength}
use Rattle.answer.specs.Outcome.{Outcome, refused, accepted, row, choose, decide}
use Rattle.answer.specs.Tests.{isnt, either, same}

-- ---- DES: the derived keys are group and user key, 8 bytes each

-- L = group xor IDm
unfoldable pub des_l : List ℕ → List ℕ → List ℕ
des_l keys idm = take 8 keys ⊕ idm

-- alpha = user under L
unfoldable pub des_alpha : List ℕ → List ℕ → List ℕ
des_alpha keys idm = des_encrypt (des_l keys idm) (drop 8 keys)

-- beta = L under alpha
unfoldable pub des_beta : List ℕ → List ℕ → List ℕ
des_beta keys idm = des_encrypt (des_alpha keys idm) (des_l keys idm)

-- ---- AES: the derived keys are group and individual key, 16 bytes each

-- H = group xor individual
unfoldable pub aes_h : List ℕ → List ℕ
aes_h keys = take 16 keys ⊕ drop 16 keys

-- 01 02 or 02 02, four 00, IDm, 01 00
unfoldable pub context_block : ℕ → List ℕ → List ℕ
context_block which idm = which ∷ 0x02 ∷ (replicate 4 0x00 ++ (idm ++ (0x01 ∷ 0x00 ∷ [])))

unfoldable pub aes_alpha : List ℕ → List ℕ → List ℕ
aes_alpha keys idm = aes_encrypt (aes_h keys) (context_block 0x01 idm)

unfoldable pub aes_beta : List ℕ → List ℕ → List ℕ
aes_beta keys idm = aes_encrypt (aes_h keys) (context_block 0x02 idm)

-- Challenge 3C xored into its first four bytes
unfoldable pub with_3c : List ℕ → List ℕ → List ℕ
with_3c beta c3 = beta ⊕ (c3 ++ replicate 12 0)

-- ---- both schemes: 1A, 2B use (alpha, L) or alpha; 1B, 2A use (L, beta) or beta with Challenge 3C

unfoldable pub under_alpha : ℕ → List ℕ → List ℕ → List ℕ → List ℕ
under_alpha scheme keys idm random = choose (eqb scheme 1) (tdea2_encrypt (des_alpha keys idm) (des_l keys idm) random) (aes_encrypt (aes_alpha keys idm) random)

unfoldable pub under_alpha_back : ℕ → List ℕ → List ℕ → List ℕ → List ℕ
under_alpha_back scheme keys idm block = choose (eqb scheme 1) (tdea2_decrypt (des_alpha keys idm) (des_l keys idm) block) (aes_decrypt (aes_alpha keys idm) block)

unfoldable pub under_beta : ℕ → List ℕ → List ℕ → List ℕ → List ℕ → List ℕ
under_beta scheme keys idm c3 random = choose (eqb scheme 1) (tdea2_encrypt (des_l keys idm) (des_beta keys idm) random) (aes_encrypt (with_3c (aes_beta keys idm) c3) random)

unfoldable pub under_beta_back : ℕ → List ℕ → List ℕ → List ℕ → List ℕ → List ℕ
under_beta_back scheme keys idm c3 block = choose (eqb scheme 1) (tdea2_decrypt (des_l keys idm) (des_beta keys idm) block) (aes_decrypt (with_3c (aes_beta keys idm) c3) block)

-- ---- the calls: 17, then 16; checking has 17, 13

-- a block has 8 bytes for DES and 16 for AES, the derived keys two blocks
unfoldable pub block_size : ℕ → ℕ
block_size scheme = choose (eqb scheme 1) 8 16

unfoldable pub unknown_scheme : ℕ → Bool
unknown_scheme scheme = isnt (either (eqb scheme 1) (eqb scheme 2))

-- lengths of derived keys, IDm and block
unfoldable pub wrong : ℕ → ℕ → ℕ → ℕ → Bool
wrong scheme keys idm block =
    either (unknown_scheme scheme) (either (isnt (eqb keys (choose (eqb scheme 1) 16 32))) (either (isnt (eqb idm 8)) (isnt (eqb block (block_size scheme)))))

-- the same, and of a Challenge 3C, which has 4 bytes under both marks and is not looked at for DES
unfoldable pub wrong_with_3c : ℕ → ℕ → ℕ → ℕ → ℕ → Bool
wrong_with_3c scheme keys idm block c3 = either (wrong scheme keys idm block) (isnt (eqb c3 4))

unfoldable pub giving : Bool → ℕ → ℕ → List ℕ → Outcome
giving bad scheme room block = decide (row 17 bad ∷ row 16 (ltb room (block_size scheme)) ∷ []) (accepted 0 block)

unfoldable pub checking : Bool → List ℕ → List ℕ → Outcome
checking bad given wanted = decide (row 17 bad ∷ row 13 (isnt (same given wanted)) ∷ []) (accepted 0 [])

-- the outcome o of a check whose row 13 is left to the caller: 17, or whether the two are equal
abbrev pub Compares : Outcome → Result Bool Refusal → Type 0
Compares o r = MatchResult r (λ equal. o ≡ decide (row 13 (isnt equal) ∷ []) (accepted 0 [])) (λ e. (o ≡ refused 17) × (e ≡ BadMarkOrLength))

-- the reader makes 1A from its random 1, the card reads it
unfoldable pub making_1a : ℕ → List ℕ → List ℕ → List ℕ → ℕ → Outcome
making_1a scheme keys idm random1 room = giving (wrong scheme (length keys) (length idm) (length random1)) scheme room (under_alpha scheme keys idm random1)

unfoldable pub reading_1a : ℕ → List ℕ → List ℕ → List ℕ → ℕ → Outcome
reading_1a scheme keys idm block room = giving (wrong scheme (length keys) (length idm) (length block)) scheme room (under_alpha_back scheme keys idm block)

-- the card makes 1B from the random 1 that it read, the reader checks it
unfoldable pub making_1b : ℕ → List ℕ → List ℕ → List ℕ → List ℕ → ℕ → Outcome
making_1b scheme keys idm c3 random1 room =
    giving (wrong_with_3c scheme (length keys) (length idm) (length random1) (length c3)) scheme room (under_beta scheme keys idm c3 random1)

unfoldable pub checking_1b : ℕ → List ℕ → List ℕ → List ℕ → List ℕ → List ℕ → Outcome
checking_1b scheme keys idm c3 random1 block =
    checking (either (wrong_with_3c scheme (length keys) (length idm) (length random1) (length c3)) (isnt (eqb (length block) (block_size scheme)))) block (under_beta scheme keys idm c3 random1)

-- the card makes 2A from its random 2, the reader reads it
unfoldable pub making_2a : ℕ → List ℕ → List ℕ → List ℕ → List ℕ → ℕ → Outcome
making_2a scheme keys idm c3 random2 room =
    giving (wrong_with_3c scheme (length keys) (length idm) (length random2) (length c3)) scheme room (under_beta scheme keys idm c3 random2)

unfoldable pub reading_2a : ℕ → List ℕ → List ℕ → List ℕ → List ℕ → ℕ → Outcome
reading_2a scheme keys idm c3 block room =
    giving (wrong_with_3c scheme (length keys) (length idm) (length block) (length c3)) scheme room (under_beta_back scheme keys idm c3 block)

-- the reader makes 2B from the random 2 that it read, the card checks it
unfoldable pub making_2b : ℕ → List ℕ → List ℕ → List ℕ → ℕ → Outcome
making_2b scheme keys idm random2 room = giving (wrong scheme (length keys) (length idm) (length random2)) scheme room (under_alpha scheme keys idm random2)

unfoldable pub checking_2b : ℕ → List ℕ → List ℕ → List ℕ → List ℕ → Outcome
checking_2b scheme keys idm random2 block =
    checking (either (wrong scheme (length keys) (length idm) (length random2)) (isnt (eqb (length block) (block_size scheme)))) block (under_alpha scheme keys idm random2)

-- ---- AES session keys: 01 03 (cipher) and 02 03 (MAC), each then twelve 00, 01 00, under random 2

unfoldable pub session_key_input : ℕ → List ℕ
session_key_input which = which ∷ 0x03 ∷ (replicate 12 0x00 ++ (0x01 ∷ 0x00 ∷ []))

unfoldable pub session_keys : List ℕ → List ℕ
session_keys random2 = aes_encrypt random2 (session_key_input 0x01) ++ aes_encrypt random2 (session_key_input 0x02)

unfoldable pub deriving_session_keys : List ℕ → ℕ → Outcome
deriving_session_keys random2 room = decide (row 17 (isnt (eqb (length random2) 16)) ∷ row 16 (ltb room 32) ∷ []) (accepted 0 (session_keys random2))
