-- The values of docs/RULES.md, "Table", that the definitions have at given places. Assumes nothing.
use Rattle.std.specs.Prelude.{ℕ, ◌≤◌, ◌≡◌, true, false, List, [], ◌∷◌, ◌++◌, length, replicate}
use Rattle.frame.specs.AesFrame.{aes_iv}
use Rattle.frame.specs.DesFrame.{des_mac, des_sealing}
use Rattle.answer.specs.Number.{number_bytes}
use Rattle.frame.specs.Padding.{pad}
use Rattle.session.specs.ServiceCode.{key_free}

pub record Table : Type 0 where
  -- padding at 0, 7, 8, 9
  pub pad_0 : (l : List ℕ) → length l ≡ 0 → pad l ≡ l
  pub pad_7 : (l : List ℕ) → length l ≡ 7 → pad l ≡ l ++ (0x01 ∷ [])
  pub pad_8 : (l : List ℕ) → length l ≡ 8 → pad l ≡ l
  pub pad_9 : (l : List ℕ) → length l ≡ 9 → pad l ≡ l ++ replicate 7 0x07
  -- key-free services
  pub free_1009 : key_free 0x1009 ≡ true
  pub free_1017 : key_free 0x1017 ≡ true
  pub bears_1007 : key_free 0x1007 ≡ false
  pub bears_1008 : key_free 0x1008 ≡ false
  pub bears_1019 : key_free 0x1019 ≡ false
  -- the MAC of an empty payload under 0x13
  pub mac_empty : des_mac 0x13 [] ≡ 0x0A ∷ 0x13 ∷ 0x00 ∷ 0x00 ∷ 0x00 ∷ 0x00 ∷ 0x00 ∷ 0x00 ∷ []
  -- the IV for code 0x43, number 1, ID 11..16, Challenge 3C 21 22 23 24, and an empty payload
  pub iv : aes_iv 0 0x43 (number_bytes 1) (0x11 ∷ 0x12 ∷ 0x13 ∷ 0x14 ∷ 0x15 ∷ 0x16 ∷ []) (0x21 ∷ 0x22 ∷ 0x23 ∷ 0x24 ∷ [])
      ≡ 0x01 ∷ 0x0C ∷ 0x43 ∷ 0x01 ∷ 0x00 ∷ 0x11 ∷ 0x12 ∷ 0x13 ∷ 0x14 ∷ 0x15 ∷ 0x16 ∷ 0x22 ∷ 0x23 ∷ 0x24 ∷ 0x00 ∷ 0x00 ∷ []
  -- DES size 232 passes, 233 gives 12
  pub size_232 : (key id payload : List ℕ) (code number room : ℕ) → length key ≡ 8 → length id ≡ 6 → length payload ≡ 232 → 248 ≤ room → (des_sealing key code number id payload room).number ≡ 0
  pub size_233 : (key id payload : List ℕ) (code number room : ℕ) → length key ≡ 8 → length id ≡ 6 → length payload ≡ 233 → (des_sealing key code number id payload room).number ≡ 12
