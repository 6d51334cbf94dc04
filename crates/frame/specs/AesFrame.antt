-- docs/RULES.md, Layouts: sealed AES data is number 2 (low byte first), cipher payload, cipher MAC 8. Assumes nothing.
use Rattle.std.specs.Prelude.{ℕ, ◌+◌, ◌-◌, ◌/◌, ◌%◌, List, [], ◌∷◌, ◌++◌, eqb, ltb, length, take, drop}
use Rattle.cipher.specs.Fips197.{aes_encrypt}
use Rattle.cipher.specs.Sp80038a.{blocks, ofb, ofb_input}
use Rattle.cipher.specs.Sp80038b.{cmac, R128}
use Rattle.answer.specs.Number.{number_bytes, number_of}
use Rattle.answer.specs.Delivery.{delivering}
use Rattle.answer.specs.Outcome.{Outcome, Row, accepted, row, decide}
use Rattle.answer.specs.Tests.{isnt, either, same}

-- the credentials: cipher key 16, MAC key 16, Challenge 3C 4
unfoldable pub cipher_key : List ℕ → List ℕ
cipher_key c = take 16 c

unfoldable pub mac_key : List ℕ → List ℕ
mac_key c = take 16 (drop 16 c)

unfoldable pub challenge_3c : List ℕ → List ℕ
challenge_3c c = drop 32 c

-- IV: 01, length (payload + 12), code, number (2 bytes as they stand in the data), ID, Challenge 3C bytes 1..3, 00 00
unfoldable pub aes_iv : ℕ → ℕ → List ℕ → List ℕ → List ℕ → List ℕ
aes_iv long code number id c3 = 1 ∷ (long + 12) ∷ code ∷ (number ++ (id ++ (drop 1 c3 ++ (0 ∷ 0 ∷ []))))

-- MAC: the first 8 CMAC bytes of 19, IV bytes 1..13, payload length (2, high byte first), payload
unfoldable pub aes_mac : List ℕ → List ℕ → List ℕ → List ℕ
aes_mac key iv payload =
    take 8 (cmac (aes_encrypt key) 16 R128 ((0x19 ∷ (take 13 (drop 1 iv) ++ (length payload / 256 % 256 ∷ length payload % 256 ∷ []))) ++ payload))

-- OFB skips to a block boundary before the MAC: its input block there
unfoldable pub mac_input : List ℕ → List ℕ → ℕ → List ℕ
mac_input key iv n = ofb_input (aes_encrypt key) 16 (blocks 16 n) iv

-- ---- sealing

-- the sealed data of a command or a response
unfoldable pub aes_sealed : List ℕ → ℕ → ℕ → List ℕ → List ℕ → List ℕ
aes_sealed c code number id payload =
    let iv = aes_iv (length payload) code (number_bytes number) id (challenge_3c c) in
    number_bytes number
    ++ (ofb (aes_encrypt (cipher_key c)) 16 iv payload
    ++ ofb (aes_encrypt (cipher_key c)) 16 (mac_input (cipher_key c) iv (length payload)) (aes_mac (mac_key c) iv payload))

-- its size, for a payload of n bytes
unfoldable pub aes_size : ℕ → ℕ
aes_size n = n + 10

-- 17 and 12, by lengths of ID, credentials and payload
unfoldable pub aes_seal_rows : ℕ → ℕ → ℕ → List Row
aes_seal_rows id credentials payload = row 17 (either (isnt (eqb id 6)) (isnt (eqb credentials 36))) ∷ row 12 (ltb 243 payload) ∷ []

unfoldable pub aes_sealing : List ℕ → ℕ → ℕ → List ℕ → List ℕ → ℕ → Outcome
aes_sealing c code number id payload room =
    decide (aes_seal_rows (length id) (length c) (length payload) ++ (row 16 (ltb room (aes_size (length payload))) ∷ [])) (accepted 0 (aes_sealed c code number id payload))

-- ---- opening: n is the length of the payload

unfoldable pub opened_iv : List ℕ → ℕ → List ℕ → List ℕ → List ℕ
opened_iv c code id sealed = aes_iv (length sealed - 10) code (take 2 sealed) id (challenge_3c c)

unfoldable pub opened_payload : List ℕ → ℕ → List ℕ → List ℕ → List ℕ
opened_payload c code id sealed = ofb (aes_encrypt (cipher_key c)) 16 (opened_iv c code id sealed) (take (length sealed - 10) (drop 2 sealed))

unfoldable pub opened_mac : List ℕ → ℕ → List ℕ → List ℕ → List ℕ
opened_mac c code id sealed =
    ofb (aes_encrypt (cipher_key c)) 16 (mac_input (cipher_key c) (opened_iv c code id sealed) (length sealed - 10)) (drop (length sealed - 8) sealed)

-- 17, 11 and 12, by lengths of ID, credentials and sealed data
unfoldable pub aes_open_rows : ℕ → ℕ → ℕ → List Row
aes_open_rows id credentials sealed = row 17 (either (isnt (eqb id 6)) (isnt (eqb credentials 36))) ∷ row 11 (ltb sealed 10) ∷ row 12 (ltb 253 sealed) ∷ []

-- then 13, the MAC against the one that the payload has to have; then 16, with the delivery
unfoldable pub aes_opening : List ℕ → ℕ → List ℕ → List ℕ → ℕ → Outcome
aes_opening c code id sealed room =
    let payload = opened_payload c code id sealed in
    let wanted = aes_mac (mac_key c) (opened_iv c code id sealed) payload in
    decide (aes_open_rows (length id) (length c) (length sealed) ++ (row 13 (isnt (same (opened_mac c code id sealed) wanted)) ∷ [])) (delivering (number_of sealed) payload room)
