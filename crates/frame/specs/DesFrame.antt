-- docs/RULES.md, Layouts, Corners (des.rs): sealed DES data is number 2 (low byte first), ID 6, payload, padding, MAC 8; in CBC with an IV of zeros.
-- Assumes nothing.
use Rattle.std.specs.Prelude.{ℕ, ◌+◌, ◌-◌, ◌%◌, Bool, List, [], ◌∷◌, ◌++◌, eqb, ltb, length, take, drop, replicate}
use Rattle.cipher.specs.Fips46.{des_encrypt, des_decrypt}
use Rattle.cipher.specs.Fold.{under_each, under_each_back}
use Rattle.cipher.specs.Sp80038a.{cbc_encrypt, cbc_decrypt}
use Rattle.answer.specs.Number.{number_bytes, number_of}
use Rattle.answer.specs.Delivery.{delivering}
use Rattle.answer.specs.Outcome.{Outcome, Row, padded, row, decide}
use Rattle.frame.specs.Padding.{pad_count, pad}
use Rattle.answer.specs.Tests.{isnt, either, same}

-- ---- the MAC

-- what it starts as: total length, code, six zeros
unfoldable pub mac_start : ℕ → ℕ → List ℕ
mac_start total code = total % 256 ∷ code ∷ replicate 6 0

-- each block of the plain text in turn is the DES key that encrypts it. The total length counts a length byte, the code and the MAC too
unfoldable pub des_mac : ℕ → List ℕ → List ℕ
des_mac code plain = under_each des_encrypt 8 plain (mac_start (length plain + 10) code)

-- what is recovered from a plain text with its MAC behind it
unfoldable pub recovered : List ℕ → List ℕ
recovered plain = under_each_back des_decrypt 8 (take (length plain - 8) plain) (drop (length plain - 8) plain)

-- all eight recovered bytes are those that the MAC started as
unfoldable pub mac_holds : ℕ → List ℕ → Bool
mac_holds code plain = same (recovered plain) (mac_start (length plain + 2) code)

-- ---- sealing

-- a plain text with its MAC, under the session key
unfoldable pub des_seal : List ℕ → ℕ → List ℕ → List ℕ
des_seal key code plain = cbc_encrypt (des_encrypt key) 8 (replicate 8 0) (plain ++ des_mac code plain)

unfoldable pub header : ℕ → List ℕ → List ℕ
header number id = number_bytes number ++ id

-- the sealed data of a command or a response
unfoldable pub des_sealed : List ℕ → ℕ → ℕ → List ℕ → List ℕ → List ℕ
des_sealed key code number id payload = des_seal key code (pad (header number id ++ payload))

-- its size, for a payload of n bytes
unfoldable pub des_size : ℕ → ℕ
des_size n = n + 8 + pad_count (n + 8) + 8

-- 17 and 12, by lengths of ID, key and payload
unfoldable pub seal_rows : ℕ → ℕ → ℕ → List Row
seal_rows id key payload = row 17 (either (isnt (eqb id 6)) (isnt (eqb key 8))) ∷ row 12 (ltb 232 payload) ∷ []

unfoldable pub des_sealing : List ℕ → ℕ → ℕ → List ℕ → List ℕ → ℕ → Outcome
des_sealing key code number id payload room =
    decide (seal_rows (length id) (length key) (length payload) ++ (row 16 (ltb room (des_size (length payload))) ∷ []))
    (padded (pad_count (length payload + 8)) (des_sealed key code number id payload))

-- ---- opening

unfoldable pub des_plain : List ℕ → List ℕ → List ℕ
des_plain key sealed = cbc_decrypt (des_decrypt key) 8 (replicate 8 0) sealed

-- ID and payload of a plain text with its MAC; its number starts it
unfoldable pub id_of : List ℕ → List ℕ
id_of plain = take 6 (drop 2 plain)

unfoldable pub payload_of : List ℕ → List ℕ
payload_of plain = take (length plain - 16) (drop 8 plain)

-- 17, 10, 11 and 12, by lengths of ID, key and sealed data
unfoldable pub open_rows : ℕ → ℕ → ℕ → List Row
open_rows id key sealed =
    row 17 (either (isnt (eqb id 6)) (isnt (eqb key 8)))
    ∷ row 10 (isnt (eqb (sealed % 8) 0))
    ∷ row 11 (ltb sealed 16)
    ∷ row 12 (ltb 253 sealed)
    ∷ []

-- 13 and 14, by what the plain text shows
unfoldable pub plain_rows : ℕ → List ℕ → List ℕ → List Row
plain_rows code id plain = row 13 (isnt (mac_holds code plain)) ∷ row 14 (isnt (same (id_of plain) id)) ∷ []

-- then 16, with the delivery
unfoldable pub des_opening : List ℕ → ℕ → List ℕ → List ℕ → ℕ → Outcome
des_opening key code id sealed room =
    let plain = des_plain key sealed in
    decide (open_rows (length id) (length key) (length sealed) ++ plain_rows code id plain) (delivering (number_of plain) (payload_of plain) room)
