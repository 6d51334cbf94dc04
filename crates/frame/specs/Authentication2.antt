-- docs/RULES.md, Corners (des.rs), Carried and added: Authentication 2. DES: a payload to which no header is added, sealed under code 0x13; its
-- opening gives all but the MAC, padding too. AES: sealed data under code 0x43. Assumes nothing.
use Rattle.std.specs.Prelude.{ℕ, ◌+◌, ◌-◌, ◌%◌, List, [], ◌∷◌, ◌++◌, eqb, ltb, length, take}
use Rattle.answer.specs.Outcome.{Outcome, Row, padded, row, decide}
use Rattle.frame.specs.AesFrame.{aes_opening}
use Rattle.frame.specs.DesFrame.{mac_holds, des_seal, des_plain}
use Rattle.answer.specs.Delivery.{delivering}
use Rattle.frame.specs.Padding.{pad_count, pad}
use Rattle.answer.specs.Tests.{isnt, either}

abbrev pub auth2_code : ℕ
auth2_code = 0x13

-- ---- sealing

unfoldable pub auth2_sealed : List ℕ → List ℕ → List ℕ
auth2_sealed key payload = des_seal key auth2_code (pad payload)

-- its size, for a payload of n bytes
unfoldable pub auth2_size : ℕ → ℕ
auth2_size n = n + pad_count n + 8

-- 17 and 12, by lengths of key and payload; 12 is about the padded payload
unfoldable pub auth2_seal_rows : ℕ → ℕ → List Row
auth2_seal_rows key payload = row 17 (isnt (eqb key 8)) ∷ row 12 (ltb 240 (payload + pad_count payload)) ∷ []

unfoldable pub auth2_sealing : List ℕ → List ℕ → ℕ → Outcome
auth2_sealing key payload room =
    decide (auth2_seal_rows (length key) (length payload) ++ (row 16 (ltb room (auth2_size (length payload))) ∷ []))
    (padded (pad_count (length payload)) (auth2_sealed key payload))

-- ---- opening

-- lengths of key and sealed data
unfoldable pub auth2_open_rows : ℕ → ℕ → List Row
auth2_open_rows key sealed = row 17 (isnt (eqb key 8)) ∷ row 10 (isnt (eqb (sealed % 8) 0)) ∷ row 12 (ltb 253 sealed) ∷ []

-- 13 also where there is no block before the MAC. All but the MAC goes out
unfoldable pub auth2_accepting : List ℕ → ℕ → Outcome
auth2_accepting plain room =
    decide (row 13 (either (ltb (length plain) 16) (isnt (mac_holds auth2_code plain))) ∷ [])
    (delivering 0 (take (length plain - 8) plain) room)

unfoldable pub auth2_opening : List ℕ → List ℕ → ℕ → Outcome
auth2_opening key sealed room = decide (auth2_open_rows (length key) (length sealed)) (auth2_accepting (des_plain key sealed) room)

-- ---- opening, AES

unfoldable pub auth2_opening_aes : List ℕ → List ℕ → List ℕ → ℕ → Outcome
auth2_opening_aes c id sealed room = aes_opening c 0x43 id sealed room
