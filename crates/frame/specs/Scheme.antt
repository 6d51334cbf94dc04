-- docs/NUMBERS.md (marks) and docs/RULES.md, Layouts (response frames): both schemes. A scheme mark is 1 for DES and 2 for AES, and every other
-- gives 17. The credentials are the DES session key, or cipher key, MAC key and Challenge 3C. Assumes nothing.
use Rattle.std.specs.Prelude.{ℕ, ◌+◌, ◌-◌, List, ◌∷◌, eqb, length}
use Rattle.answer.specs.Outcome.{Outcome, refused, padded, choose}
use Rattle.frame.specs.DesFrame.{des_size, des_sealed, des_sealing, des_opening}
use Rattle.frame.specs.AesFrame.{aes_size, aes_sealed, aes_sealing, aes_opening}
use Rattle.frame.specs.Padding.{pad_count}

-- the outcome of the scheme that the mark names
unfoldable pub by_scheme : ℕ → Outcome → Outcome → Outcome
by_scheme scheme des aes = choose (eqb scheme 1) des (choose (eqb scheme 2) aes (refused 17))

-- ---- commands

-- the sealed data
unfoldable pub sealed : ℕ → List ℕ → ℕ → ℕ → List ℕ → List ℕ → List ℕ
sealed scheme c code number id payload = choose (eqb scheme 1) (des_sealed c code number id payload) (aes_sealed c code number id payload)

unfoldable pub sealing : ℕ → List ℕ → ℕ → ℕ → List ℕ → List ℕ → ℕ → Outcome
sealing scheme c code number id payload room = by_scheme scheme (des_sealing c code number id payload room) (aes_sealing c code number id payload room)

unfoldable pub opening : ℕ → List ℕ → ℕ → List ℕ → List ℕ → ℕ → Outcome
opening scheme c code id sealed room = by_scheme scheme (des_opening c code id sealed room) (aes_opening c code id sealed room)

-- ---- responses

-- a response frame is a length byte (counting itself), the code, then the sealed data
unfoldable pub framed : ℕ → List ℕ → List ℕ
framed code sealed = (length sealed + 2) ∷ code ∷ sealed

-- frames an accepted sealing, whose padding it keeps; passes a refusal through
unfoldable pub framing : ℕ → Outcome → Outcome
framing code o = choose (eqb o.number 0) (padded o.padding (framed code o.bytes)) o

-- the sealing has two bytes less of the output, so 16 is about the whole frame
unfoldable pub responding : ℕ → List ℕ → ℕ → ℕ → List ℕ → List ℕ → ℕ → Outcome
responding scheme c code number id payload room = framing code (sealing scheme c code number id payload (room - 2))

-- ---- sizes

-- the size of the sealed data of a payload of n bytes
unfoldable pub sealed_size : ℕ → ℕ → ℕ
sealed_size scheme n = choose (eqb scheme 1) (des_size n) (aes_size n)

-- how many bytes of padding are in it: with DES header and payload are padded, with AES nothing is
unfoldable pub sealed_padding : ℕ → ℕ → ℕ
sealed_padding scheme n = choose (eqb scheme 1) (pad_count (n + 8)) 0

-- the longest payload
unfoldable pub longest : ℕ → ℕ
longest scheme = choose (eqb scheme 1) 232 243
