-- A parsed DES response, which names the payload inside the decrypted bytes, and its delivery. Assumes nothing.
use Rattle.std.specs.Prelude.{ℕ, ◌+◌, ◌≡◌, true, false, List, [], ◌∷◌, Result, MatchResult}
use Rattle.answer.specs.declared.refusal.Refusal.{Refusal}
use Rattle.answer.specs.declared.refusal.Refusal.TheVariants.{MacDiffers}
use Rattle.std.specs.Borrow.{Bor}
use Rattle.answer.specs.Number.{number_of}
use Rattle.answer.specs.Outcome.{Outcome, row, decide}
use Rattle.answer.specs.Delivery.{delivering}
use Rattle.frame.specs.DesFrame.{mac_holds, id_of, payload_of}
use Rattle.answer.specs.Tests.{isnt, same}
use Rattle.frame.specs.declared.des.SecureResponseHeader.{SecureResponseHeader}
use Rattle.frame.specs.declared.des.SecureResponse.{SecureResponse}

-- the header that a plain text starts with
unfoldable pub header_of : List ℕ → SecureResponseHeader
header_of plain = record { transaction_number = number_of plain; transaction_id = id_of plain }

-- r refers to the payload inside a plain text with its MAC: what it reads, and where that stands in memory (block and offset)
pub record PayloadIn (plain r : Bor (List ℕ)) : Type 0 where
  pub reads : r.now ≡ payload_of plain.now
  pub stands : r.ref_ptr ≡ (plain.ref_ptr.0, 8 + plain.ref_ptr.1)

-- r is the response in a plain text with its MAC: it holds a copy of the header, and refers to the payload
pub record Parses (plain : Bor (List ℕ)) (r : SecureResponse) : Type 0 where
  pub header : r.header ≡ header_of plain.now
  pub payload : PayloadIn plain r.payload

-- the same where the MAC holds; else 13
abbrev pub ParsesOr13 : ℕ → Bor (List ℕ) → Result SecureResponse Refusal → Type 0
ParsesOr13 code plain r = MatchResult r (λ s. (mac_holds code plain.now ≡ true) × Parses plain s) (λ e. (mac_holds code plain.now ≡ false) × (e ≡ MacDiffers))

-- number, ID and payload of a response, where `id` is the session's
unfoldable pub checked_delivering : ℕ → List ℕ → List ℕ → List ℕ → ℕ → Outcome
checked_delivering number found payload id room = decide (row 14 (isnt (same found id)) ∷ []) (delivering number payload room)

-- the same of the response in a plain text
unfoldable pub parsed_delivering : List ℕ → List ℕ → ℕ → Outcome
parsed_delivering id plain room = checked_delivering (number_of plain) (id_of plain) (payload_of plain) id room
