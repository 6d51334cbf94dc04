-- docs/RULES.md, Statement 3: opening exactly inverts sealing; what that says, for a scheme, credentials, an ID and a code. Assumes nothing.
use Rattle.std.specs.Prelude.{◌≡◌, List, ◌↔◌, ℕ, ◌%◌, ◌≤◌, ◌<◌, length}
use Rattle.cipher.specs.Bytes.{Bytes}
use Rattle.answer.specs.Outcome.{refused, accepted}
use Rattle.frame.specs.Scheme.{sealed, sealing, opening, sealed_size, longest}

-- what sealed data carries: a number of 16 bits and up to 243 bytes for AES; in whole blocks, up to 232 for DES
pub record Domain (scheme number : ℕ) (payload : List ℕ) : Type 0 where
  pub small : number < 65536
  pub short : length payload ≤ longest scheme
  pub whole : scheme ≡ 1 → length payload % 8 ≡ 0
  pub bytes : Bytes payload

-- d is the sealing of a payload that has more than `room` bytes
pub record TooLarge (scheme : ℕ) (c id : List ℕ) (code : ℕ) (d : List ℕ) (room : ℕ) : Type 0 where
  pub number : ℕ
  pub payload : List ℕ
  pub inside : Domain scheme number payload
  pub is : d ≡ sealed scheme c code number id payload
  pub larger : room < length payload

-- for a scheme, credentials, an ID and a code
pub record Frames (scheme : ℕ) (c id : List ℕ) (code : ℕ) : Type 0 where
  -- sealing answers 0 with the sealed data, wherever it fits the output, and 16 elsewhere
  pub seals : (number room : ℕ) (payload : List ℕ) → Domain scheme number payload → sealed_size scheme (length payload) ≤ room
      → sealing scheme c code number id payload room ≡ accepted 0 (sealed scheme c code number id payload)
  pub seals_not : (number room : ℕ) (payload : List ℕ) → Domain scheme number payload → room < sealed_size scheme (length payload) → sealing scheme c code number id payload room ≡ refused 16
  pub size : (number : ℕ) (payload : List ℕ) → Domain scheme number payload → length (sealed scheme c code number id payload) ≡ sealed_size scheme (length payload)
  -- data opens as number and payload exactly if it is their sealing, wherever row 16 does not arise
  pub opens_exactly : (d : List ℕ) (room : ℕ) → Bytes d → ((opening scheme c code id d room).number ≡ 16 → ⊥) → (number : ℕ) (payload : List ℕ)
      → (opening scheme c code id d room ≡ accepted number payload) ↔ (Domain scheme number payload × (d ≡ sealed scheme c code number id payload))
  -- and is refused exactly if it is the sealing of nothing
  pub refuses_exactly : (d : List ℕ) (room : ℕ) → Bytes d → ((opening scheme c code id d room).number ≡ 16 → ⊥)
      → ((opening scheme c code id d room).number ≡ 0 → ⊥) ↔ ((number : ℕ) (payload : List ℕ) → Domain scheme number payload → d ≡ sealed scheme c code number id payload → ⊥)
  -- row 16 arises exactly if it is the sealing of a payload that does not fit the output
  pub room_exactly : (d : List ℕ) (room : ℕ) → Bytes d → ((opening scheme c code id d room).number ≡ 16) ↔ TooLarge scheme c id code d room
