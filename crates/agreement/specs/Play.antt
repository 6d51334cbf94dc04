-- Statement 3 in code: what a reader and a card say to each other, as one byte string. docs/RULES.md, "Statement 3". Assumes nothing.
use Rattle.std.specs.Prelude.{ℕ, List, [], ◌∷◌, ◌++◌, eqb}
use Rattle.answer.specs.Delivery.{delivering}
use Rattle.answer.specs.Outcome.{Outcome, refused, choose}
use Rattle.frame.specs.Scheme.{sealing, responding}
use Rattle.session.specs.Challenge.{deriving_session_keys}
use Rattle.session.specs.Derivation.{Derived, derivation}
use Rattle.agreement.specs.Agreement.{made_1a, made_1b, made_2a, read2, made_2b, credentials}

-- the first number that is not 0 refuses; where all are 0, o
unfoldable pub unless : List ℕ → Outcome → Outcome
unless [] o = o
unless (k ∷ ks) o = choose (eqb k 0) (unless ks o) (refused k)

-- what the reader derived, and what the card derived; blocks have 16 bytes of output, sealed data 256
module _ (r c : Derived) (idm c3 random1 random2 : List ℕ) (code number : ℕ) (id key payload : List ℕ) where
  -- 1A, 1B, 2A and 2B
  abbrev pub said_1a : Outcome
  said_1a = made_1a r c idm random1 random2 c3 id key code 16

  abbrev pub said_1b : Outcome
  said_1b = made_1b r c idm random1 random2 c3 id key code 16 16 16

  abbrev pub said_2a : Outcome
  said_2a = made_2a r c idm random1 random2 c3 id key code 16

  abbrev pub said_2b : Outcome
  said_2b = made_2b r c idm random1 random2 c3 id key code 16 16 16

  -- the reader seals a command with session keys of the random 2 that it read
  abbrev pub reader_credentials : List ℕ
  reader_credentials = credentials r c idm random1 random2 c3 id key code r.scheme (deriving_session_keys (read2 r c idm random1 random2 c3 id key code 16 16).bytes 32).bytes

  abbrev pub said_command : Outcome
  said_command = sealing r.scheme reader_credentials code number id payload 256

  -- the card answers with a response frame, with session keys of its own random 2
  abbrev pub card_credentials : List ℕ
  card_credentials = credentials r c idm random1 random2 c3 id key code c.scheme (deriving_session_keys random2 32).bytes

  abbrev pub said_response : Outcome
  said_response = responding c.scheme card_credentials code number id payload 256

  -- all of it, one behind the other; a refusal on the way is the answer
  unfoldable pub saying : ℕ → Outcome
  saying room =
      unless (said_1a.number ∷ said_1b.number ∷ said_2a.number ∷ said_2b.number ∷ said_command.number ∷ said_response.number ∷ [])
      (delivering 0 (said_1a.bytes ++ said_1b.bytes ++ said_2a.bytes ++ said_2b.bytes ++ said_command.bytes ++ said_response.bytes) room)

-- each end derives for itself, from the same lists and with 32 bytes of output; then they speak
unfoldable pub playing : ℕ → List ℕ → List ℕ → List ℕ → List ℕ → List ℕ → List ℕ → List ℕ → List ℕ → ℕ → ℕ → List ℕ → List ℕ → List ℕ → ℕ → Outcome
playing mark keys areas services individual idm c3 random1 random2 code number id key payload room =
    let reader = derivation mark keys areas services individual 32 in
    let card = derivation mark keys areas services individual 32 in
    unless (reader.number ∷ card.number ∷ []) (saying reader card idm c3 random1 random2 code number id key payload room)
