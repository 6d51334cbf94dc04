-- The words of docs/RULES.md, "Statement 3": a reader and a card with the same inputs read each other's random blocks, accept
-- exactly the right 1B and 2B, derive the same session keys, and opening exactly inverts sealing, for every code and all bytes. Assumes nothing.
use Rattle.std.specs.Prelude.{ℕ, ◌<◌, ◌≡◌, List, ◌++◌, ◌↔◌, eqb, length}
use Rattle.cipher.specs.Bytes.{Bytes}
use Rattle.frame.specs.Inverse.{Domain}
use Rattle.answer.specs.Outcome.{Outcome, accepted, choose}
use Rattle.frame.specs.Scheme.{sealed, sealing, opening, framed, responding}
use Rattle.session.specs.Challenge.{block_size, making_1a, reading_1a, making_1b, checking_1b, making_2a, reading_2a, making_2b, checking_2b, deriving_session_keys}
use Rattle.session.specs.Derivation.{Derived}

-- an output is large enough if row 16 does not arise
abbrev pub Fits : Outcome → Type 0
Fits o = o.number ≡ 16 → ⊥

-- a byte string of n bytes
abbrev pub Fixed : ℕ → List ℕ → Type 0
Fixed n l = (length l ≡ n) × Bytes l

-- every input but those of the derivation has the fixed length that row 17 asks of it: IDm, random 1 and 2, Challenge 3C, transaction ID,
-- and a DES session key, which is given by the caller; any code
pub record Inputs (scheme : ℕ) (idm random1 random2 c3 id key : List ℕ) (code : ℕ) : Type 0 where
  pub idm_is : Fixed 8 idm
  pub random1_is : Fixed (block_size scheme) random1
  pub random2_is : Fixed (block_size scheme) random2
  pub c3_is : Fixed 4 c3
  pub id_is : Fixed 6 id
  pub key_is : Fixed 8 key
  pub one : code < 256

-- what the reader derived, and what the card derived
module _ (r c : Derived) (idm random1 random2 c3 id key : List ℕ) (code : ℕ) where
  -- the reader makes 1A from its random 1, and the card decrypts it; the numbers are the outputs' sizes
  abbrev pub made_1a : ℕ → Outcome
  made_1a a = making_1a r.scheme r.bytes idm random1 a

  abbrev pub read1 : ℕ → ℕ → Outcome
  read1 a b = reading_1a c.scheme c.bytes idm (made_1a a).bytes b

  -- the card makes 2A from its random 2, and the reader decrypts it
  abbrev pub made_2a : ℕ → Outcome
  made_2a a = making_2a c.scheme c.bytes idm c3 random2 a

  abbrev pub read2 : ℕ → ℕ → Outcome
  read2 a b = reading_2a r.scheme r.bytes idm c3 (made_2a a).bytes b

  -- the card makes 1B from the random 1 that it read, the reader 2B from the random 2 that it read
  abbrev pub made_1b : ℕ → ℕ → ℕ → Outcome
  made_1b a b e = making_1b c.scheme c.bytes idm c3 (read1 a b).bytes e

  abbrev pub made_2b : ℕ → ℕ → ℕ → Outcome
  made_2b a b e = making_2b r.scheme r.bytes idm (read2 a b).bytes e

  -- what an end of a scheme seals and opens with: the DES session key; or AES session keys and Challenge 3C
  abbrev pub credentials : ℕ → List ℕ → List ℕ
  credentials scheme session_keys = choose (eqb scheme 1) key (session_keys ++ c3)

  -- an end, by its scheme and its credentials: the reader's session keys come from the random 2 that it read, the card's from its own
  pub data End : ℕ → List ℕ → Type 0 where
    reader : (a b e : ℕ) → Fits (made_2a a) → Fits (read2 a b) → (r.scheme ≡ 2 → Fits (deriving_session_keys (read2 a b).bytes e))
        → End r.scheme (credentials r.scheme (deriving_session_keys (read2 a b).bytes e).bytes)
    card : (e : ℕ) → (c.scheme ≡ 2 → Fits (deriving_session_keys random2 e)) → End c.scheme (credentials c.scheme (deriving_session_keys random2 e).bytes)

  pub record Agreement : Type 0 where
    -- they read each other's random blocks
    pub card_reads_random_1 : (a b : ℕ) → Fits (made_1a a) → Fits (read1 a b) → ((made_1a a).number ≡ 0) × (read1 a b ≡ accepted 0 random1)
    pub reader_reads_random_2 : (a b : ℕ) → Fits (made_2a a) → Fits (read2 a b) → ((made_2a a).number ≡ 0) × (read2 a b ≡ accepted 0 random2)
    -- they accept exactly the right 1B and 2B: of all byte strings, the one that the other end makes
    pub reader_accepts_exactly_1b : (a b e : ℕ) → Fits (made_1a a) → Fits (read1 a b) → Fits (made_1b a b e)
        → ((made_1b a b e).number ≡ 0) × ((x : List ℕ) → ((checking_1b r.scheme r.bytes idm c3 random1 x).number ≡ 0) ↔ (x ≡ (made_1b a b e).bytes))
    pub card_accepts_exactly_2b : (a b e : ℕ) → Fits (made_2a a) → Fits (read2 a b) → Fits (made_2b a b e)
        → ((made_2b a b e).number ≡ 0) × ((x : List ℕ) → ((checking_2b c.scheme c.bytes idm random2 x).number ≡ 0) ↔ (x ≡ (made_2b a b e).bytes))
    -- they derive the same session keys
    pub same_session_keys : r.scheme ≡ 2 → (a b e f : ℕ) → Fits (made_2a a) → Fits (read2 a b) → Fits (deriving_session_keys (read2 a b).bytes e) → Fits (deriving_session_keys random2 f)
        → ((deriving_session_keys (read2 a b).bytes e).number ≡ 0) × (deriving_session_keys (read2 a b).bytes e ≡ deriving_session_keys random2 f)
    -- the sealing calls answer 0 with the sealed data, in a response frame after the length byte and the code
    pub commands_are_sealed : (s : ℕ) (k : List ℕ) → End s k → (number room : ℕ) (payload : List ℕ) → Domain s number payload → Fits (sealing s k code number id payload room)
        → sealing s k code number id payload room ≡ accepted 0 (sealed s k code number id payload)
    pub responses_are_sealed : (s : ℕ) (k : List ℕ) → End s k → (number room : ℕ) (payload : List ℕ) → Domain s number payload → Fits (responding s k code number id payload room)
        → responding s k code number id payload room ≡ accepted 0 (framed code (sealed s k code number id payload))
    -- data opens as number and payload exactly if it is their sealing, by whichever end; and is refused exactly if it is the sealing of nothing
    pub opens_exactly : (s s' : ℕ) (k k' : List ℕ) → End s k → End s' k' → (d : List ℕ) (room : ℕ) → Bytes d → Fits (opening s' k' code id d room) → (number : ℕ) (payload : List ℕ)
        → (opening s' k' code id d room ≡ accepted number payload) ↔ (Domain s number payload × (d ≡ sealed s k code number id payload))
    pub refuses_exactly : (s s' : ℕ) (k k' : List ℕ) → End s k → End s' k' → (d : List ℕ) (room : ℕ) → Bytes d → Fits (opening s' k' code id d room)
        → ((opening s' k' code id d room).number ≡ 0 → ⊥) ↔ ((number : ℕ) (payload : List ℕ) → Domain s number payload → d ≡ sealed s k code number id payload → ⊥)

  -- the two ends have derived the same, and agree
  pub record Statement3 : Type 0 where
    pub same_derivation : r ≡ c
    pub agreement : Agreement
