-- The credentials of a session with AES, what a sealing and an opening read first, and opening in steps: what is left of it once there is a payload.
-- Assumes nothing.
use Rattle.std.specs.Borrow.{Bor}
use Rattle.std.specs.Prelude.{ℕ, ◌≡◌, ◌≢◌, ◌≤◌, ◌<◌, List, [], ◌∷◌, ◌++◌, length, Result, MatchResult}
use Rattle.answer.specs.declared.refusal.Refusal.{Refusal}
use Rattle.answer.specs.declared.refusal.Refusal.TheVariants.{TooShort, TooLong, BadMarkOrLength}
use Rattle.frame.specs.declared.v2_aes.Credentials.{Credentials}
use Rattle.answer.specs.Number.{number_bytes, number_of}
use Rattle.answer.specs.Outcome.{Outcome, row, decide, first_of}
use Rattle.answer.specs.Refusal.{refusal_number}
use Rattle.answer.specs.Delivery.{delivering}
use Rattle.frame.specs.AesFrame.{mac_key, aes_mac, aes_seal_rows, aes_open_rows, opened_iv, opened_payload, opened_mac}
use Rattle.answer.specs.Tests.{isnt, same}

-- the bytes that credentials are read from
abbrev pub bytes_of : Credentials → List ℕ
bytes_of k = k.cipher_key ++ (k.mac_key ++ k.challenge_3c)

-- credentials have to have 36 bytes
abbrev pub HasAll : List ℕ → Result Unit Refusal → Type 0
HasAll s r = MatchResult r (λ t. length s ≡ 36) (λ e. (length s ≢ 36) × (e ≡ BadMarkOrLength))

-- ID and credentials of a sealing of n bytes, where no row by lengths holds; or the refusal of the first that does
abbrev pub ChecksAes : List ℕ → List ℕ → ℕ → Result (List ℕ × Credentials) Refusal → Type 0
ChecksAes id c n r =
    let rows = aes_seal_rows (length id) (length c) n in
    MatchResult r (λ p. (first_of rows ≡ 0) × (n ≤ 243) × (p.0 ≡ id) × (bytes_of p.1 ≡ c)) (λ e. first_of rows ≡ refusal_number e)

-- the parts of sealed data: its number, cipher payload and cipher MAC; or 11 and 12 by its length
abbrev pub Splits : List ℕ → Result (ℕ × Bor (List ℕ) × List ℕ) Refusal → Type 0
Splits d r =
    MatchResult r (λ p. (10 ≤ length d) × (length d ≤ 253) × (d ≡ number_bytes p.0 ++ (p.1.now ++ p.2))) (λ e. (10 ≤ length d → (253 < length d) × (e ≡ TooLong)) × (length d < 10 → e ≡ TooShort))

-- ID of an opening and the parts of its data, where no row by lengths holds; or the refusal of the first that does
abbrev pub ChecksOpenAes : List ℕ → List ℕ → List ℕ → Result (List ℕ × ℕ × Bor (List ℕ) × List ℕ) Refusal → Type 0
ChecksOpenAes id c d r =
    let rows = aes_open_rows (length id) (length c) (length d) in
    MatchResult r
    (λ p. (first_of rows ≡ 0) × (length id ≡ 6) × (length c ≡ 36) × (10 ≤ length d) × (length d ≤ 253) × (p.0 ≡ id) × (d ≡ number_bytes p.1 ++ (p.2.now ++ p.3)))
    (λ e. first_of rows ≡ refusal_number e)

-- opening, given the payload, its MAC, and the MAC that it has to have
unfoldable pub aes_accepting : ℕ → List ℕ → List ℕ → List ℕ → ℕ → Outcome
aes_accepting number mac wanted payload room = decide (row 13 (isnt (same mac wanted)) ∷ []) (delivering number payload room)

-- opening, where no row of the lengths holds
unfoldable pub aes_trying : List ℕ → ℕ → List ℕ → List ℕ → ℕ → Outcome
aes_trying c code id sealed room =
    let payload = opened_payload c code id sealed in
    aes_accepting (number_of sealed) (opened_mac c code id sealed) (aes_mac (mac_key c) (opened_iv c code id sealed) payload) payload room
