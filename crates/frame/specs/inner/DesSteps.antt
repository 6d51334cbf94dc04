-- What is read before a sealing or an opening with DES, and opening in steps: what is left of it once there is a plain text. Assumes nothing.
use Rattle.std.specs.Prelude.{ℕ, ◌%◌, ◌≡◌, ◌≤◌, List, length, Result, MatchResult}
use Rattle.answer.specs.declared.refusal.Refusal.{Refusal}
use Rattle.frame.specs.declared.des.SecureResponseHeader.{SecureResponseHeader}
use Rattle.answer.specs.Delivery.{delivering}
use Rattle.answer.specs.Number.{number_of}
use Rattle.answer.specs.Outcome.{Outcome, decide, first_of}
use Rattle.answer.specs.Refusal.{refusal_number}
use Rattle.frame.specs.DesFrame.{seal_rows, open_rows, payload_of, plain_rows}

-- header and key of a sealing of n bytes, where no row by lengths holds; or the refusal of the first that does
abbrev pub ChecksDes : ℕ → List ℕ → List ℕ → ℕ → Result (SecureResponseHeader × List ℕ) Refusal → Type 0
ChecksDes number id key n r =
    let rows = seal_rows (length id) (length key) n in
    MatchResult r
    (λ p. (first_of rows ≡ 0) × (n ≤ 232) × (p.0.transaction_number ≡ number) × (p.0.transaction_id ≡ id) × (p.1 ≡ key))
    (λ e. first_of rows ≡ refusal_number e)

-- ID and key of an opening of n bytes, where no row by lengths holds; or the refusal of the first that does
abbrev pub ChecksOpenDes : List ℕ → List ℕ → ℕ → Result (List ℕ × List ℕ) Refusal → Type 0
ChecksOpenDes id key n r =
    let rows = open_rows (length id) (length key) n in
    MatchResult r (λ p. (first_of rows ≡ 0) × (n % 8 ≡ 0) × (16 ≤ n) × (n ≤ 253) × (p.0 ≡ id) × (p.1 ≡ key)) (λ e. first_of rows ≡ refusal_number e)

unfoldable pub des_accepting : ℕ → List ℕ → List ℕ → ℕ → Outcome
des_accepting code id plain room = decide (plain_rows code id plain) (delivering (number_of plain) (payload_of plain) room)
