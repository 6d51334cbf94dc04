-- docs/NUMBERS.md, row 16, which is last: bytes go out where there is room for them. Assumes nothing.
use Rattle.std.specs.Prelude.{ℕ, ◌%◌, ◌≡◌, List, [], ◌∷◌, ltb, length}
use Rattle.answer.specs.Outcome.{Outcome, Answer, answer_number, answer_length, answer_transaction, answer_padding, accepted, row, decide, over}

-- an acceptance o, where its bytes fit the output
unfoldable pub handing : Outcome → ℕ → Outcome
handing o room = decide (row 16 (ltb room (length o.bytes)) ∷ []) o

-- the same without padding: an opened payload with its number, and whatever is no sealing
abbrev pub delivering : ℕ → List ℕ → ℕ → Outcome
delivering number payload room = handing (accepted number payload) room

-- `Meets` for bytes of any number. An answer's length has 16 bits: of more than 65,535 bytes it has the lowest 16 bits of their number
pub record Delivers (o : Outcome) (r : Answer) (before after : List ℕ) : Type 0 where
  pub number : answer_number r ≡ o.number
  pub length_is : answer_length r ≡ length o.bytes % 65536
  pub transaction : answer_transaction r ≡ o.transaction
  pub padding : answer_padding r ≡ o.padding
  pub output : after ≡ over o.bytes before
