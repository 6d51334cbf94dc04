-- docs/RULES.md, For C: C callers pass numbers and byte slices only. What they get is one number of 64 bits, laid out here:
-- bits 0 to 7 are the number of the refusal, 0 for acceptance; 8 to 15 a scheme mark, or the algorithm of a key entry; 16 to 31 a length, an index or
-- a count; 32 to 47 a transaction number, a ceiling, or a node; 48 to 55 the padding of a sealing; the rest is 0. Assumes nothing.
use Rattle.std.specs.Prelude.{ℕ, ◌+◌, ◌*◌, ◌/◌, ◌%◌, ◌≡◌, List, length}
use Rattle.answer.specs.Outcome.{Outcome, over}
use Rattle.session.specs.Derivation.{Derived}

unfoldable pub packed : ℕ → ℕ → ℕ → ℕ → ℕ
packed number mark length transaction = number + mark * 0x100 + length * 0x10000 + transaction * 0x100000000

-- with the padding in bits 48 to 55. Bits 56 to 63 are kept for a count of cipher runs
unfoldable pub packed_sealed : ℕ → ℕ → ℕ → ℕ → ℕ → ℕ
packed_sealed number mark length transaction padding = packed number mark length transaction + padding * 0x1000000000000

-- its parts, as the header reads them
unfoldable pub packed_number : ℕ → ℕ
packed_number r = r % 0x100

unfoldable pub packed_mark : ℕ → ℕ
packed_mark r = r / 0x100 % 0x100

unfoldable pub packed_length : ℕ → ℕ
packed_length r = r / 0x10000 % 0x10000

unfoldable pub packed_transaction : ℕ → ℕ
packed_transaction r = r / 0x100000000 % 0x10000

unfoldable pub packed_padding : ℕ → ℕ
packed_padding r = r / 0x1000000000000 % 0x100

-- an answer r to a C caller, and an output that was `before` and is `after`, are those of the outcome o
pub record Returns (o : Outcome) (r : ℕ) (before after : List ℕ) : Type 0 where
  pub answer : r ≡ packed_sealed o.number 0 (length o.bytes) o.transaction o.padding
  pub output : after ≡ over o.bytes before

-- the same of a derivation, with its scheme mark, and the node in the place of a transaction number
pub record ReturnsDerived (d : Derived) (r : ℕ) (before after : List ℕ) : Type 0 where
  pub answer : r ≡ packed d.number d.scheme (length d.bytes) d.node
  pub output : after ≡ over d.bytes before
