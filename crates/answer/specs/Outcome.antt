-- docs/RULES.md, Turned-down calls: what a call answers and writes. Its numbers are those of docs/NUMBERS.md; 0 is acceptance. Assumes nothing.
use Rattle.std.specs.Prelude.{ℕ, ◌≡◌, Bool, true, false, List, [], ◌∷◌, ◌++◌, length, drop, Result, Ok, Err}
use Rattle.answer.specs.declared.answer.Accepted.{Accepted}
use Rattle.answer.specs.declared.refusal.Refusal.{Refusal}
use Rattle.answer.specs.Refusal.{refusal_number}

-- `transaction` is the transaction number of what was opened, else 0; `padding` is how many bytes a sealing added to what it sealed, else 0;
-- `bytes` go over the front of the output
pub record Outcome : Type 0 where
  pub number : ℕ
  pub transaction : ℕ
  pub padding : ℕ
  pub bytes : List ℕ

-- a refusal writes nothing, and every other value of its answer is 0
unfoldable pub refused : ℕ → Outcome
refused k = record { number = k; transaction = 0; padding = 0; bytes = [] }

-- an acceptance with its transaction number, its padding and its bytes
unfoldable pub acceptance : ℕ → ℕ → List ℕ → Outcome
acceptance n p b = record { number = 0; transaction = n; padding = p; bytes = b }

-- an acceptance without padding
abbrev pub accepted : ℕ → List ℕ → Outcome
accepted n b = acceptance n 0 b

-- a sealing that added p bytes of padding
abbrev pub padded : ℕ → List ℕ → Outcome
padded p b = acceptance 0 p b

-- the order of the refusals is a list: each number with its condition
pub record Row : Type 0 where
  pub number : ℕ
  pub holds : Bool

abbrev pub row : ℕ → Bool → Row
row k b = record { number = k; holds = b }

unfoldable pub choose : {A : Type 0} → Bool → A → A → A
choose true a b = a
choose false a b = b

-- the first condition that holds decides; where none does, o
unfoldable pub decide : List Row → Outcome → Outcome
decide [] o = o
decide (r ∷ rs) o = choose r.holds (refused r.number) (decide rs o)

-- its number by itself: what a guard answers, 0 to go on
unfoldable pub first_of : List Row → ℕ
first_of [] = 0
first_of (r ∷ rs) = choose r.holds r.number (first_of rs)

-- what an output holds after b was written over its front
unfoldable pub over : List ℕ → List ℕ → List ℕ
over b o = b ++ drop (length b) o

-- what a call answers: its number, 0 for an acceptance, and its values, which are 0 with a refusal
abbrev pub Answer : Type 0
Answer = Result Accepted Refusal

abbrev pub answer_number : Answer → ℕ
answer_number (Ok a) = 0
answer_number (Err e) = refusal_number e

abbrev pub answer_length : Answer → ℕ
answer_length (Ok a) = a.length
answer_length (Err e) = 0

abbrev pub answer_transaction : Answer → ℕ
answer_transaction (Ok a) = a.transaction_number
answer_transaction (Err e) = 0

abbrev pub answer_padding : Answer → ℕ
answer_padding (Ok a) = a.padding
answer_padding (Err e) = 0

-- an answer r, and an output that was `before` and is `after`, are those of the outcome o
pub record Meets (o : Outcome) (r : Answer) (before after : List ℕ) : Type 0 where
  pub number : answer_number r ≡ o.number
  pub length_is : answer_length r ≡ length o.bytes
  pub transaction : answer_transaction r ≡ o.transaction
  pub padding : answer_padding r ≡ o.padding
  pub output : after ≡ over o.bytes before
