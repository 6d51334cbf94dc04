-- What C gets of an answer, and that its parts come back. Assumes nothing.
use mathlib.Core.Path.{◌≡◌, refl, sym, ap, ◌∙◌}
use mathlib.Core.Bool.{Bool, true, false, not}
use mathlib.Core.List.{List, [], ◌∷◌}
use Prim.Native.Nat.{ℕ, ◌*◌, ◌<◌}
use native.Mathlib.Omega.{arith}
use lib.Dec.{lit<}
use Rattle.std.specs.Int.{from_bool}
use Rattle.std.specs.Prelude.{Result, Ok, Err, MatchResult}
use Rattle.answer.specs.declared.refusal.Refusal.{Refusal}
use Rattle.answer.specs.Outcome.{Outcome, Meets, Answer, answer_number, answer_length, answer_transaction, answer_padding, refused, acceptance, accepted, row, choose, decide, over}
use Rattle.answer.specs.Refusal.{refusal_number}
use Rattle.answer.specs.Tests.{isnt}
use Rattle.frame.specs.Forecast.{forecasting}
use Rattle.session.specs.Challenge.{Compares}
use Rattle.felica_secure.specs.Packed.{packed, packed_sealed, packed_number, packed_mark, packed_length, packed_transaction, packed_padding, Returns}

-- the parts of a packed answer are what was packed
module _ (number mark length transaction padding : ℕ) (hn : number < 0x100) (hm : mark < 0x100) (hl : length < 0x10000) (ht : transaction < 0x10000) (hp : padding < 0x100) where
  pub packed_sealed_number : packed_number (packed_sealed number mark length transaction padding) ≡ number
  unfolding packed_sealed packed packed_number
  packed_sealed_number = omega arith

  pub packed_sealed_mark : packed_mark (packed_sealed number mark length transaction padding) ≡ mark
  unfolding packed_sealed packed packed_mark
  packed_sealed_mark = omega arith

  pub packed_sealed_length : packed_length (packed_sealed number mark length transaction padding) ≡ length
  unfolding packed_sealed packed packed_length
  packed_sealed_length = omega arith

  pub packed_sealed_transaction : packed_transaction (packed_sealed number mark length transaction padding) ≡ transaction
  unfolding packed_sealed packed packed_transaction
  packed_sealed_transaction = omega arith

  pub packed_padding_lem : packed_padding (packed_sealed number mark length transaction padding) ≡ padding
  unfolding packed_sealed packed packed_padding
  packed_padding_lem = omega arith

-- bits 56 to 63 are 0
pub packed_sealed_rest : (number mark length transaction padding : ℕ) → number < 0x100 → mark < 0x100 → length < 0x10000 → transaction < 0x10000 → padding < 0x100
    → packed_sealed number mark length transaction padding < 0x100000000000000
unfolding packed_sealed packed
packed_sealed_rest number mark length transaction padding hn hm hl ht hp = omega arith

-- a number alone is itself
pub packed_alone : (n : ℕ) → packed_sealed n 0 0 0 0 ≡ n
unfolding packed_sealed packed
packed_alone n = omega arith

-- where there is no padding, an answer is as without a place for it, and so are its parts
pub packed_unpadded : (number mark length transaction padding : ℕ) → padding ≡ 0 → packed_sealed number mark length transaction padding ≡ packed number mark length transaction
unfolding packed_sealed
packed_unpadded number mark length transaction padding e = rw e (omega arith)

module _ (number mark length transaction : ℕ) (hn : number < 0x100) (hm : mark < 0x100) (hl : length < 0x10000) (ht : transaction < 0x10000) where
  none : packed_sealed number mark length transaction 0 ≡ packed number mark length transaction
  none = packed_unpadded number mark length transaction 0 refl

  pub packed_number_lem : packed_number (packed number mark length transaction) ≡ number
  packed_number_lem = ap packed_number (sym none) ∙ packed_sealed_number number mark length transaction 0 hn hm hl ht (lit< tt)

  pub packed_mark_lem : packed_mark (packed number mark length transaction) ≡ mark
  packed_mark_lem = ap packed_mark (sym none) ∙ packed_sealed_mark number mark length transaction 0 hn hm hl ht (lit< tt)

  pub packed_length_lem : packed_length (packed number mark length transaction) ≡ length
  packed_length_lem = ap packed_length (sym none) ∙ packed_sealed_length number mark length transaction 0 hn hm hl ht (lit< tt)

  pub packed_transaction_lem : packed_transaction (packed number mark length transaction) ≡ transaction
  packed_transaction_lem = ap packed_transaction (sym none) ∙ packed_sealed_transaction number mark length transaction 0 hn hm hl ht (lit< tt)

-- an answer that meets an outcome, packed
pub meets_returns : (o : Outcome) (a : Answer) (r : ℕ) (before after : List ℕ) → Meets o a before after → r ≡ packed_sealed (answer_number a) 0 (answer_length a) (answer_transaction a) (answer_padding a) → Returns o r before after
meets_returns o a r before after m e = record { answer = e ∙ rw (m.number, m.length_is, m.transaction, m.padding); output = m.output }

-- a forecast, packed
pub forecast_packed : (scheme n : ℕ) (a : Answer) (r : ℕ) → (answer_number a ≡ (forecasting scheme n).number) × (answer_length a ≡ (forecasting scheme n).size) × (answer_transaction a ≡ 0) × (answer_padding a ≡ 0)
    → r ≡ packed_sealed (answer_number a) 0 (answer_length a) (answer_transaction a) (answer_padding a) → r ≡ packed (forecasting scheme n).number 0 (forecasting scheme n).size 0
forecast_packed scheme n a r f e = e ∙ packed_unpadded _ _ _ _ _ f.3 ∙ rw (f.0, f.1, f.2)

-- ---- a check, packed

pub unequal_13 : (t : Bool) → from_bool (not t) * 13 ≡ choose t 0 13
unfolding choose
unequal_13 true = refl
unequal_13 false = refl

-- the outcome of two blocks that are equal or not
compared_returns : (t : Bool) (r : ℕ) → r ≡ choose t 0 13 → Returns (decide (row 13 (isnt t) ∷ []) (accepted 0 [])) r [] []
unfolding decide choose isnt refused acceptance over
compared_returns true r e = record { answer = e ∙ sym (packed_alone 0); output = refl }
compared_returns false r e = record { answer = e ∙ sym (packed_alone 13); output = refl }

pub checks_returns : (o : Outcome) (check : Result Bool Refusal) (r : ℕ) → Compares o check → MatchResult check (λ equal. r ≡ choose equal 0 13) (λ e. r ≡ refusal_number e) → Returns o r [] []
unfolding refused over
checks_returns o (Ok t) r h e = rw h (compared_returns t r e)
checks_returns o (Err f) r h e = rw h.0 record { answer = e ∙ ap refusal_number h.1 ∙ sym (packed_alone 17); output = refl }
