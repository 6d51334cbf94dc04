-- Sealing into a work block: what its steps answer. Assumes nothing.
use Rattle.std.specs.Prelude.{ℕ, ◌≡◌, ◌≤◌, ◌<◌, List, length, Result, MatchResult}
use Rattle.answer.specs.declared.refusal.Refusal.{Refusal}
use Rattle.answer.specs.declared.refusal.Refusal.TheVariants.{TooLong}
use Rattle.answer.specs.Outcome.{Row, first_of, over}
use Rattle.answer.specs.Refusal.{refusal_number}
use Rattle.frame.specs.declared.sealed.Sealed.{Sealed}

-- 12 of n bytes where there may be `most` of them, else a size
abbrev pub HasSize : ℕ → ℕ → ℕ → Result ℕ Refusal → Type 0
HasSize most n size r = MatchResult r (λ s. (n ≤ most) × (s ≡ size)) (λ e. (most < n) × (e ≡ TooLong))

-- the sealed data's size, at most 253, and padding, with the sealed data over the front of the block
abbrev pub WritesSealed : List ℕ → ℕ → ℕ → Sealed → List ℕ → List ℕ → Type 0
WritesSealed sealed size padding s before after = (s.size ≡ size) × (s.size ≤ 253) × (size ≡ length sealed) × (after ≡ over sealed before) × (s.padding ≡ padding)

-- both steps, a check and what is written: the sealed data's size and padding, with the sealed data over the front of the block; or the refusal by
-- lengths
abbrev pub SealsInto : List Row → List ℕ → ℕ → ℕ → Result Sealed Refusal → List ℕ → List ℕ → Type 0
SealsInto rows sealed size padding r before after =
    MatchResult r
    (λ s. (first_of rows ≡ 0) × (s.size ≡ size) × (size ≤ 253) × (size ≡ length sealed) × (after ≡ over sealed before) × (s.padding ≡ padding))
    (λ e. first_of rows ≡ refusal_number e)
