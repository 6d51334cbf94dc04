-- docs/NUMBERS.md: the scheme marks. Assumes nothing.
use Rattle.std.specs.Prelude.{ℕ, ◌≡◌, ◌≢◌, Result, MatchResult}
use Rattle.answer.specs.declared.refusal.Refusal.{Refusal}
use Rattle.answer.specs.declared.refusal.Refusal.TheVariants.{BadMarkOrLength}
use Rattle.answer.specs.declared.scheme.Scheme.{Scheme}
use Rattle.answer.specs.declared.scheme.Scheme.TheVariants.{Des, Aes128}

abbrev pub mark_of : Scheme → ℕ
mark_of Des = 1
mark_of Aes128 = 2

-- the scheme with this mark; 17 for a mark that no scheme has
abbrev pub HasMark : ℕ → Result Scheme Refusal → Type 0
HasMark mark r = MatchResult r (λ scheme. mark_of scheme ≡ mark) (λ e. (e ≡ BadMarkOrLength) × (mark ≢ 1) × (mark ≢ 2))
