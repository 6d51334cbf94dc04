-- From no document: how a reader of a fixed length takes a byte string of any length. Assumes nothing.
use Rattle.std.specs.Prelude.{ℕ, ◌≡◌, ◌≢◌, List, ◌++◌, length, take, drop, replicate, Result, MatchResult}
use Rattle.answer.specs.declared.refusal.Refusal.{Refusal}
use Rattle.answer.specs.declared.refusal.Refusal.TheVariants.{BadMarkOrLength}

-- the first n bytes of s, and zeros where it is shorter
abbrev pub fit : ℕ → List ℕ → List ℕ
fit n s = take n s ++ drop (length s) (replicate n 0)

-- a byte string that has to have n bytes: its bytes, or 17
abbrev pub HasExactly : ℕ → List ℕ → Result (List ℕ) Refusal → Type 0
HasExactly n s r = MatchResult r (λ a. (length s ≡ n) × (a ≡ s)) (λ e. (length s ≢ n) × (e ≡ BadMarkOrLength))
