-- From no document: what a challenge call reads of its arguments, or 17. Assumes nothing.
use Rattle.std.specs.Prelude.{ℕ, ◌+◌, ◌≡◌, ◌≢◌, true, false, List, length, take, drop, Result, MatchResult}
use Rattle.answer.specs.declared.refusal.Refusal.{Refusal}
use Rattle.answer.specs.declared.refusal.Refusal.TheVariants.{BadMarkOrLength}
use Rattle.session.specs.Challenge.{des_l, des_alpha, des_beta, aes_alpha, aes_beta, wrong}
use Rattle.session.specs.declared.challenge.Parsed.{Parsed}
use Rattle.session.specs.declared.challenge.Parsed.TheVariants.{Des, Aes128}

-- two keys of n bytes
abbrev pub HasHalves : ℕ → List ℕ → Result (List ℕ × List ℕ) Refusal → Type 0
HasHalves n keys r = MatchResult r (λ p. (length keys ≡ n + n) × (p.0 ≡ take n keys) × (p.1 ≡ drop n keys)) (λ e. (length keys ≢ n + n) × (e ≡ BadMarkOrLength))

-- the context of a scheme's derived keys and an IDm, and the block
abbrev pub IsParsed : ℕ → List ℕ → List ℕ → List ℕ → Parsed → Type 0
IsParsed scheme keys idm block (Des c b) = (scheme ≡ 1) × (c.l ≡ des_l keys idm) × (c.alpha ≡ des_alpha keys idm) × (c.beta ≡ des_beta keys idm) × (b ≡ block)
IsParsed scheme keys idm block (Aes128 c b) = (scheme ≡ 2) × (c.alpha ≡ aes_alpha keys idm) × (c.beta ≡ aes_beta keys idm) × (b ≡ block)

abbrev pub HasParsed : ℕ → List ℕ → List ℕ → List ℕ → Result Parsed Refusal → Type 0
HasParsed scheme keys idm block r =
    MatchResult r
    (λ p. (wrong scheme (length keys) (length idm) (length block) ≡ false) × IsParsed scheme keys idm block p)
    (λ e. (wrong scheme (length keys) (length idm) (length block) ≡ true) × (e ≡ BadMarkOrLength))
