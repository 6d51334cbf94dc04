-- Outcomes whose padding is 0: refusals, what is opened, whatever else is accepted without padding. Assumes nothing.
use mathlib.Core.Path.{◌≡◌, refl, ap, ◌∙◌}
use mathlib.Core.List.{List}
use Prim.Native.Nat.{ℕ}
use Rattle.answer.specs.Delivery.{handing, delivering}
use Rattle.answer.specs.Outcome.{Outcome, Row, refused, acceptance, accepted, decide}
use Rattle.answer.proofs.Refusals.{Whole}
use Rattle.answer.proofs.Rows.{decide_keeps}

abbrev pub Unpadded : Outcome → Type 0
Unpadded o = o.padding ≡ 0

pub refused_unpadded : (k : ℕ) → Unpadded (refused k)
unfolding refused
refused_unpadded k = refl

-- an outcome that is known to refuse
pub refusal_unpadded : (o : Outcome) → Whole o → (o.number ≡ 0 → ⊥) → Unpadded o
refusal_unpadded o w h = ap (λ (p : Outcome). p.padding) (w h) ∙ refused_unpadded o.number

pub accepted_unpadded : (n : ℕ) (b : List ℕ) → Unpadded (accepted n b)
unfolding acceptance
accepted_unpadded n b = refl

pub decide_unpadded : (rs : List Row) (o : Outcome) → Unpadded o → Unpadded (decide rs o)
decide_unpadded = decide_keeps Unpadded refused_unpadded

pub delivering_unpadded : (n : ℕ) (b : List ℕ) (room : ℕ) → Unpadded (delivering n b room)
unfolding handing
delivering_unpadded n b room = decide_unpadded _ (accepted n b) (accepted_unpadded n b)
