-- An acceptance comes from the work alone: no row held. Assumes nothing.
use mathlib.Core.Path.{◌≡◌, refl, sym, ap, ◌∙◌}
use mathlib.Core.Bool.{Bool, true, false}
use mathlib.Core.List.{List, [], ◌∷◌}
use Prim.Native.Nat.{ℕ, ◌<◌}
use native.Mathlib.Omega.{arith}
use Rattle.answer.specs.Tests.{isnt, either, same}
use Rattle.answer.specs.Delivery.{handing, delivering}
use Rattle.answer.specs.Outcome.{Outcome, refused, acceptance, accepted, Row, choose, decide}
use Rattle.answer.proofs.Rows.{AllFalse, decide_keeps}
use Rattle.answer.proofs.Equality.{same_refl}

-- each row's number is one of a refusal
abbrev pub Numbered : List Row → Type 0
Numbered [] = Unit {0}
Numbered (r ∷ rs) = (0 < r.number) × Numbered rs

-- a row that holds decides, and one that does not hold leaves it to the others
row_holds : (r : Row) (rs : List Row) (o : Outcome) → r.holds ≡ true → decide (r ∷ rs) o ≡ refused r.number
unfolding decide choose
row_holds r rs o e = rw e

row_passes : (r : Row) (rs : List Row) (o : Outcome) → r.holds ≡ false → decide (r ∷ rs) o ≡ decide rs o
unfolding decide choose
row_passes r rs o e = rw e

pub refused_number : (k : ℕ) → (refused k).number ≡ k
unfolding refused
refused_number k = refl

-- an acceptance comes from the work alone
pub zero_passes : (rs : List Row) (o : Outcome) → Numbered rs → (decide rs o).number ≡ 0 → AllFalse rs
zero_passes [] o n h = tt
zero_passes (r ∷ rs) o n h = go r.holds refl (zero_passes rs o n.1)
  where
    go : (b : Bool) → r.holds ≡ b → ((decide rs o).number ≡ 0 → AllFalse rs) → AllFalse (r ∷ rs)
    go true e rest =
        let z : r.number ≡ 0 = sym (refused_number r.number) ∙ ap (λ (p : Outcome). p.number) (sym (row_holds r rs o e)) ∙ h in
        absurd (omega (arith, n.0))
    go false e rest = (e, rest (ap (λ (p : Outcome). p.number) (sym (row_passes r rs o e)) ∙ h))

pub acceptance_zero : (number padding : ℕ) (payload : List ℕ) → (acceptance number padding payload).number ≡ 0
unfolding acceptance
acceptance_zero number padding payload = refl

-- ---- a refusal

-- no row has the number k
abbrev pub Without : ℕ → List Row → Type 0
Without k [] = Unit {0}
Without k (r ∷ rs) = (r.number ≡ k → ⊥) × Without k rs

-- a number that no row has comes from the work
pub from_work : (k : ℕ) (rs : List Row) (o : Outcome) → Without k rs → (decide rs o).number ≡ k → AllFalse rs × (o.number ≡ k)
unfolding decide
from_work k [] o n h = (tt, h)
from_work k (r ∷ rs) o n h = go r.holds refl (from_work k rs o n.1)
  where
    go : (b : Bool) → r.holds ≡ b → ((decide rs o).number ≡ k → AllFalse rs × (o.number ≡ k)) → AllFalse (r ∷ rs) × (o.number ≡ k)
    go true e rest = absurd (n.0 (sym (refused_number r.number) ∙ ap (λ (p : Outcome). p.number) (sym (row_holds r rs o e)) ∙ h))
    go false e rest =
        let q = rest (ap (λ (p : Outcome). p.number) (sym (row_passes r rs o e)) ∙ h) in
        ((e, q.0), q.1)

-- it is all of the outcome: nothing is written
abbrev pub Whole : Outcome → Type 0
Whole o = (o.number ≡ 0 → ⊥) → o ≡ refused o.number

pub refused_whole : (k : ℕ) → Whole (refused k)
unfolding refused
refused_whole k h = refl

pub decide_whole : (rs : List Row) (o : Outcome) → Whole o → Whole (decide rs o)
decide_whole = decide_keeps Whole refused_whole

pub acceptance_whole : (n p : ℕ) (b : List ℕ) → Whole (acceptance n p b)
acceptance_whole n p b h = absurd (h (acceptance_zero n p b))

pub delivering_whole : (n : ℕ) (b : List ℕ) (room : ℕ) → Whole (delivering n b room)
unfolding handing
delivering_whole n b room = decide_whole _ (accepted n b) (acceptance_whole n 0 b)

-- ---- what an acceptance says

pub accepted_number : (m n : ℕ) (s t : List ℕ) → accepted m s ≡ accepted n t → m ≡ n
unfolding acceptance
accepted_number m n s t e = ap (λ (o : Outcome). o.transaction) e

pub accepted_bytes : (m n : ℕ) (s t : List ℕ) → accepted m s ≡ accepted n t → s ≡ t
unfolding acceptance
accepted_bytes m n s t e = ap (λ (o : Outcome). o.bytes) e

-- ---- tests that a row does not hold

pub isnt_of : (b : Bool) → b ≡ true → isnt b ≡ false
unfolding isnt
isnt_of b e = rw e

pub either_of : (a b : Bool) → a ≡ false → b ≡ false → either a b ≡ false
unfolding either
either_of a b p q = rw (p, q)

pub same_of : (s t : List ℕ) → s ≡ t → same s t ≡ true
same_of s t e = rw e (same_refl t)
