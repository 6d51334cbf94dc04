use native.Mathlib.Omega.{arith}
use mathlib.Core.Path.{◌≡◌}
use Prim.Native.Nat.{◌+◌, ◌≤◌, min}
use Rattle.std.proofs.Common.{⊎_elim, rules}
use Rattle.answer.specs.Refusal.{refusal_number}
use Rattle.session.specs.Session.{with_count}
use Rattle.session.proofs.SessionSteps.{counted, not_counted, number_not_counted}
use Rattle.session.proofs.context.AuthenticatedContext.count_turned_away.Goals as goal
use Rattle.session.proofs.context.AuthenticatedContext.count_turned_away.Goals.{in-NotWholeBlocks, in_default}

pub returns-then-counted : goal.returns-then-counted
unfolding with_count
returns-then-counted c =
    elim c.match-matches.branch [
      | in-NotWholeBlocks w ↦
          let s = c.args.self.now in
          let k : (10 ≤ refusal_number c.args.refusal) × (refusal_number c.args.refusal ≤ 15) =
          ⊎_elim (λ q. grind arith) (⊎_elim (λ q. grind arith) (⊎_elim (λ q. grind arith) (⊎_elim (λ q. grind arith) (⊎_elim (λ q. grind arith) (λ q. grind arith))))) w.in-NotWholeBlocks.is in
          let more : c.saturating_add-self.result ≡ min (s.turned_away + 1) 65535 = c.saturating_add-self.ensures in
          rw more (counted (refusal_number c.args.refusal) s k.0 k.1 (omega arith))
      | in_default w ↦ absurd (search rules)
    ]

pub returns-else-counted : goal.returns-else-counted
returns-else-counted c =
    elim c.match-matches.branch [
      | in-NotWholeBlocks w ↦ absurd (search rules)
      | in_default w ↦
          let d = w.in_default in
          not_counted (refusal_number c.args.refusal) c.args.self.now (number_not_counted _ d.not-NotWholeBlocks d.not-TooShort d.not-TooLong d.not-MacDiffers d.not-IdDiffers d.not-NumberNotAbove)
    ]
