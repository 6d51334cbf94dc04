use mathlib.Core.Path.{refl, sym}
use native.Mathlib.Omega.{arith}
use Rattle.std.proofs.Common.{rules}
use Rattle.answer.specs.declared.refusal.Refusal.TheVariants.{BadMarkOrLength}
use Rattle.answer.proofs.Rows.{refusal_some}
use Rattle.session.proofs.SessionSteps.{make_numbers}
use Rattle.felica_secure.specs.SessionCalls.{kept_session}
use Rattle.felica_secure.proofs.KeptStates.{making_other_size, making_refused, making_made}
use Rattle.felica_secure.proofs.LoadedSessions.{packed_refusal, packed_bad}
use Rattle.felica_secure.proofs.sessions.make.Goals as goal

pub returns-then-session-ne180 : goal.returns-then-session-ne180
returns-then-session-ne180 c = making_other_size kept_session _ _ _ _ c.if-session-ne180.true (packed_bad BadMarkOrLength refl refl)

pub returns-in_err-context : goal.returns-in_err-context
returns-in_err-context c =
    let e = c.in_err-context.field-0.0 in
    making_refused kept_session _ _ _ _ c.if-session-ne180.false _ (sym c.in_err-context.ensures) (refusal_some e) (packed_refusal e (search rules))

pub returns : goal.returns
returns c =
    let m = c.in_ok-context.ensures in
    making_made kept_session _ _ _ _ c.if-session-ne180.false _ (sym m.0) (make_numbers _ _ _ _) refl _ _ m.1 c.store.ensures (omega arith) (rw (c.sized.ensures.0, c.sized.ensures.1, c.sized.ensures.2))
