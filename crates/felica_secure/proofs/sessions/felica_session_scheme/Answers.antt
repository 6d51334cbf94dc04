use mathlib.Core.Path.{refl, ◌∙◌}
use mathlib.Core.List.{[]}
use Rattle.answer.specs.Outcome.{over}
use Rattle.felica_secure.specs.Calls.{telling}
use Rattle.felica_secure.specs.SessionCalls.{call_scheme}
use Rattle.felica_secure.proofs.LoadedSessions.{untold, told}
use Rattle.felica_secure.proofs.sessions.felica_session_scheme.Goals as goal

pub returns-in-Ok : goal.returns-in-Ok
unfolding call_scheme telling over
returns-in-Ok c = told call_scheme _ c.in-Ok.context c.in-Ok.ensures [] [] (c.pack_all.ensures ∙ rw c.scheme.ensures) refl

pub returns-in-Err : goal.returns-in-Err
returns-in-Err c = untold call_scheme _ c.in-Err.refusal c.in-Err.ensures c.pack.ensures []
