use mathlib.Core.Path.{refl}
use Rattle.std.proofs.Common.{rules}
use Rattle.session.proofs.Encoding.{session_size}
use Rattle.felica_secure.proofs.LoadedSessions.{unkept, kept}
use Rattle.felica_secure.proofs.sessions.keep.Goals as goal

pub store-requires : goal.store-requires
store-requires g c = session_size _ c.in_ok-context.ensures.0

pub returns-in_err-context : goal.returns-in_err-context
returns-in_err-context g c = λ called h. unkept called c.args.session.now c.in_err-context.field-0.0 c.in_err-context.ensures (search rules) _

pub returns : goal.returns
returns g c = λ called h.
    let i = c.in_ok-context.ensures in
    let k = (rw (← i.1) at h) _ _ _ _ _ refl refl c.call-answer.ensures in
    kept called c.args.session.now c.in_ok-context.context i _ _ k.0 k.1 _ _ k.2 c.store.ensures
