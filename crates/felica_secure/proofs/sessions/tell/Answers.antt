use mathlib.Core.Path.{refl}
use Rattle.std.proofs.Common.{rules}
use Rattle.felica_secure.proofs.LoadedSessions.{untold, told}
use Rattle.felica_secure.proofs.sessions.tell.Goals as goal

pub returns-in_err-load : goal.returns-in_err-load
returns-in_err-load g c = λ called h. untold called c.args.session.now c.in_err-load.field-0.0 c.in_err-load.ensures (search rules) _

pub returns : goal.returns
returns g c = λ called h.
    let i = c.in_ok-load.ensures in
    let k = (rw (← i.1) at h) _ _ _ refl c.call.ensures in
    told called c.args.session.now c.in_ok-load.field-0 i _ _ k.0 k.1
