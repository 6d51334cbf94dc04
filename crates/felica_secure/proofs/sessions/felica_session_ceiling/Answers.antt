use Rattle.std.proofs.Common.{rules}
use Rattle.felica_secure.specs.Calls.{telling}
use Rattle.felica_secure.specs.SessionCalls.{call_ceiling}
use Rattle.felica_secure.proofs.LoadedSessions.{told_by_map}
use Rattle.felica_secure.proofs.sessions.felica_session_ceiling.Goals as goal

pub returns : goal.returns
unfolding call_ceiling telling
returns c = told_by_map call_ceiling _ _ _ _ _ c.load.ensures c.map.ensures.cases c.pack.ensures (λ s a k. (search rules, search rules, search rules))
