use Rattle.std.proofs.Common.{rules}
use lib.ListN.{length}
use Rattle.felica_secure.specs.Calls.{answering}
use Rattle.felica_secure.specs.SessionCalls.{call_receive}
use Rattle.felica_secure.proofs.sessions.felica_session_apply_response.Goals as goal

pub returns : goal.returns
unfolding call_receive answering
returns c = rw c.pack.ensures (c.keep.ensures (call_receive c.args.code c.args.«data».now (length c.args.out.now)) (λ s t x y r i e k. (search rules, search rules, search rules)))
