use Rattle.std.proofs.Common.{rules}
use lib.ListN.{length}
use Rattle.felica_secure.specs.Calls.{answering}
use Rattle.felica_secure.specs.SessionCalls.{call_seal}
use Rattle.felica_secure.proofs.sessions.felica_session_encrypt_command.Goals as goal

pub returns : goal.returns
unfolding call_seal answering
returns c = rw c.pack.ensures (c.tell.ensures (call_seal c.args.code c.args.payload.now (length c.args.out.now)) (λ x y r e k. (search rules, search rules)))
