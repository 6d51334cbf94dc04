use native.Mathlib.Omega.{arith}
use Rattle.std.proofs.Common.{rules}
use lib.ListN.{length}
use Rattle.answer.specs.Delivery.{delivering, Delivers}
use Rattle.answer.proofs.Rows.{delivers_meets}
use Rattle.session.specs.Record.{decode}
use Rattle.felica_secure.specs.Calls.{answering}
use Rattle.felica_secure.specs.SessionCalls.{call_id}
use Rattle.session.proofs.Encoding.{decoded_id}
use Rattle.felica_secure.proofs.sessions.felica_session_transaction_id.Goals as goal

pub returns : goal.returns
unfolding call_id answering
returns c = rw c.pack.ensures (c.tell.ensures (call_id (length c.args.out.now)) (λ x y r e k.
    let d : Delivers (delivering 0 (decode c.args.session.now).transaction_id (length c.args.out.now)) r c.args.out.now y.now = search rules in
    let m = delivers_meets _ 0 _ _ d (omega (arith, decoded_id c.args.session.now)) in
    (rw (m.number, m.length_is, m.transaction, m.padding), m.output)))
