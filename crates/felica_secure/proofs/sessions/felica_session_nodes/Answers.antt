use mathlib.Core.Path.{refl}
use native.Mathlib.Omega.{arith}
use Prim.Native.Nat.{◌*◌}
use Rattle.std.proofs.Common.{rules}
use lib.ListN.{length, take}
use Rattle.answer.specs.Delivery.{delivering, Delivers}
use Rattle.answer.proofs.Pieces.{no_longer}
use Rattle.answer.proofs.Rows.{delivers_meets}
use Rattle.session.specs.Record.{decode}
use Rattle.session.specs.Session.{listed_count}
use Rattle.felica_secure.specs.Calls.{answering}
use Rattle.felica_secure.specs.SessionCalls.{call_nodes}
use Rattle.session.proofs.Encoding.{decoded_nodes}
use Rattle.felica_secure.proofs.sessions.felica_session_nodes.Goals as goal

pub returns : goal.returns
unfolding call_nodes answering
returns c = rw c.pack.ensures (c.tell.ensures (call_nodes (length c.args.out.now)) (λ x y r e k.
    let s = decode c.args.session.now in
    let d : Delivers (delivering 0 (take (listed_count s.node_count * 2) s.nodes) (length c.args.out.now)) r c.args.out.now y.now = search rules in
    let m = delivers_meets _ 0 _ _ d (no_longer _ 65535 _ _ refl (omega (arith, decoded_nodes c.args.session.now))) in
    (rw (m.number, m.length_is, m.transaction, m.padding), m.output)))
