use native.Mathlib.Omega.{arith}
use mathlib.Core.Path.{sym}
use Rattle.session.specs.Session.{index}
use Rattle.session.proofs.NodeLists.{length_nodes}
use Rattle.session.proofs.Nodes.{index_found, index_missing, listed_low}
use Rattle.session.proofs.context.AuthenticatedContext.node_index.Goals as goal

pub returns-in-Some : goal.returns-in-Some
unfolding index
returns-in-Some c =
    rw c.listed.ensures.0 at (index_found c.args.self.now.nodes c.listed.result c.args.node _ c.in-Some.ensures.0 (omega arith) c.if-place-listed.true)

pub returns-in_default : goal.returns-in_default
unfolding index
returns-in_default c =
    rw c.listed.ensures.0 at (index_missing c.args.self.now.nodes c.listed.result c.args.node _ c.in-Some.ensures.0 (omega arith) c.if-place-listed.false)

pub returns-in_default-2 : goal.returns-in_default-2
unfolding index
returns-in_default-2 c =
    let s = c.args.self.now in
    let low = listed_low s.node_count in
    index_missing s.nodes _ c.args.node _ (sym c.in_default.ensures) (omega (arith, low)) (omega (arith, low, length_nodes s.nodes))
