use Rattle.std.proofs.Common.{◌∙◌, ◌≡◌, ◌+◌, length, ap, sym, arith, rules}
use mathlib.Core.List.{◌∷◌}
use Prim.Native.Nat.{ℕ}
use Rattle.session.proofs.NodeLists.{nodes_short, nodes_step}
use Rattle.session.specs.Entries.{nodes}
use Rattle.session.proofs.types.NodesIterator.next.Goals as goal

pub returns-in_err-node-clause-steps : goal.returns-in_err-node-clause-steps
returns-in_err-node-clause-steps c = let e = nodes_short c.args.self.now.rest.now c.in_err-node.ensures.cases in rw c.from_residual.ensures (e, e)

pub returns-clause-steps : goal.returns-clause-steps
returns-clause-steps c =
    let k = c.in_ok-node.ensures.cases in
    nodes_step _ _ _ k.0 k.1 k.2 ∙ ap (λ (n : ℕ). n ∷ nodes c.in_ok-node.rest.now) (sym c.from_le_bytes.ensures)

pub returns-clause-goes : goal.returns-clause-goes
returns-clause-goes c =
    let k = c.in_ok-node.ensures.cases in
    let n : length (nodes c.args.self.now.rest.now) ≡ length (nodes c.in_ok-node.rest.now) + 1 = ap length (nodes_step _ _ _ k.0 k.1 k.2) ∙ omega arith in
    record { on = search rules; keeps = search rules; rests = search rules }
