use mathlib.Core.Path.{◌∙◌}
use native.Mathlib.Omega.{arith}
use native.Mathlib.Nat.{min-le_right}
use Rattle.session.proofs.Nodes.{listed_is}
use Rattle.session.proofs.context.AuthenticatedContext.listed.Goals as goal

pub returns : goal.returns
returns c =
    let e = c.from.ensures ∙ c.min.ensures in
    (listed_is _ _ e, omega (arith, e, min-le_right c.args.self.now.node_count 64))
