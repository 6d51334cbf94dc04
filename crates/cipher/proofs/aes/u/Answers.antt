-- `u` meets its contract: the numbers of the table follow its rule. Assumes nothing.
use native.Mathlib.Omega.{arith}
use Rattle.cipher.proofs.AesTables.{u_rule}
use Rattle.cipher.proofs.aes.u.Goals as goal

pub returns : goal.returns
returns c = u_rule.entry c.args.x (omega arith)
