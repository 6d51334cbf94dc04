-- `te` meets its contract: the numbers of the table follow its rule. Assumes nothing.
use native.Mathlib.Omega.{arith}
use Rattle.cipher.proofs.AesTables.{te_rule}
use Rattle.cipher.proofs.aes.te.Goals as goal

pub returns : goal.returns
returns c = te_rule.entry c.args.x (omega arith)
