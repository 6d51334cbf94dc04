-- `inv_s_box` meets its contract: the numbers of the table follow its rule. Assumes nothing.
use native.Mathlib.Omega.{arith}
use Rattle.cipher.proofs.AesTables.{inv_s_rule}
use Rattle.cipher.proofs.aes.inv_s_box.Goals as goal

pub returns : goal.returns
returns c = inv_s_rule.entry c.args.x (omega arith)
