use mathlib.Core.Path.{◌∙◌}
use Rattle.std.proofs.lemmas.Iterator.Adapters.{YieldsList-from_rev_slice}
use Rattle.std.proofs.lemmas.Iterator.Consumers.{YieldsList-from_copied}
use Rattle.cipher.proofs.DesWiths.{reverse_with, drained_numbers}
use Rattle.cipher.proofs.des.KeySchedule.decrypt.Goals as goal

pub returns : goal.returns
returns c =
    let h = c.under_keys.ensures in
    let k = drained_numbers h.0 h.1 (YieldsList-from_copied (YieldsList-from_rev_slice c.args.self.now.keys (cc))) in
    rw k at h.2 ∙ reverse_with _ _
