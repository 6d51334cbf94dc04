use mathlib.Core.Path.{ap, ◌∙◌}
use mathlib.Core.List.{reverse}
use Rattle.cipher.proofs.DesKeys.{keys_back_lem}
use Rattle.cipher.proofs.des.RoundKeys.new.Goals as goal

pub returns-clause-last : goal.returns-clause-last
returns-clause-last c = keys_back_lem _ _ ∙ ap reverse c.of_key-halves.ensures
