use mathlib.Core.Path.{ap, ◌∙◌}
use Rattle.cipher.specs.Fips46.{des_encrypt}
use Rattle.cipher.specs.Fold.{under_each}
use Rattle.frame.specs.DesFrame.{des_mac}
use Rattle.frame.proofs.des.calculate_command_mac_des.Goals as goal

pub returns : goal.returns
unfolding des_mac
returns c = c.encrypt_des_under_each.ensures ∙ ap (under_each des_encrypt 8 _) c.mac_start-start.ensures
