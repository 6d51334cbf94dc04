use mathlib.Core.Path.{refl}
use Rattle.frame.specs.DesFrame.{mac_start}
use Rattle.frame.proofs.des.mac_start.Goals as goal

pub returns : goal.returns
unfolding mac_start
returns c = rw c.to_le_bytes.ensures refl
