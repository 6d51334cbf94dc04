use mathlib.Core.Path.{refl}
use Rattle.frame.specs.AesFrame.{aes_size}
use Rattle.frame.proofs.v2_aes.size_aes.Goals as goal

pub returns : goal.returns
unfolding aes_size
returns c = (c.if-n-gt-PAYLOAD_MAX.false, refl)
