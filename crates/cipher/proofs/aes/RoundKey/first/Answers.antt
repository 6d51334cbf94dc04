-- `first` meets its contract: round key 0 is the key. Assumes nothing.
use mathlib.Core.Path.{refl}
use native.Mathlib.Omega.{arith}
use Rattle.cipher.proofs.AesSchedule.{first_key}
use Rattle.cipher.proofs.aes.RoundKey.first.Goals as goal

pub returns : goal.returns
returns c = first_key _ _ (omega arith) c.load.ensures refl
