use mathlib.Core.Path.{◌∙◌}
use native.Mathlib.Omega.{arith}
use Rattle.felica_secure.specs.Packed.{packed}
use Rattle.felica_secure.proofs.pack.pack_all.Goals as goal

pub returns : goal.returns
unfolding packed
returns c = (rw (c.to_le_bytes.ensures, c.to_le_bytes-2.ensures) at c.from_le_bytes.ensures) ∙ omega arith
