-- `des::delta_swap` meets its contract: by its definition. Assumes nothing.
use mathlib.Core.Path.{refl}
use Rattle.cipher.specs.inner.DesTables.{delta_swap}
use Rattle.cipher.proofs.des.delta_swap.Goals as goal

pub returns : goal.returns
unfolding delta_swap
returns c = refl
