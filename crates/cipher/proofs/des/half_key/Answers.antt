-- `des::half_key` meets its contract: the sum of four entries of the table. Assumes nothing.
use mathlib.Core.Path.{ap₂, ◌∙◌}
use Rattle.cipher.specs.Bits.{◌⊞◌}
use Rattle.cipher.proofs.BitWords.{bits_xor}
use Rattle.cipher.proofs.des.half_key.Goals as goal

pub returns : goal.returns
returns c =
    bits_xor 32 _ _
    ∙ ap₂ ◌⊞◌ c.pick7-p.ensures
    (bits_xor 32 _ _ ∙ ap₂ ◌⊞◌ c.pick7-q.ensures (bits_xor 32 _ _ ∙ ap₂ ◌⊞◌ c.pick7-r.ensures c.pick7-s.ensures))
